pub mod OneOrderMore
