pub mod OneNumberMore
