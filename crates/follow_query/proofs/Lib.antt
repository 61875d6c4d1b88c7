pub mod TakenEvents
