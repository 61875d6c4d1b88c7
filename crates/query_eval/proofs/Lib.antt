pub mod Counts
pub mod ListsOfRows
mod RowsOfOperators
mod Sides
mod Rooms
mod TakenRows
pub mod Projections
pub mod SumsDecideReads
