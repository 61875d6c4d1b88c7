pub mod Beginnings
pub mod CallsOfANumber
pub mod NumbersOfASplit
pub mod SeatsByPlace
pub mod StepsKeepTheRule
pub mod ViewsFitTheHistory
pub mod TheMachineIsOut
pub mod Words
