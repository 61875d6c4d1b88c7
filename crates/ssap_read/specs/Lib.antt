pub mod Told
pub mod Tags
pub mod Attributes
pub mod Tables
pub mod Pieces
pub mod Declarations
