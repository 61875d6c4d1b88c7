pub mod White
pub mod PieceKinds
pub mod Runs
pub mod EndKinds
pub mod Readings
pub mod Places
pub mod Cdata
