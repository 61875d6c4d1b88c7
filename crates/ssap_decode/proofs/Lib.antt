pub mod Spelled
pub mod Extending
pub mod Feeding
pub mod Beginning
pub mod Standing
pub mod Progressing
pub mod OneByte
