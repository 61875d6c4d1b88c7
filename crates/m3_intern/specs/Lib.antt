pub mod Interned
pub mod Inside
pub mod Tables
pub mod Laws
