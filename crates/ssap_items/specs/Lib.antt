pub mod Canon
pub mod Tags
