pub mod Mirroring
pub mod Applying
pub mod MirrorLaws
pub mod MirrorExamples
pub mod Asked
pub mod Causes
