mod CommandsSaid
mod StatusesMean
mod TrialsMean
pub mod KpEnds
pub mod KpPrintsTruth
pub mod SpacesCross
