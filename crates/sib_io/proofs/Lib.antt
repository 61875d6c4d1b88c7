pub mod KnownLemmas
pub mod GatheredLemmas
pub mod ConnectionLemmas
