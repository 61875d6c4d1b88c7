mod Places
pub mod FaultsFound
mod CallsDrafted
pub mod ConditionsDrafted
pub mod ReadingsExact
pub mod TextsDrafted
pub mod QueriesDrafted
pub mod QueriesMade
pub mod TextsRead
pub mod TriplesDrafted
pub mod GroupsDrafted
