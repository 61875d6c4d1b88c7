mod DifferencesLead
mod SameRows
mod PlaceByPlace
mod GrownTables
mod StandingLaws
mod MovedRows
mod HalfDone
mod NoDifference
