pub mod InputsJudged
pub mod FineInputs
pub mod StopsPlaced
pub mod MessagesGiven
pub mod EndingsTell
pub mod ReadsGoOn
