pub mod QueryLemmas
pub mod ListingLemmas
pub mod EdgeLemmas
pub mod CommandLemmas
pub mod ScriptLemmas
pub mod ScriptStepLemmas
pub mod StartLemmas
pub mod WorkLemmas
pub mod ReasonLemmas
mod WorkedRows
