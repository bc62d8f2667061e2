pub mod BoolLemmas
pub mod Computed
pub mod Computed17
pub mod DoublingLemmas
pub mod DoublingRows
pub mod DoublingRows17
pub mod FoundLemmas
pub mod NarrowLemmas
pub mod NumberLemmas
pub mod OrdinaryLemmas
pub mod OrdinaryLemmas17
pub mod PassLemmas
pub mod PassLemmas17
pub mod QuestionLemmas
pub mod QuestionLemmas17
pub mod ReasonLemmas
pub mod ReasonMarks
pub mod ReasonSteps
pub mod StepLemmas
pub mod StepLemmas17
pub mod SymbolLemmas
pub mod SymbolLemmas17
pub mod WalkLemmas
mod WorkedRows
mod WorkedRows17
