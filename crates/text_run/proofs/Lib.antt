pub mod CountLemmas
pub mod Devices
pub mod Fronts
pub mod LongLemmas
pub mod PieceLemmas
pub mod PrintLemmas
pub mod PushLemmas
pub mod RemainderLemmas
pub mod StartLemmas
pub mod StepLemmas
pub mod StopLemmas
pub mod StreamLemmas
mod WorkedRows
