pub mod KnownLemmas
pub mod LawLemmas
pub mod LookLemmas
pub mod OutputLemmas
pub mod PartLemmas
pub mod SameLookLemmas
pub mod PieceLemmas
pub mod PlainLemmas
pub mod ProgressLemmas
pub mod ScannerLemmas
pub mod ShownLemmas
pub mod StepLemmas
pub mod StyleLemmas
mod WorkedRows
