mod ChangeLemmas
mod InsertionLemmas
mod JoinLemmas
mod PairLemmas
mod ShapingLemmas
mod SliceLemmas
mod WorkedLines
mod WorkedRows
