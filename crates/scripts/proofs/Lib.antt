mod RunLemmas
mod WorkedRows
