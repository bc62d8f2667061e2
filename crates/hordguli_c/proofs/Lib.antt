mod DecodeLemmas
mod PageLemmas
mod PartLemmas
mod RowLemmas
mod RunLemmas
mod SessionSteps
mod SpanLemmas
mod TablesSteps
