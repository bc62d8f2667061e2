pub mod CommandLineLemmas
pub mod DefaultLemmas
mod TabLemmas
