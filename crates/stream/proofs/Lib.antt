pub mod EncodingLemmas
mod MoveLemmas
mod PackingLemmas
mod ShortLemmas
mod ShortTextLemmas
pub mod Utf8Lemmas
