mod ExchangeLemmas
mod FindLemmas
mod FitsLemmas
mod JoinLemmas
pub mod ListLemmas
mod SubtreeLemmas
mod SumsLemmas
mod SwapLemmas
mod TreeLemmas
