pub mod Exchanging
pub mod Finding
pub mod Subtrees
pub mod SubtreesFall
pub mod Sums
pub mod Trees
