mod BracketLemmas
mod JoinerLemmas
mod InPlaceLemmas
