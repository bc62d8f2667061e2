use Rattle.std.proofs.Common.{◌≡◌, ℕ, ◌<◌, true, get_or}
use Rattle.ucd.specs.Answers.{unnamed}
use Rattle.ucd.proofs.pages.are_equal.Given as goal

abbrev pub invariant-loop-k : goal.invariant-loop-k
invariant-loop-k l = (l.equal ≡ true → (j : ℕ) → j < l.k → get_or l.one j unnamed ≡ get_or l.other j unnamed) × (l.one ≡ l.other → l.equal ≡ true)
