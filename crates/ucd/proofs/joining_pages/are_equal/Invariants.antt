use Rattle.std.proofs.Common.{◌≡◌, ℕ, ◌<◌, true, get_or}
use Rattle.ucd.specs.declared.joining_type.JoiningType.TheVariants.{NonJoining}
use Rattle.ucd.proofs.joining_pages.are_equal.Given as goal

abbrev pub invariant-loop-k : goal.invariant-loop-k
invariant-loop-k l = l.equal ≡ true → (j : ℕ) → j < l.k → get_or l.one j NonJoining ≡ get_or l.other j NonJoining
