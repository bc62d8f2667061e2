use Rattle.std.proofs.Common.{ℕ, ◌<◌, ◌≤◌}
use Rattle.std.specs.List.{slice_index}
use Rattle.session.proofs.offsets.largest.Given as goal

-- no character so far is larger
abbrev pub invariant-loop-c : goal.invariant-loop-c
invariant-loop-c l = (k : ℕ) → k < l.c-index → slice_index l.text k ≤ l.largest
