use Rattle.std.proofs.Common.{◌≤◌, ℕ, take}
use Rattle.std.specs.List.{All}
use Rattle.session.proofs.WidthLemmas.{values, Each, HasRoom}
use Rattle.session.proofs.width.longest.Given as goal

-- `most` is the length of the longest paragraph so far, which is the least capacity that is enough for all of
-- them
abbrev pub invariant-loop-kept : goal.invariant-loop-kept
invariant-loop-kept l = record {
  so_far : Each (HasRoom l.most) (take l.kept-index (values l.list));
  least : (n : ℕ) → All (HasRoom n) (values l.list) → l.most ≤ n;
}
