use Rattle.std.proofs.Common.{◌≡◌, ◌-◌, ◌≤◌, ◌/◌, ◌%◌, ◌==◌, length}
use Rattle.bidi.specs.Rows.{AreGuessed, row_of}
use Rattle.bidi.proofs.neutral.resolve_neutral.Given as goal

abbrev pub invariant-loop-at : goal.invariant-loop-at
invariant-loop-at l = record {
  within : l.at ≤ length l.types;
  row : l.row ≡ row_of l.level (l.row / 32 % 2);
  guessed : AreGuessed l.level l.fn.sos l.eos l.types l.levels (l.row / 32 % 2 == 1) l.at;
}

abbrev pub decreases-loop-at : goal.decreases-loop-at
decreases-loop-at l = length l.types - l.at
