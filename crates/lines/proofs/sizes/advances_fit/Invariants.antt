use Rattle.std.proofs.Common.{◌≡◌, ◌*◌, ◌≤◌, sum, take}
use Rattle.lines.proofs.sizes.advances_fit.Given as goal

abbrev pub invariant-loop-advance : goal.invariant-loop-advance
invariant-loop-advance l = record {
  sum : l.sum ≡ sum (take l.advance-index l.advances);
  few : l.sum ≤ 4294967295 * l.advance-index;
}
