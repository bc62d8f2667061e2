use Rattle.std.proofs.Common.{◌≡◌, ◌+◌, ◌≤◌, ◌*◌, length}
use Rattle.session.specs.Offsets.{length_in}
use Rattle.session.proofs.offsets.Encoding.length.Given as goal

-- the count so far, plus the units of the rest, is the number of units of the text
abbrev pub invariant-loop-rest : goal.invariant-loop-rest
invariant-loop-rest l = record {
  all : l.length + length_in l.self l.rest ≡ length_in l.self l.text;
  few : l.length + 4 * length l.rest ≤ 4 * length l.text;
}

abbrev pub decreases-loop-rest : goal.decreases-loop-rest
decreases-loop-rest l = length l.rest
