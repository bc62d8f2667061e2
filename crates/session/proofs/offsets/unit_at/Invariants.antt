use Rattle.std.proofs.Common.{◌≡◌, ◌+◌, take}
use Rattle.session.specs.Offsets.{length_in}
use Rattle.session.proofs.offsets.unit_at.Given as goal

abbrev pub invariant-loop-pos : goal.invariant-loop-pos
invariant-loop-pos l = length_in l.encoding (take l.pos l.text) + l.rest ≡ l.offset
