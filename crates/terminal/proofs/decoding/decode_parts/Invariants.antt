use Rattle.std.proofs.Common.{◌-◌, length}
use Rattle.terminal.specs.Decoding.{IsDecoded}
use Rattle.terminal.proofs.decoding.decode_parts.Given as goal

abbrev pub invariant-loop-at : goal.invariant-loop-at
invariant-loop-at l = IsDecoded l.bytes l.at l.fn.characters.items l.characters.items

abbrev pub decreases-loop-at : goal.decreases-loop-at
decreases-loop-at l = length l.bytes - l.at
