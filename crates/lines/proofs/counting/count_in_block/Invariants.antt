use Rattle.std.proofs.Common.{◌≡◌, count_by, take}
use Rattle.lines.specs.Counting.{is_lead_byte}
use Rattle.lines.proofs.counting.count_in_block.Given as goal

abbrev pub invariant-loop-byte : goal.invariant-loop-byte
invariant-loop-byte l = l.count ≡ count_by is_lead_byte (take l.byte-index l.block)
