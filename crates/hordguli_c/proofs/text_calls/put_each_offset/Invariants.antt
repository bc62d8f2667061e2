use Rattle.std.proofs.Common.{◌≡◌, length, map, take}
use Rattle.std.specs.List.{range_with_len}
use Rattle.std.specs.Str.{chars}
use Rattle.hordguli_c.specs.Texts.{offset_at}
use Rattle.hordguli_c.proofs.text_calls.put_each_offset.Given as goal

-- the offsets of the characters yielded so far are in the array
abbrev pub invariant-loop-c : goal.invariant-loop-c
invariant-loop-c l =
    (l.k ≡ length l.yielded) × (l.offset ≡ offset_at (chars l.text) l.k)
    × (take l.k l.array ≡ map (offset_at (chars l.text)) (range_with_len 0 l.k))
