use Rattle.std.proofs.Common.{◌≡◌, take, string_bytes}
use Rattle.std.specs.Char.{encode_utf8}
use Rattle.std.specs.List.{flat_map}
use Rattle.lines.proofs.clusters.spell.Given as goal

-- the bytes so far are those of the first k characters
abbrev pub invariant-loop-k : goal.invariant-loop-k
invariant-loop-k l = string_bytes l.utf8 ≡ flat_map encode_utf8 (take l.k l.text)
