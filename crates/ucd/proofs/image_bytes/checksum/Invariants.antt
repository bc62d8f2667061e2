use Rattle.std.proofs.Common.{◌≡◌}
use Rattle.ucd.specs.Images.{checksum}
use Rattle.ucd.proofs.image_bytes.checksum.Given as goal

abbrev pub invariant-loop-k : goal.invariant-loop-k
invariant-loop-k l = l.sum ≡ checksum l.bytes l.k
