use Rattle.std.proofs.Common.{add-one, refl}
use Rattle.ucd.specs.Images.{checksum}
use Rattle.ucd.proofs.image_bytes.checksum.Goals as goal

pub loop-k-init : goal.loop-k-init
unfolding checksum
loop-k-init c = refl

pub loop-k-preserved : goal.loop-k-preserved
unfolding checksum
loop-k-preserved c = rw (add-one, c.u64_at.ensures, ← c.loop-k.invariant) refl
