use Rattle.ucd.proofs.ImageParts.{adds_checksum}
use Rattle.ucd.proofs.image_write.push_checksum.Goals as goal

pub returns : goal.returns
returns c =
    adds_checksum c.args.bytes.now.items c.push_u32.new.bytes.items c.push_u32-2.new.bytes.items c.whole_checksum-sum.result
    (rw c.deref.ensures.value at c.whole_checksum-sum.ensures) c.in_ok-push_u32.ensures c.in_ok-push_u32-2.ensures
