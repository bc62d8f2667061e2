use Rattle.ucd.proofs.ImageParts.{adds_16}
use Rattle.ucd.proofs.image_parts.push_u16.Goals as goal

pub returns : goal.returns
returns c = rw (c.in_ok-push-2.ensures.items, c.in_ok-push.ensures.items) (adds_16 c.args.bytes.now.items c.args.number)
