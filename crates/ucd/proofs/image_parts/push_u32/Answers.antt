use Rattle.ucd.proofs.ImageParts.{adds_32}
use Rattle.ucd.proofs.image_parts.push_u32.Goals as goal

pub returns : goal.returns
returns c = adds_32 c.args.bytes.now.items c.push_u16.new.bytes.items c.push_u16-2.new.bytes.items c.args.number c.in_ok-push_u16.ensures c.in_ok-push_u16-2.ensures
