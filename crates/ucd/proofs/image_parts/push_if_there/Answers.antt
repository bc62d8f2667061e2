use Rattle.std.proofs.Common.{◌≡◌, ◌∙◌, Some, sym}
use Rattle.std.specs.BTreeMap.{get}
use Rattle.std.specs.Ordering.{nat_cmp}
use Rattle.ucd.proofs.ImageParts.{adds_point}
use Rattle.ucd.proofs.image_parts.push_if_there.Goals as goal

pub returns-in_ok-push_u32-in-Some-2 : goal.returns-in_ok-push_u32-in-Some-2
returns-in_ok-push_u32-in-Some-2 g c =
    let some : get nat_cmp c.args.points.now c.args.c ≡ Some c.in-Some.value = sym c.get.ensures.value ∙ sym c.copied.ensures ∙ c.in-Some.is in
    rw some (adds_point g.P.Point.decode c.args.bytes.now.items c.push_u32.new.bytes.items c.push_u32-in-Some.new.bytes.items c.args.c
    c.number.result c.in-Some.value c.number.ensures c.in_ok-push_u32-in-Some.ensures c.in_ok-push_u32-in-Some-2.ensures)
