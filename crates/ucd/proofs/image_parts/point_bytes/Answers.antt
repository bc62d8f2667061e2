use Rattle.std.proofs.Common.{refl, arith}
use Rattle.std.specs.BTreeMap.{get}
use Rattle.std.specs.Ordering.{nat_cmp}
use Rattle.ucd.proofs.ImageParts.{points_none, points_next}
use Rattle.ucd.proofs.image_parts.point_bytes.Goals as goal

pub loop-c-init : goal.loop-c-init
loop-c-init g c = rw c.new-bytes.ensures.items (points_none g.P.Point.decode (get nat_cmp c.args.points.now))

pub loop-c-preserved : goal.loop-c-preserved
loop-c-preserved g c =
    points_next g.P.Point.decode (get nat_cmp c.args.points.now) c.loop-c.bytes.items c.push_if_there.new.bytes.items c.loop-c.c
    (get nat_cmp c.args.points.now c.loop-c.c) (omega arith) refl c.loop-c.invariant c.in_ok-push_if_there.ensures
