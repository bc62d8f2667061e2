use Rattle.std.specs.BTreeMap.{get}
use Rattle.std.specs.Ordering.{nat_cmp}
use Rattle.ucd.proofs.ImageParts.{PointsBelow}
use Rattle.ucd.proofs.image_parts.point_bytes.Given as goal

abbrev pub invariant-loop-c : goal.invariant-loop-c
invariant-loop-c g l = PointsBelow g.P.Point.decode (get nat_cmp l.points) l.bytes.items l.c
