use Rattle.std.proofs.Common.{◌≡◌, ℕ, ◌-◌, ◌+◌, ◌<◌, ◌≤◌, ◌⊎◌}
use Rattle.std.specs.BTreeMap.{get}
use Rattle.std.specs.Ordering.{nat_cmp}
use Rattle.ucd.specs.Images.{point_at, found, ArePoints}
use Rattle.ucd.proofs.image_points.points_in.Given as goal

abbrev pub invariant-loop-k : goal.invariant-loop-k
invariant-loop-k g l = record {
  points : (c : ℕ) → get nat_cmp l.points c ≡ found g.P.Point.decode l.bytes l.start l.k c;
  are : ArePoints g.P.Point.decode l.bytes l.start l.k;
  below : (j : ℕ) → j < l.k → point_at g.P.Point.decode l.bytes l.start j < l.next;
  last : (l.next ≡ 0) ⊎ ((0 < l.k) × (l.next ≡ point_at g.P.Point.decode l.bytes l.start (l.k - 1) + 1));
  room : l.next ≤ 1114112;
}
