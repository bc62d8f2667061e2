use Rattle.std.proofs.Common.{◌≡◌, ℕ, ◌<◌, true}
use Rattle.ucd.specs.Images.{point_at}
use Rattle.ucd.specs.Pages.{answers_at}
use Rattle.ucd.proofs.image_points.are_points_flagged.Given as goal

abbrev pub invariant-loop-k : goal.invariant-loop-k
invariant-loop-k g l = (k : ℕ) → k < l.k
    → g.P.Point.flag (answers_at l.pages.index.items l.pages.entries.items (point_at g.P.Point.decode l.bytes l.start k)) ≡ true
