use Rattle.std.proofs.Common.{◌≡◌, ℕ, ◌*◌, ◌<◌, ◌≤◌, true, IsSome}
use Rattle.std.specs.BTreeMap.{get}
use Rattle.std.specs.Ordering.{nat_cmp}
use Rattle.ucd.specs.Pages.{answers_at}
use Rattle.ucd.proofs.image_points.are_flags_points_of.Given as goal

abbrev pub invariant-loop-c : goal.invariant-loop-c
invariant-loop-c g l = (c : ℕ) → l.block * 256 ≤ c → c < l.c
    → g.P.Point.flag (answers_at l.pages.index.items l.pages.entries.items c) ≡ true → IsSome (get nat_cmp l.points c)
