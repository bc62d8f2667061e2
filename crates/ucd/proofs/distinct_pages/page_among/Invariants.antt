use Rattle.std.proofs.Common.{ℕ, ◌+◌, ◌<◌, ◌≤◌}
use Rattle.ucd.specs.DistinctPages.{IsPage}
use Rattle.ucd.proofs.distinct_pages.page_among.Given as goal

abbrev pub invariant-loop-back : goal.invariant-loop-back
invariant-loop-back l = (p : ℕ) → l.count ≤ p + l.back → p < l.count → ¬ (IsPage l.entries p l.page)
