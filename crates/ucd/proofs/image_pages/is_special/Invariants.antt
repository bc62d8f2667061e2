use Rattle.std.proofs.Common.{◌≡◌, ℕ, ◌+◌, ◌<◌, false, get_or}
use Rattle.ucd.specs.Answers.{unnamed}
use Rattle.ucd.specs.ImagePages.{IsOrdinary}
use Rattle.ucd.proofs.image_pages.is_special.Given as goal

abbrev pub invariant-loop-k : goal.invariant-loop-k
invariant-loop-k l = l.special ≡ false → (j : ℕ) → j < l.k → IsOrdinary (get_or l.entries (l.start + j) unnamed)
