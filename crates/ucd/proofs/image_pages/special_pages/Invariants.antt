use Rattle.std.proofs.Common.{◌≡◌, ℕ, ◌+◌, ◌*◌, ◌<◌, false, length, get_or}
use Rattle.ucd.specs.Answers.{unnamed}
use Rattle.ucd.specs.ImagePages.{IsOrdinary}
use Rattle.ucd.proofs.image_pages.special_pages.Given as goal

abbrev pub invariant-loop-page : goal.invariant-loop-page
invariant-loop-page l = (length l.special.items ≡ l.page)
    × ((p : ℕ) → p < l.page → get_or l.special.items p false ≡ false → (k : ℕ) → k < 256 → IsOrdinary (get_or l.entries (p * 256 + k) unnamed))
