use Rattle.std.proofs.Common.{◌≡◌, ℕ, ◌<◌, true, false}
use Rattle.ucd.specs.Images.{page_number}
use Rattle.ucd.proofs.image_pages.are_pages_known.Given as goal

abbrev pub invariant-loop-block : goal.invariant-loop-block
invariant-loop-block l = (l.known ≡ true → (k : ℕ) → k < l.block → page_number l.bytes k < l.pages)
    × (l.known ≡ false → ¬ ((k : ℕ) → k < 4352 → page_number l.bytes k < l.pages))
