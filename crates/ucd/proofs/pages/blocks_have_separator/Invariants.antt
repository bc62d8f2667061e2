use Rattle.std.proofs.Common.{◌≡◌, ◌≢◌, ℕ, ◌*◌, ◌<◌, ◌≤◌, true, false}
use Rattle.ucd.specs.Pages.{answers_at}
use Rattle.ucd.specs.declared.bidi_class.BidiClass.TheVariants.{B}
use Rattle.ucd.proofs.pages.blocks_have_separator.Given as goal

abbrev pub invariant-loop-place : goal.invariant-loop-place
invariant-loop-place l = (l.found ≡ false → (c : ℕ) → l.first * 256 ≤ c → c < l.place * 256 → (answers_at l.index l.entries c).bidi_class ≢ B)
    × (l.found ≡ true → ¬ ((c : ℕ) → l.first * 256 ≤ c → c < l.place * 256 → (answers_at l.index l.entries c).bidi_class ≢ B))
