use Rattle.std.proofs.Common.{◌≡◌, ℕ, ◌<◌, true, false, IsTrue}
use Rattle.ucd.specs.Images.{image_version, entry_at, is_entry}
use Rattle.ucd.proofs.image_pages.are_entries.Given as goal

abbrev pub invariant-loop-i : goal.invariant-loop-i
invariant-loop-i l = (l.valid ≡ true → (k : ℕ) → k < l.i → IsTrue (is_entry (image_version l.bytes) (entry_at l.bytes k)))
    × (l.valid ≡ false → ¬ ((k : ℕ) → k < l.count → IsTrue (is_entry (image_version l.bytes) (entry_at l.bytes k))))
