-- Quick tests for characters that have one column; most letters pass them. No contract of an exported
-- function uses these definitions.
use Rattle.std.specs.Prelude.{ℕ, Bool, false, ◌||◌, List, [], ◌∷◌}
use Rattle.lines.specs.Clusters.{lies_in}

abbrev pub lies_in_any : List (ℕ × ℕ) → ℕ → Bool
lies_in_any [] c = false
lies_in_any (range ∷ ranges) c = lies_in range.0 range.1 c || lies_in_any ranges c

-- ranges of code points that have one column: Latin, Greek, Cyrillic, Hebrew and Arabic letters except
-- U+05DC, and code points between them
abbrev pub narrow_ranges : List (ℕ × ℕ)
narrow_ranges = (0xAE, 0x2FF) ∷ (0x370, 0x482) ∷ (0x5D0, 0x5DB) ∷ (0x5DD, 0x5EA) ∷ (0x620, 0x64A) ∷ []

abbrev pub is_narrow : ℕ → Bool
is_narrow c = lies_in_any narrow_ranges c

-- whether a code point is printable ASCII
abbrev pub is_printable : ℕ → Bool
is_printable c = lies_in 0x20 0x7E c

-- whether a code point is printable ASCII, U+05DC, or in one of the ranges above
abbrev pub is_common : ℕ → Bool
is_common c = is_printable c || (lies_in 0xAE 0x2FF c || (lies_in 0x370 0x482 c || (lies_in 0x5D0 0x5EA c || lies_in 0x620 0x64A c)))
