-- Where a paragraph ends, and the paragraphs of a text (UAX #9, P1).
use Rattle.std.specs.Prelude.{◌≡◌, ℕ, ◌-◌, ◌<◌, ◌==◌, ◌&&◌, not, Bool, false, List, [], ◌∷◌, length, take, drop, slice_index, Option, Some, None, if◌then◌else◌}
use Rattle.std.specs.List.{onto_first}
use Rattle.ucd.specs.declared.bidi_class.BidiClass.{BidiClass}
use Rattle.ucd.specs.Least.{least}
use Rattle.ucd.specs.Classes.{is_separator}
use Rattle.ucd.specs.Separators.{may_separate}

-- There is a paragraph boundary (a cut) after a separator, but not between U+000D and U+000A if both are separators.
abbrev pub cut : (ℕ → BidiClass) → ℕ → ℕ → Bool
cut class_of before after =
    is_separator (class_of before) && not (before == 13 && (after == 10 && is_separator (class_of after)))

-- The parts of a text between its boundaries. The first character joins the first part of the remaining text,
-- unless there is a boundary after this character.
abbrev pub paragraphs : (ℕ → ℕ → Bool) → List ℕ → List (List ℕ)
paragraphs is_cut [] = []
paragraphs is_cut (a ∷ []) = (a ∷ []) ∷ []
paragraphs is_cut (a ∷ b ∷ text) =
    if is_cut a b then (a ∷ []) ∷ paragraphs is_cut (b ∷ text) else onto_first a (paragraphs is_cut (b ∷ text))

-- the first index with a boundary before it, if there is one
abbrev pub first_cut : (ℕ → ℕ → Bool) → List ℕ → Option ℕ
first_cut is_cut text = least (λ k. is_cut (slice_index text (k - 1)) (slice_index text k)) 1 (length text - 1)

-- For `Some k`, the first paragraph of a text ends at k, and the other paragraphs are the paragraphs of the
-- text from k on. For `None`, the text is a single paragraph or empty.
abbrev pub SplitsAt : (ℕ → ℕ → Bool) → List ℕ → Option ℕ → Type 0
SplitsAt is_cut text (Some k) =
    (0 < k) × (k < length text) × (paragraphs is_cut text ≡ take k text ∷ paragraphs is_cut (drop k text))
SplitsAt is_cut text None = 0 < length text → paragraphs is_cut text ≡ text ∷ []

-- c is a code point for which `may_separate` is false, so Unicode's data files do not make it a paragraph
-- separator
abbrev pub MayNotSeparate : ℕ → Type 0
MayNotSeparate c = (c < 1114112) × (may_separate c ≡ false)

-- `MayNotSeparate` holds for each of the first n characters of a text
abbrev pub AreNoSeparators : List ℕ → ℕ → Type 0
AreNoSeparators text n = (k : ℕ) → k < n → MayNotSeparate (slice_index text k)
