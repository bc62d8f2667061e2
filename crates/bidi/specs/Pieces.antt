-- The paragraphs of a text are its parts between boundaries, and no other split of the text has this
-- property.
use Rattle.std.specs.Prelude.{◌≡◌, ℕ, ◌+◌, ◌-◌, ◌<◌, Bool, true, false, List, [], ◌∷◌, length, slice_index, ⊤}
use Rattle.std.specs.List.{concat}
use Rattle.bidi.specs.Cuts.{paragraphs}

module _ (is_cut : ℕ → ℕ → Bool) where
  -- a valid part is not empty and has no boundary inside
  pub record IsPiece (piece : List ℕ) : Type 0 where
    pub filled : 0 < length piece
    pub uncut : (k : ℕ) → k + 1 < length piece → is_cut (slice_index piece k) (slice_index piece (k + 1)) ≡ false

  -- there is a boundary between two adjacent parts
  abbrev pub IsCutBetween : List ℕ → List ℕ → Type 0
  IsCutBetween before after = is_cut (slice_index before (length before - 1)) (slice_index after 0) ≡ true

  -- all parts are valid, and there is a boundary between any two adjacent parts
  abbrev pub ArePieces : List (List ℕ) → Type 0
  ArePieces [] = ⊤
  ArePieces (piece ∷ []) = IsPiece piece
  ArePieces (piece ∷ next ∷ pieces) = IsPiece piece × IsCutBetween piece next × ArePieces (next ∷ pieces)

-- The paragraphs of a text are valid parts, and their concatenation is the text. Any list of valid parts with
-- boundaries between them is the list of the paragraphs of its concatenation.
pub record ParagraphsArePieces : Type 0 where
  pub pieces : (is_cut : ℕ → ℕ → Bool) (text : List ℕ) → ArePieces is_cut (paragraphs is_cut text)
  pub whole : (is_cut : ℕ → ℕ → Bool) (text : List ℕ) → concat (paragraphs is_cut text) ≡ text
  pub only : (is_cut : ℕ → ℕ → Bool) (pieces : List (List ℕ)) → ArePieces is_cut pieces → paragraphs is_cut (concat pieces) ≡ pieces
