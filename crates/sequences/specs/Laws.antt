-- Theorems about all texts.
use Rattle.std.specs.Prelude.{◌≡◌, ℕ, Bool, true, not, List, [], ◌∷◌, ◌++◌, map}
use Rattle.std.specs.List.{list_all}
use Rattle.sequences.specs.Characters.{ends_piece, is_dropped}
use Rattle.sequences.specs.Output.{written}
use Rattle.sequences.specs.Styled.{DEFAULT, Pen, pen_at_end, shown_text, styled, Style}

-- characters that are not dropped
abbrev pub remains : ℕ → Bool
remains c = not (is_dropped c)

abbrev pub characters_of : List (ℕ × Style) → List ℕ
characters_of shown = map (λ c. c.0) shown

-- No text shows a control of a kind that is dropped.
abbrev pub ShowsNoControls : Type 0
ShowsNoControls = (pen : Pen) (text : List ℕ) → list_all remains (characters_of (styled pen text)) ≡ true

-- A text without dropped controls is shown unchanged, in the style in which it begins.
abbrev pub ShowsPlainText : Type 0
ShowsPlainText = (pen : Pen) (text : List ℕ) → list_all remains text ≡ true → styled pen text ≡ map (λ c. (c, pen.style)) text

-- The characters that a text shows do not depend on the style in which it begins.
abbrev pub ShowsTheSame : Type 0
ShowsTheSame = (pen : Pen) (text : List ℕ) → characters_of (styled pen text) ≡ shown_text text

-- Scanning is idempotent: the characters that a text shows are themselves shown unchanged.
abbrev pub ShowsItself : Type 0
ShowsItself = (text : List ℕ) → shown_text (shown_text text) ≡ shown_text text

-- If a text is split after a character that ends a piece, the text shows what both parts show, in order.
pub record ShowsPieces : Type 0 where
  pub text : (pen : Pen) (piece rest : List ℕ) (c : ℕ) → ends_piece c ≡ true
      → styled pen (piece ++ c ∷ rest) ≡ styled pen (piece ++ c ∷ []) ++ styled (pen_at_end pen (piece ++ c ∷ [])) rest
  pub pen : (pen : Pen) (piece rest : List ℕ) (c : ℕ) → ends_piece c ≡ true
      → pen_at_end pen (piece ++ c ∷ rest) ≡ pen_at_end (pen_at_end pen (piece ++ c ∷ [])) rest
  pub characters : (piece rest : List ℕ) (c : ℕ) → ends_piece c ≡ true → shown_text (piece ++ c ∷ rest) ≡ shown_text (piece ++ c ∷ []) ++ shown_text rest

-- Characters in the default style are written unchanged.
abbrev pub WritesPlainText : Type 0
WritesPlainText = (text : List ℕ) → written (map (λ c. (c, DEFAULT)) text) ≡ text
