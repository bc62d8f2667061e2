-- What joining changes in a line.
use Rattle.std.specs.Prelude.{◌≡◌, ◌⊎◌, ◌≤◌, ℕ, true, false, List, slice_index}
use Rattle.joining.specs.Joiners.{joiner_at}
use Rattle.joining.specs.Joins.{joins}
use Rattle.joining.specs.Presentation.{is_letter, no_forms}
use Rattle.joining.specs.Shaping.{is_hidden, shown_at}
use Rattle.joining.specs.declared.joiner.Agreement.TheVariants.{All}
use Rattle.joining.specs.declared.joiner.Joiner.{Joiner}
use Rattle.joining.specs.declared.presentation.PresentationForms.{PresentationForms}

-- A character that is not of joining type R or D, or has no presentation forms, is shown unchanged.
pub record OnlyLettersWithFormsChange : Type 0 where
  pub shown : (forms : ℕ → PresentationForms) (text : List Joiner) (characters : List ℕ) (k : ℕ)
      → (is_letter (joiner_at text k).joining ≡ false) ⊎ (forms (slice_index characters k) ≡ no_forms)
      → shown_at forms text characters k ≡ slice_index characters k
  pub not_hidden : (forms : ℕ → PresentationForms) (text : List Joiner) (characters : List ℕ) (k : ℕ)
      → (is_letter (joiner_at text k).joining ≡ false) ⊎ (forms (slice_index characters k) ≡ no_forms)
      → is_hidden forms text characters k ≡ false

-- The characters at a and b are a lam and an alef that join, and the line shows their ligature at b, and nothing at a.
pub record IsLigature (forms : ℕ → PresentationForms) (text : List Joiner) (characters : List ℕ) (a b : ℕ) : Type 0 where
  pub joined : joins All text a b ≡ true
  pub lam : shown_at forms text characters a ≡ 0xFEFF
  pub first : 0xFEF5 ≤ shown_at forms text characters b
  pub last : shown_at forms text characters b ≤ 0xFEFC
  pub not_hidden : is_hidden forms text characters b ≡ false

-- Each character that shows nothing joins one that shows their ligature.
abbrev pub HiddenLamsHaveLigatures : Type 0
HiddenLamsHaveLigatures =
    (forms : ℕ → PresentationForms) (text : List Joiner) (characters : List ℕ) (a : ℕ) → is_hidden forms text characters a ≡ true
    → (b : ℕ) × IsLigature forms text characters a b
