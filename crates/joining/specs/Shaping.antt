-- The characters that a line shows with its letters joined. Each letter takes the presentation form of its joins, if it has one. At odd
-- levels, a lam and an alef that it joins form a ligature, which replaces the alef, and U+FEFF replaces the lam.
use Rattle.std.specs.Prelude.{ℕ, Bool, true, false, ◌&&◌, List, is_some, length, map, slice_index, unwrap_or, Option, Some, None, if◌then◌else◌}
use Rattle.std.specs.List.{range_with_len}
use Rattle.std.specs.Option.{option_or}
use Rattle.ucd_bidi.specs.declared.JoiningType.{JoiningType}
use Rattle.ucd_bidi.specs.declared.JoiningType.TheVariants.{RightJoining}
use Rattle.joining.specs.Joiners.{is_rtl, joiner_at}
use Rattle.joining.specs.Joins.{next_joined, previous_joined}
use Rattle.joining.specs.Ligatures.{lam_alef}
use Rattle.joining.specs.Presentation.{presentation_form}
use Rattle.joining.specs.declared.joiner.Agreement.TheVariants.{All}
use Rattle.joining.specs.declared.joiner.Joiner.{Joiner}
use Rattle.joining.specs.declared.presentation.PresentationForms.{PresentationForms}

abbrev pub is_right_joining : JoiningType → Bool
is_right_joining RightJoining = true
is_right_joining _ = false

-- the ligature of two presentation forms
abbrev pub ligature_of : Option ℕ → Option ℕ → Option ℕ
ligature_of (Some lam) (Some alef) = lam_alef lam alef
ligature_of _ _ = None

-- the ligature of a character, given its presentation form, and one that it joins, given the forms of that letter
abbrev pub ligature_with : Joiner → Option ℕ → Joiner → PresentationForms → Option ℕ
ligature_with first form next forms =
    if is_rtl first.level && is_right_joining next.joining then ligature_of form forms.final_form else None

-- what is shown of a character, given its presentation form, and its ligatures with the characters before and after it
abbrev pub shown : ℕ → Option ℕ → Option ℕ → Option ℕ → ℕ
shown c form before after = if is_some after then 0xFEFF else unwrap_or (option_or before form) c

module _ (forms : ℕ → PresentationForms) (text : List Joiner) (characters : List ℕ) where
  -- the presentation form of the character at k
  unfoldable pub form_at : ℕ → Option ℕ
  form_at k =
      presentation_form (forms (slice_index characters k)) (joiner_at text k) (is_some (previous_joined All text k))
      (is_some (next_joined All text k))

  abbrev pub ligature_to : ℕ → Option ℕ → Option ℕ
  ligature_to a None = None
  ligature_to a (Some b) = ligature_with (joiner_at text a) (form_at a) (joiner_at text b) (forms (slice_index characters b))

  -- the ligature of the character at k with the one after it that it joins
  unfoldable pub ligature_at : ℕ → Option ℕ
  ligature_at k = ligature_to k (next_joined All text k)

  abbrev pub ligature_from : Option ℕ → Option ℕ
  ligature_from None = None
  ligature_from (Some a) = ligature_at a

  -- the ligature of the character at k with the one before it that it joins
  unfoldable pub ligature_before : ℕ → Option ℕ
  ligature_before k = ligature_from (previous_joined All text k)

  unfoldable pub shown_at : ℕ → ℕ
  shown_at k = shown (slice_index characters k) (form_at k) (ligature_before k) (ligature_at k)

  -- whether the character at k is a lam whose ligature is shown in place of the alef
  unfoldable pub is_hidden : ℕ → Bool
  is_hidden k = is_some (ligature_at k)

  abbrev pub shown_characters : List ℕ
  shown_characters = map shown_at (range_with_len 0 (length characters))

  abbrev pub hidden_characters : List Bool
  hidden_characters = map is_hidden (range_with_len 0 (length characters))
