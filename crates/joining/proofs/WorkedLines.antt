-- Worked examples of shown lines.
use Rattle.std.proofs.Common.{◌≡◌, ℕ, true, false, List, [], ◌∷◌, Option, Some, None, refl}
use Rattle.ucd_bidi.specs.declared.JoiningType.{JoiningType}
use Rattle.ucd_bidi.specs.declared.JoiningType.TheVariants.{DualJoining, JoinCausing, NonJoining, RightJoining, Transparent}
use Rattle.joining.specs.Joins.{joins, next_joined, previous_joined}
use Rattle.joining.specs.Presentation.{forms_in}
use Rattle.joining.specs.Shaping.{form_at, hidden_characters, is_hidden, ligature_at, ligature_before, shown_at, shown_characters}
use Rattle.joining.specs.declared.joiner.Joiner.{Joiner}
use Rattle.joining.specs.declared.presentation.Letter.{Letter}

abbrev letter : ℕ → Option ℕ → Option ℕ → Option ℕ → Option ℕ → Letter
letter c isolated final initial medial =
    record { letter = c; forms = record { isolated_form = isolated; final_form = final; initial_form = initial; medial_form = medial } }

abbrev letters : List Letter
letters =
    letter 0x627 (Some 0xFE8D) (Some 0xFE8E) None None ∷ letter 0x628 (Some 0xFE8F) (Some 0xFE90) (Some 0xFE91) (Some 0xFE92)
    ∷ letter 0x633 (Some 0xFEB1) (Some 0xFEB2) (Some 0xFEB3) (Some 0xFEB4) ∷ letter 0x644 (Some 0xFEDD) (Some 0xFEDE) (Some 0xFEDF) (Some 0xFEE0)
    ∷ letter 0x645 (Some 0xFEE1) (Some 0xFEE2) (Some 0xFEE3) (Some 0xFEE4) ∷ letter 0x6BA (Some 0xFB9E) (Some 0xFB9F) None None ∷ []

abbrev at : ℕ → JoiningType → Joiner
at level type = record { joining = type; level = Some level }

abbrev removed : JoiningType → Joiner
removed type = record { joining = type; level = None }

abbrev shown : List Joiner → List ℕ → List ℕ
shown text characters = shown_characters (forms_in letters) text characters

-- salam: the lam joins on both sides, and the ligature is final
row-salam : shown (at 1 DualJoining ∷ at 1 DualJoining ∷ at 1 RightJoining ∷ at 1 DualJoining ∷ []) (0x633 ∷ 0x644 ∷ 0x627 ∷ 0x645 ∷ []) ≡ 0xFEB3 ∷ 0xFEFF ∷ 0xFEFC ∷ 0xFEE1 ∷ []
unfolding shown_at form_at ligature_at ligature_before next_joined previous_joined joins
row-salam = refl

row-salam_hidden : hidden_characters (forms_in letters) (at 1 DualJoining ∷ at 1 DualJoining ∷ at 1 RightJoining ∷ at 1 DualJoining ∷ []) (0x633 ∷ 0x644 ∷ 0x627 ∷ 0x645 ∷ [])
    ≡ false ∷ true ∷ false ∷ false ∷ []
unfolding is_hidden form_at ligature_at next_joined previous_joined joins
row-salam_hidden = refl

-- lam and alef, after nothing, after a tatweel, and before a tanwin
row-lam_alef : shown (at 1 DualJoining ∷ at 1 RightJoining ∷ []) (0x644 ∷ 0x627 ∷ []) ≡ 0xFEFF ∷ 0xFEFB ∷ []
unfolding shown_at form_at ligature_at ligature_before next_joined previous_joined joins
row-lam_alef = refl

row-tatweel : shown (at 1 JoinCausing ∷ at 1 DualJoining ∷ at 1 RightJoining ∷ []) (0x640 ∷ 0x644 ∷ 0x627 ∷ []) ≡ 0x640 ∷ 0xFEFF ∷ 0xFEFC ∷ []
unfolding shown_at form_at ligature_at ligature_before next_joined previous_joined joins
row-tatweel = refl

row-tanwin : shown (at 1 DualJoining ∷ at 1 RightJoining ∷ at 1 Transparent ∷ []) (0x644 ∷ 0x627 ∷ 0x64B ∷ []) ≡ 0xFEFF ∷ 0xFEFB ∷ 0x64B ∷ []
unfolding shown_at form_at ligature_at ligature_before next_joined previous_joined joins
row-tanwin = refl

-- between lam and alef: a mark, which stays, ZWJ, which lam joins, and ZWNJ, which joins nothing
row-mark : shown (at 1 DualJoining ∷ at 1 Transparent ∷ at 1 RightJoining ∷ []) (0x644 ∷ 0x64E ∷ 0x627 ∷ []) ≡ 0xFEFF ∷ 0x64E ∷ 0xFEFB ∷ []
unfolding shown_at form_at ligature_at ligature_before next_joined previous_joined joins
row-mark = refl

row-joiner : shown (at 1 DualJoining ∷ removed JoinCausing ∷ at 1 RightJoining ∷ []) (0x644 ∷ 0x200D ∷ 0x627 ∷ []) ≡ 0xFEDF ∷ 0x200D ∷ 0xFE8E ∷ []
unfolding shown_at form_at ligature_at ligature_before next_joined previous_joined joins
row-joiner = refl

row-non_joiner : shown (at 1 DualJoining ∷ removed NonJoining ∷ at 1 RightJoining ∷ []) (0x644 ∷ 0x200C ∷ 0x627 ∷ []) ≡ 0xFEDD ∷ 0x200C ∷ 0xFE8D ∷ []
unfolding shown_at form_at ligature_at ligature_before next_joined previous_joined joins
row-non_joiner = refl

-- two levels
row-levels : shown (at 1 DualJoining ∷ at 3 RightJoining ∷ []) (0x644 ∷ 0x627 ∷ []) ≡ 0xFEDD ∷ 0xFE8D ∷ []
unfolding shown_at form_at ligature_at ligature_before next_joined previous_joined joins
row-levels = refl

-- At an even level, as in a left-to-right override, the first of two letters is on the left. Lam joins an alef before it, and the two
-- form no ligature.
row-even : shown (at 2 DualJoining ∷ at 2 DualJoining ∷ []) (0x628 ∷ 0x628 ∷ []) ≡ 0xFE90 ∷ 0xFE91 ∷ []
unfolding shown_at form_at ligature_at ligature_before next_joined previous_joined joins
row-even = refl

row-even_lam : shown (at 2 DualJoining ∷ at 2 RightJoining ∷ at 2 DualJoining ∷ []) (0x644 ∷ 0x627 ∷ 0x644 ∷ []) ≡ 0xFEDD ∷ 0xFE8E ∷ 0xFEDF ∷ []
unfolding shown_at form_at ligature_at ligature_before next_joined previous_joined joins
row-even_lam = refl

-- noon ghunna has no medial form
row-noon_ghunna : shown (at 1 DualJoining ∷ at 1 DualJoining ∷ at 1 DualJoining ∷ []) (0x628 ∷ 0x6BA ∷ 0x628 ∷ []) ≡ 0xFE91 ∷ 0x6BA ∷ 0xFE90 ∷ []
unfolding shown_at form_at ligature_at ligature_before next_joined previous_joined joins
row-noon_ghunna = refl

row-noon_ghunna_final : shown (at 1 DualJoining ∷ at 1 DualJoining ∷ []) (0x628 ∷ 0x6BA ∷ []) ≡ 0xFE91 ∷ 0xFB9F ∷ []
unfolding shown_at form_at ligature_at ligature_before next_joined previous_joined joins
row-noon_ghunna_final = refl
