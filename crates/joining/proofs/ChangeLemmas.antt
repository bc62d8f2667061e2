-- Which characters joining changes.
use Rattle.std.proofs.Common.{◌≡◌, ℕ, ◌+◌, ◌==◌, ◌≤◌, Bool, true, false, ◌&&◌, ◌⊎◌, cond, List, get_or, Option, Some, None, is_some, refl, sym, ap, ◌∙◌, inl, inr, arith}
use Rattle.std.proofs.lemmas.Bool.{cases_Bool, cond-false, cond-true}
use Rattle.ucd_bidi.specs.declared.JoiningType.{JoiningType}
use Rattle.ucd_bidi.specs.declared.JoiningType.TheVariants.{DualJoining, JoinCausing, LeftJoining, NonJoining, RightJoining, Transparent}
use Rattle.joining.specs.Changes.{HiddenLamsHaveLigatures, IsLigature, OnlyLettersWithFormsChange}
use Rattle.joining.specs.Joiners.{is_rtl, joiner_at, joins_left, joins_right}
use Rattle.joining.specs.Joins.{joins, next_joined, previous_joined}
use Rattle.joining.specs.Ligatures.{of_alef}
use Rattle.joining.specs.Presentation.{form_of, in_form, is_letter, no_forms, presentation_form}
use Rattle.joining.specs.Shaping.{form_at, is_hidden, is_right_joining, ligature_at, ligature_before, ligature_from, ligature_of, ligature_to, ligature_with, shown, shown_at}
use Rattle.ucd.specs.declared.form.Form.{Form}
use Rattle.ucd.specs.declared.form.Form.TheVariants.{Final, Initial, Isolated, Medial}
use Rattle.joining.specs.declared.joiner.Agreement.TheVariants.{All}
use Rattle.joining.specs.declared.joiner.Joiner.{Joiner}
use Rattle.joining.specs.declared.presentation.PresentationForms.{PresentationForms}
use Rattle.joining.proofs.JoinLemmas.{next_none}
use Rattle.joining.proofs.PairLemmas.{Facts, and_parts, facts, mutual_joins}
use Rattle.joining.proofs.ShapingLemmas.{previous_is, previous_joins}

-- ---- characters with no forms

-- whether a character has no presentation forms, or none that counts
abbrev Plain : Joiner → PresentationForms → Type 0
Plain c forms = (is_letter c.joining ≡ false) ⊎ (forms ≡ no_forms)

no_form : (form : Form) → in_form no_forms form ≡ None
no_form Isolated = refl
no_form Final = refl
no_form Initial = refl
no_form Medial = refl

either : {X : Type 0} (b : Bool) (x : X) → cond b x x ≡ x
either true x = refl
either false x = refl

no_presentation : (c : Joiner) (forms : PresentationForms) (before after : Bool) → Plain c forms → presentation_form forms c before after ≡ None
no_presentation c forms before after plain =
    elim plain [
      | inl none ↦ cond-false (is_letter c.joining) (in_form forms (form_of c.level before after)) None none
      | inr none ↦
          ap (λ (f : PresentationForms). presentation_form f c before after) none
          ∙ ap (λ o. cond (is_letter c.joining) o None) (no_form (form_of c.level before after)) ∙ either (is_letter c.joining) None
    ]

of_none : (form : Option ℕ) → ligature_of form None ≡ None
of_none None = refl
of_none (Some lam) = refl

not_right : (t : JoiningType) → is_letter t ≡ false → is_right_joining t ≡ false
not_right RightJoining none = absurd (cc)
not_right DualJoining none = refl
not_right JoinCausing none = refl
not_right LeftJoining none = refl
not_right NonJoining none = refl
not_right Transparent none = refl

and_none : (a b : Bool) → b ≡ false → (a && b) ≡ false
and_none true b none = none
and_none false b none = refl

no_alef : (first next : Joiner) (form : Option ℕ) (forms : PresentationForms) → Plain next forms → ligature_with first form next forms ≡ None
no_alef first next form forms plain =
    elim plain [
      | inl none ↦
          cond-false (is_rtl first.level && is_right_joining next.joining) (ligature_of form forms.final_form) None
          (and_none (is_rtl first.level) (is_right_joining next.joining) (not_right next.joining none))
      | inr none ↦
          ap (λ (f : PresentationForms). ligature_with first form next f) none
          ∙ ap (λ o. cond (is_rtl first.level && is_right_joining next.joining) o None) (of_none form) ∙ either (is_rtl first.level && is_right_joining next.joining) None
    ]

module _ (forms : ℕ → PresentationForms) (text : List Joiner) (characters : List ℕ) where
  no_lam : (k : ℕ) (next : Option ℕ) → form_at forms text characters k ≡ None → ligature_to forms text characters k next ≡ None
  no_lam k None none = refl
  no_lam k (Some b) none =
      ap (λ f. ligature_with (joiner_at text k) f (joiner_at text b) (forms (get_or characters b 0))) none
      ∙ either (is_rtl (joiner_at text k).level && is_right_joining (joiner_at text b).joining) None

  module _ (k : ℕ) (plain : Plain (joiner_at text k) (forms (get_or characters k 0))) where
    no_form_at : form_at forms text characters k ≡ None
    unfolding form_at
    no_form_at = no_presentation (joiner_at text k) (forms (get_or characters k 0)) (is_some (previous_joined All text k)) (is_some (next_joined All text k)) plain

    no_ligature : ligature_at forms text characters k ≡ None
    unfolding ligature_at
    no_ligature = no_lam k (next_joined All text k) no_form_at

    plain_hidden : is_hidden forms text characters k ≡ false
    unfolding is_hidden
    plain_hidden = ap is_some no_ligature

    none_before : (previous : Option ℕ) → previous_joined All text k ≡ previous → ligature_from forms text characters previous ≡ None
    unfolding ligature_at
    none_before None is = refl
    none_before (Some a) is =
        ap (ligature_to forms text characters a) (mutual_joins.after All text a k (previous_joins All text a k is))
        ∙ no_alef (joiner_at text a) (joiner_at text k) (form_at forms text characters a) (forms (get_or characters k 0)) plain

    plain_shown : shown_at forms text characters k ≡ get_or characters k 0
    unfolding shown_at ligature_before
    plain_shown =
        ap (λ f. shown (get_or characters k 0) f (ligature_from forms text characters (previous_joined All text k)) (ligature_at forms text characters k)) no_form_at
        ∙ ap (λ l. shown (get_or characters k 0) None l (ligature_at forms text characters k)) (none_before (previous_joined All text k) refl)
        ∙ ap (λ l. shown (get_or characters k 0) None None l) no_ligature

pub only_letters : OnlyLettersWithFormsChange
only_letters = record {
  shown = λ forms text characters k plain. plain_shown forms text characters k plain;
  not_hidden = λ forms text characters k plain. plain_hidden forms text characters k plain;
}

-- ---- ligatures

of_alef_range : (place alef l : ℕ) → place ≤ 1 → of_alef place alef ≡ Some l → (0xFEF5 ≤ l) × (l ≤ 0xFEFC)
of_alef_range place alef l low is =
    elim (cases_Bool (alef == 0xFE82)) [
      | inl madda ↦ exact 0xFEF5 (sym (cond-true (alef == 0xFE82) (Some (0xFEF5 + place)) above madda) ∙ is) (omega arith) (omega arith)
      | inr no_madda ↦
          let is_above : above ≡ Some l = sym (cond-false (alef == 0xFE82) (Some (0xFEF5 + place)) above no_madda) ∙ is in
          elim (cases_Bool (alef == 0xFE84)) [
            | inl hamza ↦ exact 0xFEF7 (sym (cond-true (alef == 0xFE84) (Some (0xFEF7 + place)) below hamza) ∙ is_above) (omega arith) (omega arith)
            | inr no_hamza ↦
                let is_below : below ≡ Some l = sym (cond-false (alef == 0xFE84) (Some (0xFEF7 + place)) below no_hamza) ∙ is_above in
                elim (cases_Bool (alef == 0xFE88)) [
                  | inl hamza ↦ exact 0xFEF9 (sym (cond-true (alef == 0xFE88) (Some (0xFEF9 + place)) alone hamza) ∙ is_below) (omega arith) (omega arith)
                  | inr none ↦
                      let is_alone : alone ≡ Some l = sym (cond-false (alef == 0xFE88) (Some (0xFEF9 + place)) alone none) ∙ is_below in
                      elim (cases_Bool (alef == 0xFE8E)) [
                        | inl plain ↦ exact 0xFEFB (sym (cond-true (alef == 0xFE8E) (Some (0xFEFB + place)) None plain) ∙ is_alone) (omega arith) (omega arith)
                        | inr other ↦ let no : None ≡ Some l = sym (cond-false (alef == 0xFE8E) (Some (0xFEFB + place)) None other) ∙ is_alone in absurd (cc)
                      ]
                ]
          ]
    ]
  where
    alone : Option ℕ
    alone = cond (alef == 0xFE8E) (Some (0xFEFB + place)) None

    below : Option ℕ
    below = cond (alef == 0xFE88) (Some (0xFEF9 + place)) alone

    above : Option ℕ
    above = cond (alef == 0xFE84) (Some (0xFEF7 + place)) below

    exact : (n : ℕ) → Some (n + place) ≡ Some l → 0xFEF5 ≤ n → n ≤ 0xFEFB → (0xFEF5 ≤ l) × (l ≤ 0xFEFC)
    exact n found from to = let at : n + place ≡ l = cc in (omega (arith, at, from), omega (arith, at, low, to))

ligature_range : (lam alef : Option ℕ) (l : ℕ) → ligature_of lam alef ≡ Some l → (0xFEF5 ≤ l) × (l ≤ 0xFEFC)
ligature_range None alef l is = absurd (cc)
ligature_range (Some lam) None l is = absurd (cc)
ligature_range (Some lam) (Some alef) l is =
    elim (cases_Bool (lam == 0xFEDF)) [
      | inl initial ↦ of_alef_range 0 alef l (omega arith) (sym (cond-true (lam == 0xFEDF) (of_alef 0 alef) (cond (lam == 0xFEE0) (of_alef 1 alef) None) initial) ∙ is)
      | inr other ↦
          let rest : cond (lam == 0xFEE0) (of_alef 1 alef) None ≡ Some l =
          sym (cond-false (lam == 0xFEDF) (of_alef 0 alef) (cond (lam == 0xFEE0) (of_alef 1 alef) None) other) ∙ is in
          elim (cases_Bool (lam == 0xFEE0)) [
            | inl medial ↦ of_alef_range 1 alef l (omega arith) (sym (cond-true (lam == 0xFEE0) (of_alef 1 alef) None medial) ∙ rest)
            | inr none ↦ let no : None ≡ Some l = sym (cond-false (lam == 0xFEE0) (of_alef 1 alef) None none) ∙ rest in absurd (cc)
          ]
    ]

right_after : (rtl : Bool) (t : JoiningType) → is_right_joining t ≡ true → cond rtl (joins_right t) (joins_left t) ≡ true → cond rtl (joins_left t) (joins_right t) ≡ false
right_after true RightJoining is joins = refl
right_after false RightJoining is joins = absurd (cc)
right_after rtl DualJoining is joins = absurd (cc)
right_after rtl JoinCausing is joins = absurd (cc)
right_after rtl LeftJoining is joins = absurd (cc)
right_after rtl NonJoining is joins = absurd (cc)
right_after rtl Transparent is joins = absurd (cc)

module _ (forms : ℕ → PresentationForms) (text : List Joiner) (characters : List ℕ) (a b : ℕ) (next : next_joined All text a ≡ Some b) where
  joined : joins All text a b ≡ true
  joined = mutual_joins.found All text a b next

  ligature_is : ligature_at forms text characters a ≡ ligature_to forms text characters a (Some b)
  unfolding ligature_at
  ligature_is = ap (ligature_to forms text characters a) next

  -- An alef joins nothing after it.
  alef_hidden : is_right_joining (joiner_at text b).joining ≡ true → is_hidden forms text characters b ≡ false
  unfolding is_hidden ligature_at
  alef_hidden right =
      let alef : Joiner = joiner_at text b in
      let f : Facts All text a b = facts All text a b joined in
      ap (λ n. is_some (ligature_to forms text characters b n)) (next_none All text b f.within (right_after (is_rtl alef.level) alef.joining right f.before))

  made : (l : ℕ) → ligature_to forms text characters a (Some b) ≡ Some l → IsLigature forms text characters a b
  unfolding shown_at is_hidden ligature_before
  made l is =
      let odd : Bool = is_rtl (joiner_at text a).level in
      let right : Bool = is_right_joining (joiner_at text b).joining in
      let found : Option ℕ = ligature_of (form_at forms text characters a) (forms (get_or characters b 0)).final_form in
      elim (cases_Bool (odd && right)) [
        | inr other ↦ let no : None ≡ Some l = sym (cond-false (odd && right) found None other) ∙ is in absurd (cc)
        | inl both ↦
            let kept : is_some (ligature_at forms text characters b) ≡ false = alef_hidden (and_parts odd right both).1 in
            let range : (0xFEF5 ≤ l) × (l ≤ 0xFEFC) =
            ligature_range (form_at forms text characters a) (forms (get_or characters b 0)).final_form l (sym (cond-true (odd && right) found None both) ∙ is) in
            let alef : shown_at forms text characters b ≡ l =
            ap (λ p. shown (get_or characters b 0) (form_at forms text characters b) (ligature_from forms text characters p) (ligature_at forms text characters b)) (previous_is All text a b joined)
            ∙ ap (λ o. shown (get_or characters b 0) (form_at forms text characters b) o (ligature_at forms text characters b)) (ligature_is ∙ is)
            ∙ cond-false (is_some (ligature_at forms text characters b)) 0xFEFF l kept in
            record {
              joined = joined;
              lam = ap (λ o. shown (get_or characters a 0) (form_at forms text characters a) (ligature_from forms text characters (previous_joined All text a)) o) (ligature_is ∙ is);
              first = omega (arith, range.0, alef);
              last = omega (arith, range.1, alef);
              not_hidden = kept;
            }
      ]

pub hidden_lams : HiddenLamsHaveLigatures
unfolding is_hidden ligature_at
hidden_lams forms text characters a hidden = by_next (next_joined All text a) refl hidden
  where
    by_ligature : (b : ℕ) → next_joined All text a ≡ Some b → (l : Option ℕ) → ligature_to forms text characters a (Some b) ≡ l → is_some l ≡ true → IsLigature forms text characters a b
    by_ligature b next None is some = absurd (cc)
    by_ligature b next (Some l) is some = made forms text characters a b next l is

    by_next : (next : Option ℕ) → next_joined All text a ≡ next → is_some (ligature_to forms text characters a next) ≡ true → (b : ℕ) × IsLigature forms text characters a b
    by_next None is some = absurd (cc)
    by_next (Some b) is some = (b, by_ligature b is (ligature_to forms text characters a (Some b)) refl some)
