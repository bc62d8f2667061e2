-- A doubled character and the rules of Unicode 17.0.
use Rattle.std.proofs.Common.{◌≡◌, ◌∙◌, Bool, true, false, not, List, [], ◌∷◌, ◌++◌, map, refl, sym, ap}
use Rattle.ucd.specs.declared.line_class.LineClass.{LineClass}
use Rattle.ucd.specs.declared.line_class.LineClass.TheVariants.{AL, HH, HL, HY, ID, NU, SP}
use Rattle.ucd.specs.declared.line_detail.LineDetail.TheVariants.{DottedCircle}
use Rattle.ucd.specs.declared.version.Version.TheVariants.{V17_0}
use Rattle.breaks.specs.Bases.{BaseCharacter, Character, alone, is_east_asian}
use Rattle.breaks.specs.Classes.{is_detail}
use Rattle.breaks.specs.Doubling.{can_be_doubled, mark_between}
use Rattle.breaks.specs.Rules.{mark_by, rows_after_numbers, rows_before_numbers, rows_of_numbers, rules}
use Rattle.breaks.specs.Walk17.{answered_17, answers_17, bits_of, carried_17, is_wide_base, rows_17}
use Rattle.breaks.specs.declared.mark.Mark.{Mark}
use Rattle.breaks.proofs.BoolLemmas.{both}
use Rattle.breaks.proofs.Computed17.{decide_17, marks_by_row_17}
use Rattle.breaks.proofs.DoublingRows.{Doubles, begun_by, for_class, is_class, no_pair}
use Rattle.breaks.proofs.PassLemmas.{and_false, not_true}
use Rattle.breaks.proofs.StepLemmas17.{answers_same_17, carried_same_17, marked_17}

-- the results of all conditions before a position
abbrev answered : BaseCharacter → List BaseCharacter → List Bool
answered last others = answered_17 (bits_of last others) (answers_17 (last ∷ others))

-- the second classes of LB21a
abbrev hyphens : List LineClass
hyphens = HY ∷ HH ∷ []

-- The character c with another class, and a base that begins with it.
module _ (c : Character) (attached : List Character) where
  abbrev of : LineClass → Character
  of class = record c { class = class }

  abbrev base : LineClass → BaseCharacter
  base class = begun_by (of class) attached

  pub carried_twice : (before : List BaseCharacter) (class : LineClass) → is_class class ≡ true
      → carried_17 (base class ∷ alone (of class) ∷ before) ≡ carried_17 (base class ∷ before)
  carried_twice before = for_class (λ class. carried_17 (base class ∷ alone (of class) ∷ before) ≡ carried_17 (base class ∷ before)) refl refl refl refl refl

  pub answered_twice : (before : List BaseCharacter) (class : LineClass) → is_class class ≡ true
      → answered (base class) (alone (of class) ∷ before) ≡ answered (base class) before
  unfolding rows_17 rows_before_numbers rows_of_numbers rows_after_numbers
  answered_twice before =
      for_class (λ class. answered (base class) (alone (of class) ∷ before) ≡ answered (base class) before)
      (rw (no_pair hyphens (base SP) before refl) refl)
      (rw (no_pair hyphens (base NU) before refl) refl)
      (rw (no_pair hyphens (base AL) before refl) refl)
      (rw (no_pair hyphens (base HL) before refl) refl)
      (rw (no_pair hyphens (base ID) before refl) refl)

  abbrev mark_inside : List BaseCharacter → List BaseCharacter → LineClass → Mark
  mark_inside before after class = decide_17 marks_by_row_17 (answered (alone (of class)) before) (map (λ row. row.after (base class ∷ after)) rows_17)

  pub marks_inside : (before after : List BaseCharacter) (class : LineClass) → is_class class ≡ true → mark_inside before after class ≡ mark_between class
  unfolding rows_17 rows_before_numbers rows_of_numbers rows_after_numbers
  marks_inside before after =
      for_class (λ class. mark_inside before after class ≡ mark_between class)
      refl
      (rw (decide_17, and_false (not (is_east_asian (alone (of NU)))), no_pair hyphens (alone (of NU)) before refl) refl)
      (rw (decide_17, and_false (not (is_east_asian (alone (of AL)))), no_pair hyphens (alone (of AL)) before refl) refl)
      (rw (decide_17, and_false (not (is_east_asian (alone (of HL)))), no_pair hyphens (alone (of HL)) before refl) refl)
      (rw (decide_17, and_false (not (is_east_asian (alone (of ID)))), no_pair hyphens (alone (of ID)) before refl, and_false c.is_future_pictograph) refl)

  -- the results of all conditions on the bases after a position
  abbrev ahead_once : List BaseCharacter → List BaseCharacter → LineClass → List Bool
  ahead_once front after class = map (λ row. row.after (front ++ base class ∷ after)) rows_17

  abbrev ahead_twice : List BaseCharacter → List BaseCharacter → LineClass → List Bool
  ahead_twice front after class = map (λ row. row.after (front ++ alone (of class) ∷ base class ∷ after)) rows_17

  first_ahead : (after : List BaseCharacter) → is_detail c.detail DottedCircle ≡ false → (class : LineClass) → is_class class ≡ true
      → ahead_twice [] after class ≡ ahead_once [] after class
  unfolding rows_17 rows_before_numbers rows_of_numbers rows_after_numbers
  first_ahead after other = for_class (λ class. ahead_twice [] after class ≡ ahead_once [] after class) refl refl (rw other refl) refl refl

  second_ahead : (a : BaseCharacter) (after : List BaseCharacter) (class : LineClass) → is_class class ≡ true
      → ahead_twice (a ∷ []) after class ≡ ahead_once (a ∷ []) after class
  unfolding rows_17 rows_before_numbers rows_of_numbers rows_after_numbers
  second_ahead a after = for_class (λ class. ahead_twice (a ∷ []) after class ≡ ahead_once (a ∷ []) after class) refl refl refl refl refl

  pub same_ahead : (front after : List BaseCharacter) → is_detail c.detail DottedCircle ≡ false → (class : LineClass) → is_class class ≡ true
      → ahead_twice front after class ≡ ahead_once front after class
  unfolding rows_17 rows_before_numbers rows_of_numbers rows_after_numbers
  same_ahead [] after other class h = first_ahead after other class h
  same_ahead (a ∷ []) after other class h = second_ahead a after class h
  same_ahead (a ∷ b ∷ []) after other class h = refl
  same_ahead (a ∷ b ∷ d ∷ front) after other class h = refl

-- the rules do not distinguish two lists of bases if these results agree
abbrev pub Like : List BaseCharacter → List BaseCharacter → Type 0
Like p q = (carried_17 p ≡ carried_17 q) × (is_wide_base p ≡ is_wide_base q)

marked_as : (whole_numbers : Bool) (last : BaseCharacter) (p q after : List BaseCharacter) → answered last p ≡ answered last q
    → mark_by (rules V17_0 whole_numbers) (last ∷ p) after ≡ mark_by (rules V17_0 whole_numbers) (last ∷ q) after
unfolding rules
marked_as whole_numbers last p q after same =
    marked_17 last p after
    ∙ ap (λ answered. decide_17 marks_by_row_17 answered (map (λ row. row.after after) rows_17)) same
    ∙ sym (marked_17 last q after)

answered_same : (last : BaseCharacter) (p q : List BaseCharacter) → Like p q → answered last p ≡ answered last q
answered_same last p q like = rw (answers_same_17 last p q like.0, like.1) refl

pub doubles_17 : (whole_numbers : Bool) (c : Character) → can_be_doubled c ≡ true → Doubles (rules V17_0 whole_numbers) Like c (mark_between c.class)
unfolding rules
doubles_17 whole_numbers c fits =
    let one : is_class c.class ≡ true = (both _ _ fits).0 in
    let other : is_detail c.detail DottedCircle ≡ false = not_true _ (both _ _ fits).1 in
    record {
      ahead =
          λ last before front attached after. marked_17 last before _
          ∙ ap (decide_17 marks_by_row_17 (answered last before))
          (same_ahead c attached front after other c.class one)
          ∙ sym (marked_17 last before _);
      between =
          λ attached before after. marked_17 (alone c) before _
          ∙ marks_inside c attached before after c.class one;
      here = λ attached before after. marked_as whole_numbers (begun_by c attached) (alone c ∷ before) before after
          (answered_twice c attached before c.class one);
      like = λ attached before. (carried_twice c attached before c.class one, refl);
      like_more = λ b p q like. (carried_same_17 b p q like.0, refl);
      like_mark = λ b p q after like. marked_as whole_numbers b p q after (answered_same b p q like);
    }
