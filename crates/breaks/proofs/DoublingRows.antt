-- A doubled character and the rules of Unicode 15.0.
use Rattle.std.proofs.Common.{◌≡◌, ◌∙◌, Bool, true, false, ◌&&◌, List, [], ◌∷◌, ◌++◌, map, refl, sym, ap}
use Rattle.ucd.specs.declared.line_class.LineClass.{LineClass}
use Rattle.ucd.specs.declared.line_class.LineClass.TheVariants.{AL, BA, CM, HL, HY, ID, NU, SP, ZWJ}
use Rattle.ucd.specs.declared.version.Version.TheVariants.{V15_0}
use Rattle.breaks.specs.Bases.{BaseCharacter, Character, alone, class_of, end_of}
use Rattle.breaks.specs.Classes.{is_one_of, is_same}
use Rattle.breaks.specs.Doubling.{can_be_doubled, doubled_classes, mark_between}
use Rattle.breaks.specs.Rules.{Rule, is, is_pair, mark_by, rows_after_numbers, rows_before_numbers, rows_of_numbers, rules}
use Rattle.breaks.specs.Symbols.{narrow}
use Rattle.breaks.specs.Walk.{answers, carried, rows}
use Rattle.breaks.specs.declared.mark.Mark.{Mark}
use Rattle.breaks.proofs.BoolLemmas.{both}
use Rattle.breaks.proofs.Computed.{answered_with, decide, marks_by_row}
use Rattle.breaks.proofs.PassLemmas.{and_false}
use Rattle.breaks.proofs.StepLemmas.{answers_same, carried_same, marked, pair_after}

-- the base that begins with this character
abbrev pub begun_by : Character → List Character → BaseCharacter
begun_by c attached = record { first = c; attached = attached }

-- Conditions on the rules under which the character c can be doubled, with this mark between the two. `Like`
-- relates two lists of bases that the rules do not distinguish if another base follows. Marks before the two
-- characters do not change (`ahead`), and neither does the mark after the base of the second character
-- (`here`). Later marks do not change because the bases before them are related by `Like`.
pub record Doubles (rs : List Rule) (Like : List BaseCharacter → List BaseCharacter → Type 0) (c : Character) (mark : Mark) : Type 0 where
  pub ahead : (last : BaseCharacter) (before front : List BaseCharacter) (attached : List Character) (after : List BaseCharacter)
      → mark_by rs (last ∷ before) (front ++ alone c ∷ begun_by c attached ∷ after) ≡ mark_by rs (last ∷ before) (front ++ begun_by c attached ∷ after)
  pub between : (attached : List Character) (before after : List BaseCharacter) → mark_by rs (alone c ∷ before) (begun_by c attached ∷ after) ≡ mark
  pub here : (attached : List Character) (before after : List BaseCharacter) → mark_by rs (begun_by c attached ∷ alone c ∷ before) after ≡ mark_by rs (begun_by c attached ∷ before) after
  pub like : (attached : List Character) (before : List BaseCharacter) → Like (begun_by c attached ∷ alone c ∷ before) (begun_by c attached ∷ before)
  pub like_more : (b : BaseCharacter) (p q : List BaseCharacter) → Like p q → Like (b ∷ p) (b ∷ q)
  pub like_mark : (b : BaseCharacter) (p q after : List BaseCharacter) → Like p q → mark_by rs (b ∷ p) after ≡ mark_by rs (b ∷ q) after

abbrev pub is_class : LineClass → Bool
is_class class = is_one_of doubled_classes class

-- A statement that holds for each of these five classes holds for the class of any character that can be doubled. Lemmas
-- use this instead of a catch-all case, which would compute their goal once for each other class.
pub for_class : (P : LineClass → Type 0) → P SP → P NU → P AL → P HL → P ID → (class : LineClass) → is_class class ≡ true → P class
for_class P sp nu al hl id SP h = sp
for_class P sp nu al hl id NU h = nu
for_class P sp nu al hl id AL h = al
for_class P sp nu al hl id HL h = hl
for_class P sp nu al hl id ID h = id
for_class P sp nu al hl id class h = cc

-- a base whose class is not among the second classes of a pair does not complete the pair
pub no_pair : (classes : List LineClass) (b : BaseCharacter) (bases : List BaseCharacter) → is_one_of classes (class_of b) ≡ false → is_pair (HL ∷ []) classes (b ∷ bases) ≡ false
no_pair classes b bases none = pair_after (HL ∷ []) classes b bases ∙ ap (λ is_one. is (HL ∷ []) bases && is_one) none ∙ and_false _

-- the second classes of LB21a
abbrev hyphens : List LineClass
hyphens = BA ∷ HY ∷ []

-- The character c with another class, and a base that begins with it.
module _ (c : Character) (attached : List Character) where
  abbrev of : LineClass → Character
  of class = record c { class = class }

  abbrev base : LineClass → BaseCharacter
  base class = begun_by (of class) attached

  abbrev plain_base : LineClass → BaseCharacter
  plain_base class = begun_by (record (of class) { is_future_pictograph = false }) (narrow CM ∷ [])

  pub carried_twice : (before : List BaseCharacter) (class : LineClass) → is_class class ≡ true
      → carried (base class ∷ alone (of class) ∷ before) ≡ carried (base class ∷ before)
  carried_twice before = for_class (λ class. carried (base class ∷ alone (of class) ∷ before) ≡ carried (base class ∷ before)) refl refl refl refl refl

  pub answers_twice : (whole_numbers : Bool) (before : List BaseCharacter) (class : LineClass) → is_class class ≡ true
      → answers whole_numbers (base class ∷ alone (of class) ∷ before) ≡ answers whole_numbers (base class ∷ before)
  unfolding rows rows_before_numbers rows_of_numbers rows_after_numbers
  answers_twice true before =
      for_class (λ class. answers true (base class ∷ alone (of class) ∷ before) ≡ answers true (base class ∷ before))
      (rw (no_pair hyphens (plain_base SP) before refl) refl)
      (rw (no_pair hyphens (plain_base NU) before refl) refl)
      (rw (no_pair hyphens (plain_base AL) before refl) refl)
      (rw (no_pair hyphens (plain_base HL) before refl) refl)
      (rw (no_pair hyphens (plain_base ID) before refl) refl)
  answers_twice false before =
      for_class (λ class. answers false (base class ∷ alone (of class) ∷ before) ≡ answers false (base class ∷ before))
      (rw (no_pair hyphens (plain_base SP) before refl) refl)
      (rw (no_pair hyphens (plain_base NU) before refl) refl)
      (rw (no_pair hyphens (plain_base AL) before refl) refl)
      (rw (no_pair hyphens (plain_base HL) before refl) refl)
      (rw (no_pair hyphens (plain_base ID) before refl) refl)

  abbrev mark_inside : Bool → List BaseCharacter → List BaseCharacter → LineClass → Mark
  mark_inside whole_numbers before after class =
      decide (marks_by_row whole_numbers)
      (answered_with whole_numbers (is_same class ZWJ) c.is_future_pictograph (answers whole_numbers (alone (of class) ∷ before)))
      (map (λ row. row.after (base class ∷ after)) (rows whole_numbers))

  pub marks_inside : (whole_numbers : Bool) (before after : List BaseCharacter) (class : LineClass) → is_class class ≡ true
      → mark_inside whole_numbers before after class ≡ mark_between class
  unfolding rows rows_before_numbers rows_of_numbers rows_after_numbers
  marks_inside true before after =
      for_class (λ class. mark_inside true before after class ≡ mark_between class)
      refl
      (rw (no_pair hyphens (plain_base NU) before refl) refl)
      (rw (no_pair hyphens (plain_base AL) before refl) refl)
      (rw (no_pair hyphens (plain_base HL) before refl) refl)
      (rw (no_pair hyphens (plain_base ID) before refl, and_false c.is_future_pictograph) refl)
  marks_inside false before after =
      for_class (λ class. mark_inside false before after class ≡ mark_between class)
      refl
      (rw (no_pair hyphens (plain_base NU) before refl) refl)
      (rw (no_pair hyphens (plain_base AL) before refl) refl)
      (rw (no_pair hyphens (plain_base HL) before refl) refl)
      (rw (no_pair hyphens (plain_base ID) before refl, and_false c.is_future_pictograph) refl)

  -- the results of all conditions on the bases after a position
  abbrev ahead_once : Bool → List BaseCharacter → List BaseCharacter → LineClass → List Bool
  ahead_once whole_numbers front after class = map (λ row. row.after (front ++ base class ∷ after)) (rows whole_numbers)

  abbrev ahead_twice : Bool → List BaseCharacter → List BaseCharacter → LineClass → List Bool
  ahead_twice whole_numbers front after class = map (λ row. row.after (front ++ alone (of class) ∷ base class ∷ after)) (rows whole_numbers)

  first_ahead : (whole_numbers : Bool) (after : List BaseCharacter) (class : LineClass) → is_class class ≡ true
      → ahead_twice whole_numbers [] after class ≡ ahead_once whole_numbers [] after class
  unfolding rows rows_before_numbers rows_of_numbers rows_after_numbers
  first_ahead true after class h = for_class (λ class. ahead_twice true [] after class ≡ ahead_once true [] after class) refl refl refl refl refl class h
  first_ahead false after class h = refl

  pub same_ahead : (whole_numbers : Bool) (front after : List BaseCharacter) (class : LineClass) → is_class class ≡ true
      → ahead_twice whole_numbers front after class ≡ ahead_once whole_numbers front after class
  unfolding rows rows_before_numbers rows_of_numbers rows_after_numbers
  same_ahead whole_numbers [] after class h = first_ahead whole_numbers after class h
  same_ahead true (a ∷ []) after class h = refl
  same_ahead false (a ∷ []) after class h = refl
  same_ahead true (a ∷ b ∷ front) after class h = refl
  same_ahead false (a ∷ b ∷ front) after class h = refl

module _ (whole_numbers : Bool) where
  marked_as : (last : BaseCharacter) (p q after : List BaseCharacter) → answers whole_numbers (last ∷ p) ≡ answers whole_numbers (last ∷ q)
      → mark_by (rules V15_0 whole_numbers) (last ∷ p) after ≡ mark_by (rules V15_0 whole_numbers) (last ∷ q) after
  marked_as last p q after same =
      marked whole_numbers last p after
      ∙ ap (λ answered. decide (marks_by_row whole_numbers)
      (answered_with whole_numbers (is_same (end_of last).class ZWJ) last.first.is_future_pictograph answered) (map (λ row. row.after after) (rows whole_numbers))) same
      ∙ sym (marked whole_numbers last q after)

  pub doubles_15 : (c : Character) → can_be_doubled c ≡ true
      → Doubles (rules V15_0 whole_numbers) (λ p q. carried p ≡ carried q) c (mark_between c.class)
  doubles_15 c fits =
      let one : is_class c.class ≡ true = (both _ _ fits).0 in
      record {
        ahead =
            λ last before front attached after. marked whole_numbers last before _
            ∙ ap (decide (marks_by_row whole_numbers)
            (answered_with whole_numbers (is_same (end_of last).class ZWJ) last.first.is_future_pictograph (answers whole_numbers (last ∷ before))))
            (same_ahead c attached whole_numbers front after c.class one)
            ∙ sym (marked whole_numbers last before _);
        between =
            λ attached before after. marked whole_numbers (alone c) before _
            ∙ marks_inside c attached whole_numbers before after c.class one;
        here = λ attached before after. marked_as (begun_by c attached) (alone c ∷ before) before after
            (answers_twice c attached whole_numbers before c.class one);
        like = λ attached before. carried_twice c attached before c.class one;
        like_more = λ b p q like. carried_same b p q like;
        like_mark = λ b p q after like. marked_as b p q after (answers_same whole_numbers b p q like);
      }
