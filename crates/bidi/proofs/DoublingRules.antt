-- The weak, neutral and implicit rules on a list of types with one type repeated.
use Rattle.std.proofs.Common.{◌≡◌, ℕ, zero, suc, Bool, true, false, ◌||◌, not, if◌then◌else◌, List, [], ◌∷◌, length, map, refl, sym, ap, ◌∙◌}
use Rattle.ucd.specs.declared.bidi_class.BidiClass.{BidiClass}
use Rattle.ucd.specs.declared.bidi_class.BidiClass.TheVariants.{L, AL, EN, ES, ET, AN, CS, NSM, ON}
use Rattle.ucd.specs.Classes.{class_at, is_nonspacing_mark, is_strong}
use Rattle.bidi.specs.Doubling.{double, can_be_doubled}
use Rattle.bidi.specs.Neighbours.{each_by, nearest}
use Rattle.bidi.specs.Neutral.{between, is_neutral, neutral, neutral_at}
use Rattle.bidi.specs.Weak.{is_arabic, is_left, is_number, is_terminator, mark_after, w1, w1_at, w2, w2_at, w3, w3_type, w4, w4_at, w5, w5_at, w6, w6_type, w7, w7_at, weak}
use Rattle.bidi.proofs.DoublingLists.{map-double, nearest-double}

-- A rule is stable if repeating a type before or after an item does not change the result for the item, and
-- if repeating a type that passes `calm` repeats its result.
pub record IsStable (rule : List BidiClass → BidiClass → List BidiClass → BidiClass) (calm : BidiClass → Bool) : Type 0 where
  pub front : (k : ℕ) (before : List BidiClass) (type : BidiClass) (after : List BidiClass) → rule (double k before) type after ≡ rule before type after
  pub back : (k : ℕ) (before : List BidiClass) (type : BidiClass) (after : List BidiClass) → rule before type (double k after) ≡ rule before type after
  pub first : (before : List BidiClass) (type : BidiClass) (after : List BidiClass) → calm type ≡ true → rule before type (type ∷ after) ≡ rule before type after
  pub second : (before : List BidiClass) (type : BidiClass) (after : List BidiClass) → calm type ≡ true → rule (type ∷ before) type after ≡ rule before type after

module _ (rule : List BidiClass → BidiClass → List BidiClass → BidiClass) (calm : BidiClass → Bool) (stable : IsStable rule calm) where
  each_by-front : (k : ℕ) (before types : List BidiClass) → each_by rule (double k before) types ≡ each_by rule before types
  each_by-front k before [] = refl
  each_by-front k before (type ∷ types) =
      ap (λ t. t ∷ each_by rule (type ∷ double k before) types) (stable.front k before type types)
      ∙ ap (λ rest. rule before type types ∷ rest) (each_by-front (suc k) (type ∷ before) types)

  pub each_by-double : (k : ℕ) (before types : List BidiClass) → calm (class_at types k) ≡ true → each_by rule before (double k types) ≡ double k (each_by rule before types)
  each_by-double k before [] is = refl
  each_by-double zero before (type ∷ types) is =
      ap (λ t. t ∷ rule (type ∷ before) type types ∷ each_by rule (type ∷ type ∷ before) types) (stable.first before type types is)
      ∙ ap (λ t. rule before type types ∷ t ∷ each_by rule (type ∷ type ∷ before) types) (stable.second before type types is)
      ∙ ap (λ rest. rule before type types ∷ rule before type types ∷ rest) (each_by-front zero (type ∷ before) types)
  each_by-double (suc k) before (type ∷ types) is =
      ap (λ t. t ∷ each_by rule (type ∷ before) (double k types)) (stable.back k before type types)
      ∙ ap (λ rest. rule before type types ∷ rest) (each_by-double k (type ∷ before) types is)

-- if a rule maps each type that passes `calm` to a type that passes it, a type at k that passes still does
-- after the rule
each_by-calm : (rule : List BidiClass → BidiClass → List BidiClass → BidiClass) (calm : BidiClass → Bool)
    → ((before : List BidiClass) (type : BidiClass) (after : List BidiClass) → calm type ≡ true → calm (rule before type after) ≡ true)
    → (k : ℕ) (before types : List BidiClass) → calm (class_at types k) ≡ true → calm (class_at (each_by rule before types) k) ≡ true
each_by-calm rule calm keeps k before [] is = is
each_by-calm rule calm keeps zero before (type ∷ types) is = keeps before type types is
each_by-calm rule calm keeps (suc k) before (type ∷ types) is = each_by-calm rule calm keeps k (type ∷ before) types is

map-calm : (f : BidiClass → BidiClass) (calm : BidiClass → Bool) → ((type : BidiClass) → calm type ≡ true → calm (f type) ≡ true)
    → (k : ℕ) (types : List BidiClass) → calm (class_at types k) ≡ true → calm (class_at (map f types) k) ≡ true
map-calm f calm keeps k [] is = is
map-calm f calm keeps zero (type ∷ types) is = keeps type is
map-calm f calm keeps (suc k) (type ∷ types) is = map-calm f calm keeps k types is

abbrev any : BidiClass → Bool
any type = true

-- ---- W1
w1-front : (sos : BidiClass) (k : ℕ) (before : List BidiClass) (type : BidiClass) (after : List BidiClass) → w1_at sos (double k before) type after ≡ w1_at sos before type after
w1-front sos k before NSM after = ap mark_after (nearest-double (λ type. not (is_nonspacing_mark type)) sos k before)
w1-front sos k before _ after = refl

w1-back : (sos : BidiClass) (before : List BidiClass) (type : BidiClass) (after other : List BidiClass) → w1_at sos before type after ≡ w1_at sos before type other
w1-back sos before NSM after other = refl
w1-back sos before _ after other = refl

w1-second : (sos : BidiClass) (before : List BidiClass) (type : BidiClass) (after : List BidiClass) → w1_at sos (type ∷ before) type after ≡ w1_at sos before type after
w1-second sos before NSM after = refl
w1-second sos before _ after = refl

w1-stable : (sos : BidiClass) → IsStable (w1_at sos) any
w1-stable sos = record {
  front = w1-front sos;
  back = λ k before type after. w1-back sos before type (double k after) after;
  first = λ before type after is. w1-back sos before type (type ∷ after) after;
  second = λ before type after is. w1-second sos before type after;
}

w1-calm : (sos : BidiClass) (before : List BidiClass) (type : BidiClass) (after : List BidiClass) → can_be_doubled type ≡ true → can_be_doubled (w1_at sos before type after) ≡ true
w1-calm sos before NSM after is = absurd (cc)
w1-calm sos before _ after is = is

-- ---- W2
w2-front : (sos : BidiClass) (k : ℕ) (before : List BidiClass) (type : BidiClass) (after : List BidiClass) → w2_at sos (double k before) type after ≡ w2_at sos before type after
w2-front sos k before EN after = ap (λ strong. if is_arabic strong then AN else EN) (nearest-double is_strong sos k before)
w2-front sos k before _ after = refl

w2-back : (sos : BidiClass) (before : List BidiClass) (type : BidiClass) (after other : List BidiClass) → w2_at sos before type after ≡ w2_at sos before type other
w2-back sos before EN after other = refl
w2-back sos before _ after other = refl

w2-second : (sos : BidiClass) (before : List BidiClass) (type : BidiClass) (after : List BidiClass) → w2_at sos (type ∷ before) type after ≡ w2_at sos before type after
w2-second sos before EN after = refl
w2-second sos before _ after = refl

w2-stable : (sos : BidiClass) → IsStable (w2_at sos) any
w2-stable sos = record {
  front = w2-front sos;
  back = λ k before type after. w2-back sos before type (double k after) after;
  first = λ before type after is. w2-back sos before type (type ∷ after) after;
  second = λ before type after is. w2-second sos before type after;
}

either-repeats : (b : Bool) → can_be_doubled (if b then AN else EN) ≡ true
either-repeats true = refl
either-repeats false = refl

w2-calm : (sos : BidiClass) (before : List BidiClass) (type : BidiClass) (after : List BidiClass) → can_be_doubled type ≡ true → can_be_doubled (w2_at sos before type after) ≡ true
w2-calm sos before EN after is = either-repeats (is_arabic (nearest is_strong sos before))
w2-calm sos before _ after is = is

-- ---- W3
w3-calm : (type : BidiClass) → can_be_doubled type ≡ true → can_be_doubled (w3_type type) ≡ true
w3-calm AL is = refl
w3-calm _ is = is

-- ---- W4
w4-head : (other : BidiClass) (before more : List BidiClass) (type : BidiClass) (after : List BidiClass) → w4_at (other ∷ before) type after ≡ w4_at (other ∷ more) type after
w4-head EN before more ES [] = refl
w4-head EN before more ES (EN ∷ after) = refl
w4-head EN before more ES (_ ∷ after) = refl
w4-head EN before more CS [] = refl
w4-head EN before more CS (EN ∷ after) = refl
w4-head EN before more CS (_ ∷ after) = refl
w4-head EN before more _ after = refl
w4-head AN before more CS [] = refl
w4-head AN before more CS (AN ∷ after) = refl
w4-head AN before more CS (_ ∷ after) = refl
w4-head AN before more _ after = refl
w4-head _ before more type after = refl

w4-tail : (before : List BidiClass) (type other : BidiClass) (after more : List BidiClass) → w4_at before type (other ∷ after) ≡ w4_at before type (other ∷ more)
w4-tail [] type other after more = refl
w4-tail (EN ∷ before) ES EN after more = refl
w4-tail (EN ∷ before) ES _ after more = refl
w4-tail (EN ∷ before) CS EN after more = refl
w4-tail (EN ∷ before) CS _ after more = refl
w4-tail (EN ∷ before) _ other after more = refl
w4-tail (AN ∷ before) CS AN after more = refl
w4-tail (AN ∷ before) CS _ after more = refl
w4-tail (AN ∷ before) _ other after more = refl
w4-tail (_ ∷ before) type other after more = refl

w4-front : (k : ℕ) (before : List BidiClass) (type : BidiClass) (after : List BidiClass) → w4_at (double k before) type after ≡ w4_at before type after
w4-front k [] type after = refl
w4-front zero (other ∷ before) type after = w4-head other (other ∷ before) before type after
w4-front (suc k) (other ∷ before) type after = w4-head other (double k before) before type after

w4-back : (k : ℕ) (before : List BidiClass) (type : BidiClass) (after : List BidiClass) → w4_at before type (double k after) ≡ w4_at before type after
w4-back k before type [] = refl
w4-back zero before type (other ∷ after) = w4-tail before type other (other ∷ after) after
w4-back (suc k) before type (other ∷ after) = w4-tail before type other (double k after) after

w4-calm : (before : List BidiClass) (type : BidiClass) (after : List BidiClass) → can_be_doubled type ≡ true → w4_at before type after ≡ type
w4-calm before ES after is = absurd (cc)
w4-calm before CS after is = absurd (cc)
w4-calm [] _ after is = refl
w4-calm (EN ∷ before) _ after is = refl
w4-calm (AN ∷ before) _ after is = refl
w4-calm (_ ∷ before) _ after is = refl

w4-stable : IsStable w4_at can_be_doubled
w4-stable = record {
  front = w4-front;
  back = w4-back;
  first = λ before type after is. w4-calm before type (type ∷ after) is ∙ sym (w4-calm before type after is);
  second = λ before type after is. w4-calm (type ∷ before) type after is ∙ sym (w4-calm before type after is);
}

-- ---- W5
w5-front : (k : ℕ) (before : List BidiClass) (type : BidiClass) (after : List BidiClass) → w5_at (double k before) type after ≡ w5_at before type after
w5-front k before ET after =
    ap (λ type. if is_number type || is_number (nearest (λ type. not (is_terminator type)) ON after) then EN else ET) (nearest-double (λ type. not (is_terminator type)) ON k before)
w5-front k before _ after = refl

w5-back : (k : ℕ) (before : List BidiClass) (type : BidiClass) (after : List BidiClass) → w5_at before type (double k after) ≡ w5_at before type after
w5-back k before ET after =
    ap (λ type. if is_number (nearest (λ type. not (is_terminator type)) ON before) || is_number type then EN else ET) (nearest-double (λ type. not (is_terminator type)) ON k after)
w5-back k before _ after = refl

w5-first : (before : List BidiClass) (type : BidiClass) (after : List BidiClass) → w5_at before type (type ∷ after) ≡ w5_at before type after
w5-first before ET after = refl
w5-first before _ after = refl

w5-second : (before : List BidiClass) (type : BidiClass) (after : List BidiClass) → w5_at (type ∷ before) type after ≡ w5_at before type after
w5-second before ET after = refl
w5-second before _ after = refl

w5-stable : IsStable w5_at any
w5-stable = record {
  front = w5-front;
  back = w5-back;
  first = λ before type after is. w5-first before type after;
  second = λ before type after is. w5-second before type after;
}

-- ---- W7
w7-front : (sos : BidiClass) (k : ℕ) (before : List BidiClass) (type : BidiClass) (after : List BidiClass) → w7_at sos (double k before) type after ≡ w7_at sos before type after
w7-front sos k before EN after = ap (λ strong. if is_left strong then L else EN) (nearest-double is_strong sos k before)
w7-front sos k before _ after = refl

w7-back : (sos : BidiClass) (before : List BidiClass) (type : BidiClass) (after other : List BidiClass) → w7_at sos before type after ≡ w7_at sos before type other
w7-back sos before EN after other = refl
w7-back sos before _ after other = refl

w7-second : (sos : BidiClass) (before : List BidiClass) (type : BidiClass) (after : List BidiClass) → w7_at sos (type ∷ before) type after ≡ w7_at sos before type after
w7-second sos before EN after = refl
w7-second sos before _ after = refl

w7-stable : (sos : BidiClass) → IsStable (w7_at sos) any
w7-stable sos = record {
  front = w7-front sos;
  back = λ k before type after. w7-back sos before type (double k after) after;
  first = λ before type after is. w7-back sos before type (type ∷ after) after;
  second = λ before type after is. w7-second sos before type after;
}

-- the weak rules commute with repeating a type that may be repeated
pub weak-double : (sos : BidiClass) (k : ℕ) (types : List BidiClass) → can_be_doubled (class_at types k) ≡ true → weak sos (double k types) ≡ double k (weak sos types)
weak-double sos k types is =
    let one = w1 sos types in
    let two = w2 sos one in
    let three = w3 two in
    let four = w4 three in
    let is_one : can_be_doubled (class_at one k) ≡ true = each_by-calm (w1_at sos) can_be_doubled (w1-calm sos) k [] types is in
    let is_two : can_be_doubled (class_at two k) ≡ true = each_by-calm (w2_at sos) can_be_doubled (w2-calm sos) k [] one is_one in
    let is_three : can_be_doubled (class_at three k) ≡ true = map-calm w3_type can_be_doubled w3-calm k two is_two in
    ap (λ xs. w7 sos (w6 (w5 (w4 (w3 (w2 sos xs)))))) (each_by-double (w1_at sos) any (w1-stable sos) k [] types refl)
    ∙ ap (λ xs. w7 sos (w6 (w5 (w4 (w3 xs))))) (each_by-double (w2_at sos) any (w2-stable sos) k [] one refl)
    ∙ ap (λ xs. w7 sos (w6 (w5 (w4 xs)))) (map-double w3_type k two)
    ∙ ap (λ xs. w7 sos (w6 (w5 xs))) (each_by-double w4_at can_be_doubled w4-stable k [] three is_three)
    ∙ ap (λ xs. w7 sos (w6 xs)) (each_by-double w5_at any w5-stable k [] four refl)
    ∙ ap (w7 sos) (map-double w6_type k (w5 four))
    ∙ each_by-double (w7_at sos) any (w7-stable sos) k [] (w6 (w5 four)) refl

-- ---- N1 and N2
abbrev ends : BidiClass → Bool
ends type = not (is_neutral type)

skips : (test : BidiClass → Bool) (o type : BidiClass) (types : List BidiClass) (f : BidiClass → BidiClass)
    → (if test type then f (nearest (λ t. not (test t)) o (type ∷ types)) else type) ≡ (if test type then f (nearest (λ t. not (test t)) o types) else type)
skips test o type types f =
    elim (test type) as (λ b. (if b then f (if not b then type else nearest (λ t. not (test t)) o types) else type) ≡ (if b then f (nearest (λ t. not (test t)) o types) else type)) [
      | true ↦ refl
      | false ↦ refl
    ]

neutral-stable : (embedding sos eos : BidiClass) → IsStable (neutral_at embedding sos eos) any
neutral-stable embedding sos eos = record {
  front = λ k before type after. ap (λ t. if is_neutral type then between embedding t (nearest ends eos after) else type) (nearest-double ends sos k before);
  back = λ k before type after. ap (λ t. if is_neutral type then between embedding (nearest ends sos before) t else type) (nearest-double ends eos k after);
  first = λ before type after is. skips is_neutral eos type after (between embedding (nearest ends sos before));
  second = λ before type after is. skips is_neutral sos type before (λ t. between embedding t (nearest ends eos after));
}

pub neutral-double : (embedding sos eos : BidiClass) (k : ℕ) (types : List BidiClass) → neutral embedding sos eos (double k types) ≡ double k (neutral embedding sos eos types)
neutral-double embedding sos eos k types = each_by-double (neutral_at embedding sos eos) any (neutral-stable embedding sos eos) k [] types refl

-- applying a rule to each item does not change the length of the list
pub length-each_by : (rule : List BidiClass → BidiClass → List BidiClass → BidiClass) (before types : List BidiClass) → length (each_by rule before types) ≡ length types
length-each_by rule before [] = refl
length-each_by rule before (type ∷ types) = ap suc (length-each_by rule (type ∷ before) types)
