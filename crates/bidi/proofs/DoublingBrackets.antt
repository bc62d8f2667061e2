-- N0 on a sequence with a repeated character that is not a bracket, and the levels of such a sequence.
use Rattle.std.proofs.Common.{◌≡◌, ◌≢◌, ℕ, zero, suc, ◌+◌, ◌<◌, ◌≤◌, ◌==◌, nat_lt, Bool, true, false, ◌&&◌, ◌||◌, not, if◌then◌else◌, List, [], ◌∷◌, ◌++◌, length, take, map, fold, reverse, slice_index, slice_range, Option, Some, None, option_map, refl, sym, ap, ◌∙◌, inl, inr, arith}
use Rattle.std.specs.List.{list_all, list_any, range_with_len}
use Rattle.std.proofs.lemmas.Bool.{cases_eq, cases_lt, ne_eqb, lt-ltb, le-ltb, and_left}
use Rattle.std.proofs.lemmas.List.{length-map, reverse-append}
use Rattle.std.proofs.lemmas.List.FromFn.{length-map-range_with_len}
use Rattle.ucd.specs.declared.bidi_class.BidiClass.{BidiClass}
use Rattle.ucd.specs.declared.bidi_class.BidiClass.TheVariants.{ON}
use Rattle.ucd.specs.declared.bracket.Bracket.{Bracket}
use Rattle.ucd.specs.Classes.{class_at, is_nonspacing_mark}
use Rattle.bidi.specs.Brackets.{brackets, closer_of, context, is_direction, is_set_with, is_toward, pair_direction, pair_step, pairs_of, set_pair, set_with, stands}
use Rattle.bidi.specs.Doubling.{double, can_be_doubled}
use Rattle.bidi.specs.Levels.{sequence_levels}
use Rattle.bidi.specs.Neighbours.{nearest}
use Rattle.bidi.specs.Neutral.{agree, implicit_level, neutral, side}
use Rattle.bidi.specs.Sequences.{direction}
use Rattle.bidi.specs.Weak.{is_left, w1, w1_at, w2, w2_at, w3, w3_type, w4, w4_at, w5, w5_at, w6, w6_type, w7_at, weak}
use Rattle.bidi.proofs.DoublingLists.{all-double, any-double, begins-after, collapse, collapse-shift, ends-after, ends-at, get_or-double, le-collapse, length-double, lt-collapse, map-double, map-range-double, shift, shift-collapse, shift-eq, shift-high, shift-low, slice-double, take-double-high, take-double-low}
use Rattle.bidi.proofs.DoublingPairs.{apart-closer, apart-none, apart-pairs, closer-double, closer-second, pairs-double, shift_pair}
use Rattle.bidi.proofs.DoublingRules.{length-each_by, neutral-double, weak-double}

-- ---- whether an item is set with a bracket of a pair
eq-collapse : (k p j : ℕ) → p ≢ k → (shift k p == j) ≡ (p == collapse k j)
eq-collapse k p j other =
    elim (cases_eq (collapse k j) k) [
      | inl e ↦ ne_eqb (shift k p) j (λ f. other (sym (collapse-shift k p) ∙ ap (collapse k) f ∙ e)) ∙ sym (ne_eqb p (collapse k j) (λ f. other (f ∙ e)))
      | inr ne ↦ ap (λ i. shift k p == i) (sym (shift-collapse k j ne)) ∙ shift-eq k p (collapse k j)
    ]

is_set-double : (marks : List Bool) (k p j : ℕ) → p ≢ k → is_set_with (double k marks) (shift k p) j ≡ is_set_with marks p (collapse k j)
is_set-double marks k p j other =
    let m = collapse k j in
    let read : List Bool → Bool = list_all (λ mark. mark) in
    let new = read (slice_range (double k marks) (shift k p + 1) (j + 1)) in
    let old = read (slice_range marks (p + 1) (m + 1)) in
    let after : (nat_lt (shift k p) j && new) ≡ (nat_lt p m && old) =
    elim (cases_lt p m) [
      | inl less ↦
          ap (λ b. b && new) (lt-ltb (shift k p) j (lt-collapse k p j other less) ∙ sym (lt-ltb p m less))
          ∙ ap (λ b. nat_lt p m && b) (slice-double false read k marks (λ i ys same. all-double (λ mark. mark) i ys) (shift k p + 1) (p + 1) (j + 1) (m + 1) (begins-after k p other) (ends-after k j))
      | inr more ↦ and_left (nat_lt (shift k p) j) new (le-ltb (shift k p) j (le-collapse k p j other more)) ∙ sym (and_left (nat_lt p m) old (le-ltb p m more))
    ] in
    ap (λ b. b || (nat_lt (shift k p) j && new)) (eq-collapse k p j other) ∙ ap (λ b. (p == m) || b) after

set_with-double : (marks : List Bool) (direction : BidiClass) (types : List BidiClass) (k p : ℕ) → p ≢ k → k < length types
    → set_with (double k marks) direction (double k types) (shift k p) ≡ double k (set_with marks direction types p)
set_with-double marks direction types k p other within =
    let new : ℕ → BidiClass = λ j. if is_set_with (double k marks) (shift k p) j then direction else class_at (double k types) j in
    let old : ℕ → BidiClass = λ j. if is_set_with marks p j then direction else class_at types j in
    ap (λ n. map new (range_with_len 0 n)) (length-double k types within)
    ∙ map-range-double old new k (length types) (λ j.
    ap (λ b. if b then direction else class_at (double k types) j) (is_set-double marks k p j other)
    ∙ ap (λ t. if is_set_with marks p (collapse k j) then direction else t) (get_or-double k types j ON)) within

length-set : (marks : List Bool) (direction : BidiClass) (types : List BidiClass) (p : ℕ) → length (set_with marks direction types p) ≡ length types
length-set marks direction types p = length-map-range_with_len (λ j. if is_set_with marks p j then direction else class_at types j) 0 (length types)

-- ---- the direction of a pair
nearest-append : (test : BidiClass → Bool) (other : BidiClass) (xs ys : List BidiClass) → nearest test other (xs ++ ys) ≡ nearest test (nearest test other ys) xs
nearest-append test other [] ys = refl
nearest-append test other (x ∷ xs) ys = ap (λ rest. if test x then x else rest) (nearest-append test other xs ys)

nearest-last : (test : BidiClass → Bool) (other x : BidiClass) (xs : List BidiClass) → nearest test other (reverse (x ∷ xs)) ≡ nearest test (if test x then x else other) (reverse xs)
nearest-last test other x xs = ap (nearest test other) (reverse-append (x ∷ []) xs) ∙ nearest-append test other (reverse xs) (x ∷ [])

same-twice : (b : Bool) (x y : BidiClass) → (if b then x else (if b then x else y)) ≡ (if b then x else y)
same-twice true x y = refl
same-twice false x y = refl

nearest-reverse : (test : BidiClass → Bool) (k : ℕ) (other : BidiClass) (xs : List BidiClass) → nearest test other (reverse (double k xs)) ≡ nearest test other (reverse xs)
nearest-reverse test k other [] = refl
nearest-reverse test zero other (x ∷ xs) =
    nearest-last test other x (x ∷ xs) ∙ nearest-last test (if test x then x else other) x xs
    ∙ ap (λ o. nearest test o (reverse xs)) (same-twice (test x) x other) ∙ sym (nearest-last test other x xs)
nearest-reverse test (suc k) other (x ∷ xs) =
    nearest-last test other x (double k xs) ∙ nearest-reverse test k (if test x then x else other) xs ∙ sym (nearest-last test other x xs)

context-double : (sos : BidiClass) (types : List BidiClass) (k a : ℕ) → context sos (double k types) (shift k a) ≡ context sos types a
context-double sos types k a =
    elim (cases_lt k a) [
      | inl above ↦
          ap (λ n. nearest is_direction sos (reverse (take n (double k types)))) (shift-high k a above)
          ∙ ap (λ xs. nearest is_direction sos (reverse xs)) (take-double-high a k types above)
          ∙ nearest-reverse is_direction k sos (take a types)
      | inr upto ↦
          ap (λ n. nearest is_direction sos (reverse (take n (double k types)))) (shift-low k a upto)
          ∙ ap (λ xs. nearest is_direction sos (reverse xs)) (take-double-low a k types (omega (arith, upto)))
    ]

stands-double : (left : Bool) (types : List BidiClass) (k a b : ℕ) → a ≢ k → b ≢ k → stands left (double k types) (shift k a) (shift k b) ≡ stands left types a b
stands-double left types k a b one two =
    slice-double ON (list_any (is_toward left)) k types (λ i ys same. any-double (is_toward left) i ys) (shift k a + 1) (a + 1) (shift k b) b (begins-after k a one) (ends-at k b)

abbrev chosen : Bool → Bool → Bool → BidiClass → Option BidiClass
chosen left same other near = if same then Some (side left) else (if other then Some (side (if agree left (is_left near) then left else not left)) else None)

direction-double : (left : Bool) (sos : BidiClass) (types : List BidiClass) (k a b : ℕ) → a ≢ k → b ≢ k
    → pair_direction left sos (double k types) (shift k a) (shift k b) ≡ pair_direction left sos types a b
direction-double left sos types k a b one two =
    let near = context sos (double k types) (shift k a) in
    ap (λ s. chosen left s (stands (not left) (double k types) (shift k a) (shift k b)) near) (stands-double left types k a b one two)
    ∙ ap (λ s. chosen left (stands left types a b) s near) (stands-double (not left) types k a b one two)
    ∙ ap (chosen left (stands left types a b) (stands (not left) types a b)) (context-double sos types k a)

set_pair-double : (marks : List Bool) (types : List BidiClass) (k a b : ℕ) (direction : Option BidiClass) → a ≢ k → b ≢ k → k < length types
    → set_pair (double k marks) (double k types) (shift k a) (shift k b) direction ≡ double k (set_pair marks types a b direction)
set_pair-double marks types k a b None one two within = refl
set_pair-double marks types k a b (Some direction) one two within =
    ap (λ xs. set_with (double k marks) direction xs (shift k b)) (set_with-double marks direction types k a one within)
    ∙ set_with-double marks direction (set_with marks direction types a) k b two (omega (arith, within, length-set marks direction types a))

length-pair : (marks : List Bool) (types : List BidiClass) (a b : ℕ) (direction : Option BidiClass) → length (set_pair marks types a b direction) ≡ length types
length-pair marks types a b None = refl
length-pair marks types a b (Some direction) = length-set marks direction (set_with marks direction types a) b ∙ length-set marks direction types a

-- ---- the steps of N0
module _ (embedding sos : BidiClass) (marks : List Bool) (k : ℕ) where
  step-double : (types : List BidiClass) (a : ℕ) (o : Option ℕ) → ((b : ℕ) → o ≡ Some b → (a ≢ k) × (b ≢ k)) → k < length types
      → pair_step embedding sos (double k marks) (double k types) (shift k a) (option_map (shift k) o) ≡ double k (pair_step embedding sos marks types a o)
  step-double types a None apart within = refl
  step-double types a (Some b) apart within =
      let one = (apart b refl).0 in
      let two = (apart b refl).1 in
      ap (set_pair (double k marks) (double k types) (shift k a) (shift k b)) (direction-double (is_left embedding) sos types k a b one two)
      ∙ set_pair-double marks types k a b (pair_direction (is_left embedding) sos types a b) one two within

  length-step : (types : List BidiClass) (a : ℕ) (o : Option ℕ) → length (pair_step embedding sos marks types a o) ≡ length types
  length-step types a None = refl
  length-step types a (Some b) = length-pair marks types a b (pair_direction (is_left embedding) sos types a b)

  module _ (closer new_closer : ℕ → Option ℕ) (same : (a : ℕ) → new_closer (shift k a) ≡ option_map (shift k) (closer a))
      (apart : (a b : ℕ) → closer a ≡ Some b → (a ≢ k) × (b ≢ k)) (first : closer k ≡ None) (second : new_closer (suc k) ≡ None) where
    abbrev step : List BidiClass → ℕ → List BidiClass
    step types a = pair_step embedding sos marks types a (closer a)

    abbrev new_step : List BidiClass → ℕ → List BidiClass
    new_step types a = pair_step embedding sos (double k marks) types a (new_closer a)

    one-step : (types : List BidiClass) (a : ℕ) → k < length types → new_step (double k types) (shift k a) ≡ double k (step types a)
    one-step types a within =
        ap (pair_step embedding sos (double k marks) (double k types) (shift k a)) (same a)
        ∙ step-double types a (closer a) (apart a) within

    steps-past : (n a : ℕ) (types : List BidiClass) → k < a → k < length types → fold new_step (double k types) (range_with_len (suc a) n) ≡ double k (fold step types (range_with_len a n))
    steps-past zero a types past within = refl
    steps-past (suc n) a types past within =
        let there : new_step (double k types) (suc a) ≡ double k (step types a) = ap (new_step (double k types)) (sym (shift-high k a past)) ∙ one-step types a within in
        ap (λ xs. fold new_step xs (range_with_len (suc a + 1) n)) there
        ∙ let e : suc a + 1 ≡ suc (a + 1) = omega arith in ap (λ m. fold new_step (double k (step types a)) (range_with_len m n)) e
        ∙ steps-past n (a + 1) (step types a) (omega (arith, past)) (omega (arith, within, length-step types a (closer a)))

    skip-first : (types : List BidiClass) → new_step types k ≡ types
    skip-first types =
        let none : new_closer k ≡ None = ap new_closer (sym (shift-low k k (omega arith))) ∙ same k ∙ ap (option_map (shift k)) first in
        ap (pair_step embedding sos (double k marks) types k) none

    pub steps-double : (n a : ℕ) (types : List BidiClass) → a ≤ k → k < a + n → k < length types
        → fold new_step (double k types) (range_with_len a (suc n)) ≡ double k (fold step types (range_with_len a n))
    steps-double zero a types upto past within = absurd (omega (arith, upto, past))
    steps-double (suc n) a types upto past within =
        elim (cases_eq a k) [
          | inl e ↦
              let skip : new_step (double k types) a ≡ double k types = ap (new_step (double k types)) e ∙ skip-first (double k types) in
              let again : new_step (double k types) (a + 1) ≡ double k types =
              (let f : a + 1 ≡ suc k = omega (arith, e) in ap (new_step (double k types)) f ∙ ap (pair_step embedding sos (double k marks) (double k types) (suc k)) second) in
              let stays : step types a ≡ types = ap (step types) e ∙ ap (pair_step embedding sos marks types k) first in
              let f : a + 1 + 1 ≡ suc (a + 1) = omega arith in
              ap (λ xs. fold new_step (new_step xs (a + 1)) (range_with_len (a + 1 + 1) n)) skip
              ∙ ap (λ xs. fold new_step xs (range_with_len (a + 1 + 1) n)) again
              ∙ ap (λ m. fold new_step (double k types) (range_with_len m n)) f
              ∙ steps-past n (a + 1) types (omega (arith, e)) within
              ∙ ap (λ xs. double k (fold step xs (range_with_len (a + 1) n))) (sym stays)
          | inr ne ↦
              let there : new_step (double k types) a ≡ double k (step types a) = ap (new_step (double k types)) (sym (shift-low k a upto)) ∙ one-step types a within in
              ap (λ xs. fold new_step xs (range_with_len (a + 1) (suc n))) there
              ∙ steps-double n (a + 1) (step types a) (omega (arith, upto, ne)) (omega (arith, past)) (omega (arith, within, length-step types a (closer a)))
        ]

-- N0 commutes with repeating a character that is not a bracket
pub brackets-double : (look : ℕ → Option Bracket) (embedding sos : BidiClass) (characters : List ℕ) (explicit types : List BidiClass) (k : ℕ) → look (slice_index characters k) ≡ None → k < length types
    → brackets look embedding sos (double k characters) (double k explicit) (double k types) ≡ double k (brackets look embedding sos characters explicit types)
brackets-double look embedding sos characters explicit types k none within =
    let pairs = pairs_of look characters types in
    let new_pairs = pairs_of look (double k characters) (double k types) in
    let marks = map is_nonspacing_mark explicit in
    let n = length types in
    let apart = apart-pairs look characters types k none in
    let agrees = pairs-double look characters types k none within in
    ap (λ m. fold (λ current a. pair_step embedding sos (map is_nonspacing_mark (double k explicit)) current a (closer_of new_pairs a)) (double k types) (range_with_len 0 m)) (length-double k types within)
    ∙ ap (λ xs. fold (λ current a. pair_step embedding sos xs current a (closer_of new_pairs a)) (double k types) (range_with_len 0 (suc n))) (map-double is_nonspacing_mark k explicit)
    ∙ ap (λ ps. fold (λ current a. pair_step embedding sos (double k marks) current a (closer_of ps a)) (double k types) (range_with_len 0 (suc n))) agrees
    ∙ steps-double embedding sos marks k (closer_of pairs) (closer_of (map (shift_pair k) pairs)) (closer-double k pairs) (apart-closer k pairs apart) (apart-none k pairs apart)
    (closer-second k pairs) n 0 types (omega arith) (omega (arith, within)) within

-- ---- the levels of a sequence
pub length-weak : (sos : BidiClass) (types : List BidiClass) → length (weak sos types) ≡ length types
length-weak sos types =
    let one = w1 sos types in
    let three = w3 (w2 sos one) in
    let five = w5 (w4 three) in
    length-each_by (w7_at sos) [] (w6 five) ∙ length-map five w6_type ∙ length-each_by w5_at [] (w4 three) ∙ length-each_by w4_at [] three
    ∙ length-map (w2 sos one) w3_type ∙ length-each_by (w2_at sos) [] one ∙ length-each_by (w1_at sos) [] types

pub sequence-double : (look : ℕ → Option Bracket) (level : ℕ) (sos eos : BidiClass) (characters : List ℕ) (types : List BidiClass) (k : ℕ)
    → look (slice_index characters k) ≡ None → can_be_doubled (class_at types k) ≡ true → k < length types
    → sequence_levels look level sos eos (double k characters) (double k types) ≡ double k (sequence_levels look level sos eos characters types)
sequence-double look level sos eos characters types k none repeats within =
    let embedding = direction level in
    let later = λ (xs : List BidiClass). map (implicit_level level) (neutral embedding sos eos xs) in
    ap (λ xs. later (brackets look embedding sos (double k characters) (double k types) xs)) (weak-double sos k types repeats)
    ∙ ap later (brackets-double look embedding sos characters types (weak sos types) k none (omega (arith, within, length-weak sos types)))
    ∙ ap (map (implicit_level level)) (neutral-double embedding sos eos k (brackets look embedding sos characters types (weak sos types)))
    ∙ map-double (implicit_level level) k (neutral embedding sos eos (brackets look embedding sos characters types (weak sos types)))
