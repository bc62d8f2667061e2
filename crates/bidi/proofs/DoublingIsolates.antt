-- Isolates and base levels of a paragraph with a repeated character that is neither an isolate initiator nor a
-- PDI.
use Rattle.std.proofs.Common.{◌≡◌, ◌≢◌, ℕ, zero, suc, ◌+◌, ◌-◌, ◌<◌, ◌==◌, nat_lt, Bool, true, false, cond, ◌&&◌, not, if◌then◌else◌, List, [], ◌∷◌, length, map, slice_range, count_by, Option, Some, None, option_map, unwrap_or, refl, sym, ap, ◌∙◌, inl, inr, arith, zero-add}
use Rattle.std.specs.List.{list_all, range_with_len}
use Rattle.std.proofs.lemmas.Bool.{cases_Bool, cases_eq, cases_lt, both_ways, and_left, not_from_false}
use Rattle.std.proofs.lemmas.List.Folds.{list_all-append}
use Rattle.std.proofs.lemmas.List.Sums.{sum_by-cons}
use Rattle.ucd.specs.declared.bidi_class.BidiClass.{BidiClass}
use Rattle.ucd.specs.declared.bidi_class.BidiClass.TheVariants.{ON, FSI, LRI, RLI}
use Rattle.ucd.specs.Classes.{class_at, is_initiator, is_pdi, is_strong}
use Rattle.ucd.specs.Least.{least}
use Rattle.bidi.specs.declared.base.Base.{Base}
use Rattle.bidi.specs.declared.base.Base.TheVariants.{Rtl, Ltr, WeakRtl, WeakLtr}
use Rattle.bidi.specs.Base.{base_level_of, first_strong_level, is_balanced, is_before, is_in_span, is_outside, match_of, strong_level}
use Rattle.bidi.specs.Doubling.{double}
use Rattle.bidi.specs.Explicit.{directed, directed_at, span_of}
use Rattle.bidi.proofs.DoublingLists.{after-shift, before-shift, begins-after, begins-at, collapse, collapse-more, collapse-next, collapse-same, collapse-shift, double-past, ends-after, ends-at, get_or-double, least-double, least-past, length-double, map-range-double, range-last, shift, shift-collapse, shift-high, shift-low, slice-double, unwrap-shift}

-- repeating an item that is not counted does not change the count
count-ignores : (p : BidiClass → Bool) (k : ℕ) (xs : List BidiClass) → p (class_at xs k) ≡ false → count_by p (double k xs) ≡ count_by p xs
count-ignores p k [] not_counted = refl
count-ignores p zero (x ∷ xs) not_counted = sum_by-cons (λ t. cond (p t) 1 0) x (x ∷ xs) ∙ ap (λ b. cond b 1 0 + count_by p (x ∷ xs)) not_counted ∙ zero-add (count_by p (x ∷ xs))
count-ignores p (suc k) (x ∷ xs) not_counted =
    sum_by-cons (λ t. cond (p t) 1 0) x (double k xs) ∙ ap (λ n. cond (p x) 1 0 + n) (count-ignores p k xs not_counted) ∙ sym (sum_by-cons (λ t. cond (p t) 1 0) x xs)

-- ---- tests of all indices before a given index
and-true : (b : Bool) → (b && true) ≡ b
and-true true = refl
and-true false = refl

all-last : (p : ℕ → Bool) (n : ℕ) → list_all p (range_with_len 0 (suc n)) ≡ (list_all p (range_with_len 0 n) && p n)
all-last p n =
    ap (list_all p) (range-last 0 n) ∙ list_all-append p (range_with_len 0 n) ((0 + n) ∷ [])
    ∙ ap (λ i. list_all p (range_with_len 0 n) && (p i && true)) (zero-add n) ∙ ap (λ b. list_all p (range_with_len 0 n) && b) (and-true (p n))

and-is : (a b : Bool) → b ≡ true → (a && b) ≡ a
and-is true b e = e
and-is false b e = refl

all-range-double : (k : ℕ) (p q : ℕ → Bool) → ((i : ℕ) → q i ≡ p (collapse k i)) → p k ≡ true → (j : ℕ) → list_all q (range_with_len 0 j) ≡ list_all p (range_with_len 0 (collapse k j))
all-range-double k p q same here zero = refl
all-range-double k p q same here (suc j) =
    all-last q j
    ∙ elim (cases_eq j k) [
      | inl e ↦
          and-is (list_all q (range_with_len 0 j)) (q j) (same j ∙ ap (λ i. p (collapse k i)) e ∙ ap p (collapse-same k) ∙ here)
          ∙ all-range-double k p q same here j
          ∙ ap (λ i. list_all p (range_with_len 0 i)) (ap (collapse k) e ∙ collapse-same k ∙ sym (ap (λ i. collapse k (suc i)) e ∙ collapse-next k))
      | inr ne ↦
          ap (λ b. b && q j) (all-range-double k p q same here j)
          ∙ ap (λ b. list_all p (range_with_len 0 (collapse k j)) && b) (same j)
          ∙ sym (all-last p (collapse k j))
          ∙ ap (λ i. list_all p (range_with_len 0 i)) (sym (collapse-more k j ne))
    ]

-- whether a class is neither an isolate initiator nor PDI
pub record IsInner (class : BidiClass) : Type 0 where
  pub opens : is_initiator class ≡ false
  pub shuts : is_pdi class ≡ false

before-double : (k j : ℕ) (o : Option ℕ) → is_before j (option_map (shift k) o) ≡ is_before (collapse k j) o
before-double k j None = refl
before-double k j (Some m) = before-shift k j m

map-shift : {A : Type 0} (k : ℕ) (f g : ℕ → A) → ((i : ℕ) → g (shift k i) ≡ f i) → (o : Option ℕ) → option_map g (option_map (shift k) o) ≡ option_map f o
map-shift k f g same None = refl
map-shift k f g same (Some i) = ap Some (same i)

module _ (classes : List BidiClass) (k : ℕ) (inner : IsInner (class_at classes k)) (within : k < length classes) where
  balance-ignores : (m : ℕ) (ys : List BidiClass) → class_at ys m ≡ class_at classes k → (count_by is_initiator (double m ys) == count_by is_pdi (double m ys)) ≡ (count_by is_initiator ys == count_by is_pdi ys)
  balance-ignores m ys same =
      ap (λ n. n == count_by is_pdi (double m ys)) (count-ignores is_initiator m ys (ap is_initiator same ∙ inner.opens))
      ∙ ap (λ n. count_by is_initiator ys == n) (count-ignores is_pdi m ys (ap is_pdi same ∙ inner.shuts))

  balanced-double : (i j : ℕ) → i ≢ k → is_balanced (double k classes) (shift k i) j ≡ is_balanced classes i (collapse k j)
  balanced-double i j other =
      slice-double ON (λ part. count_by is_initiator part == count_by is_pdi part) k classes balance-ignores
      (shift k i) i (j + 1) (collapse k j + 1) (begins-at k i other) (ends-after k j)

  pub match-double : (i : ℕ) → i ≢ k → match_of (double k classes) (shift k i) ≡ option_map (shift k) (match_of classes i)
  match-double i other =
      let n = length classes in
      let test = is_balanced (double k classes) (shift k i) in
      ap (λ m. least test (shift k i + 1) (m - (shift k i + 1))) (length-double k classes within)
      ∙ elim (cases_lt k i) [
        | inl above ↦
            let start : shift k i + 1 ≡ suc (i + 1) = omega (arith, shift-high k i above) in
            let size : suc n - suc (i + 1) ≡ n - (i + 1) = omega arith in
            ap (λ m. least test m (suc n - m)) start ∙ ap (least test (suc (i + 1))) size
            ∙ least-past k (is_balanced classes i) test (λ j. balanced-double i j other) (i + 1) (n - (i + 1)) (omega (arith, above))
        | inr upto ↦
            let start : shift k i + 1 ≡ i + 1 = omega (arith, shift-low k i upto) in
            let size : suc n - (i + 1) ≡ suc (n - (i + 1)) = omega (arith, upto, other, within) in
            ap (λ m. least test m (suc n - m)) start ∙ ap (least test (i + 1)) size
            ∙ least-double k (is_balanced classes i) test (λ j. balanced-double i j other) (i + 1) (n - (i + 1)) (omega (arith, upto, other)) (omega (arith, within, upto, other))
      ]

  -- ---- whether a character is inside an isolate
  span-double : (j i : ℕ) → is_in_span (double k classes) j i ≡ is_in_span classes (collapse k j) (collapse k i)
  span-double j i =
      let m = collapse k i in
      let new = nat_lt i j && is_before j (match_of (double k classes) i) in
      let old = nat_lt m (collapse k j) && is_before (collapse k j) (match_of classes m) in
      let same : is_initiator (class_at (double k classes) i) ≡ is_initiator (class_at classes m) = ap is_initiator (get_or-double k classes i ON) in
      elim (cases_Bool (is_initiator (class_at classes m))) [
        | inr closed ↦ and_left (is_initiator (class_at (double k classes) i)) new (same ∙ closed) ∙ sym (and_left (is_initiator (class_at classes m)) old closed)
        | inl opens ↦
            let other : m ≢ k = λ e. both_ways (is_initiator (class_at classes k)) inner.opens (ap (λ n. is_initiator (class_at classes n)) (sym e) ∙ opens) in
            ap (λ b. b && new) same
            ∙ ap (λ b. is_initiator (class_at classes m) && b) (
            ap (λ n. nat_lt n j && is_before j (match_of (double k classes) n)) (sym (shift-collapse k i other))
            ∙ ap (λ b. b && is_before j (match_of (double k classes) (shift k m))) (after-shift k m j other)
            ∙ ap (λ b. nat_lt m (collapse k j) && b) (ap (is_before j) (match-double m other) ∙ before-double k j (match_of classes m)))
      ]

  outside-double : (j : ℕ) → is_outside (double k classes) j ≡ is_outside classes (collapse k j)
  outside-double j =
      all-range-double k (λ i. not (is_in_span classes (collapse k j) i)) (λ i. not (is_in_span (double k classes) j i)) (λ i. ap not (span-double j i))
      (not_from_false (is_in_span classes (collapse k j) k) (
      and_left (is_initiator (class_at classes k)) (nat_lt k (collapse k j) && is_before (collapse k j) (match_of classes k)) inner.opens)) j

  level-double : first_strong_level (double k classes) ≡ first_strong_level classes
  level-double =
      let old : ℕ → Bool = λ j. is_strong (class_at classes j) && is_outside classes j in
      let new : ℕ → Bool = λ j. is_strong (class_at (double k classes) j) && is_outside (double k classes) j in
      let same : (j : ℕ) → new j ≡ old (collapse k j) =
      λ j. ap (λ c. is_strong c && is_outside (double k classes) j) (get_or-double k classes j ON) ∙ ap (λ b. is_strong (class_at classes (collapse k j)) && b) (outside-double j) in
      ap (λ n. option_map (λ i. strong_level (class_at (double k classes) i)) (least new 0 n)) (length-double k classes within)
      ∙ ap (option_map (λ i. strong_level (class_at (double k classes) i))) (least-double k old new same 0 (length classes) (omega arith) (omega (arith, within)))
      ∙ map-shift k (λ i. strong_level (class_at classes i)) (λ i. strong_level (class_at (double k classes) i))
      (λ i. ap strong_level (get_or-double k classes (shift k i) ON) ∙ ap (λ n. strong_level (class_at classes n)) (collapse-shift k i)) (least old 0 (length classes))

-- repeating a character that is not an isolate initiator or a PDI does not change the base level
pub strong_level-double : (classes : List BidiClass) (k : ℕ) → IsInner (class_at classes k) → first_strong_level (double k classes) ≡ first_strong_level classes
strong_level-double classes k inner =
    elim (cases_lt k (length classes)) [
      | inl within ↦ level-double classes k inner within
      | inr past ↦ ap first_strong_level (double-past k classes past)
    ]

pub base-double : (classes : List BidiClass) (k : ℕ) (base : Base) → IsInner (class_at classes k) → base_level_of (double k classes) base ≡ base_level_of classes base
base-double classes k Rtl inner = refl
base-double classes k Ltr inner = refl
base-double classes k WeakRtl inner = ap (λ o. unwrap_or o 1) (strong_level-double classes k inner)
base-double classes k WeakLtr inner = ap (λ o. unwrap_or o 0) (strong_level-double classes k inner)

-- ---- the initiators that FSIs act as
directed_at-same : (new old : List BidiClass) (i j : ℕ) (class : BidiClass) → (class ≡ FSI → first_strong_level (span_of new i) ≡ first_strong_level (span_of old j))
    → directed_at new i class ≡ directed_at old j class
directed_at-same new old i j FSI same = ap (λ o. if unwrap_or o 0 == 1 then RLI else LRI) (same refl)
directed_at-same new old i j _ same = refl

module _ (classes : List BidiClass) (k : ℕ) (inner : IsInner (class_at classes k)) (within : k < length classes) where
  inside-double : (i : ℕ) → i ≢ k → first_strong_level (span_of (double k classes) (shift k i)) ≡ first_strong_level (span_of classes i)
  inside-double i other =
      let end = unwrap_or (match_of classes i) (length classes) in
      let new_end : unwrap_or (match_of (double k classes) (shift k i)) (length (double k classes)) ≡ shift k end =
      ap (λ o. unwrap_or o (length (double k classes))) (match-double classes k inner within i other)
      ∙ ap (unwrap_or (option_map (shift k) (match_of classes i))) (length-double k classes within)
      ∙ unwrap-shift k (length classes) (match_of classes i) within in
      ap (λ e. first_strong_level (slice_range (double k classes) (shift k i + 1) e)) new_end
      ∙ slice-double ON first_strong_level k classes (λ m ys same. strong_level-double ys m (record { opens = ap is_initiator same ∙ inner.opens; shuts = ap is_pdi same ∙ inner.shuts }))
      (shift k i + 1) (i + 1) (shift k end) end (begins-after k i other) (ends-at k end)

  directed_at-double : (j : ℕ) → directed_at (double k classes) j (class_at (double k classes) j) ≡ directed_at classes (collapse k j) (class_at classes (collapse k j))
  directed_at-double j =
      let m = collapse k j in
      ap (directed_at (double k classes) j) (get_or-double k classes j ON)
      ∙ directed_at-same (double k classes) classes j m (class_at classes m) (λ is.
      let other : m ≢ k = λ e. both_ways (is_initiator (class_at classes k)) inner.opens (ap (λ n. is_initiator (class_at classes n)) (sym e) ∙ ap is_initiator is) in
      ap (λ n. first_strong_level (span_of (double k classes) n)) (sym (shift-collapse k j other)) ∙ inside-double m other)

  pub directed-double : directed (double k classes) ≡ double k (directed classes)
  directed-double =
      ap (λ n. map (λ j. directed_at (double k classes) j (class_at (double k classes) j)) (range_with_len 0 n)) (length-double k classes within)
      ∙ map-range-double (λ j. directed_at classes j (class_at classes j)) (λ j. directed_at (double k classes) j (class_at (double k classes) j)) k (length classes) directed_at-double within
