-- Lists with a repeated item, and the indices of their items.
use Rattle.std.proofs.Common.{◌≡◌, ◌≢◌, ℕ, zero, suc, ◌+◌, ◌-◌, ◌<◌, ◌≤◌, ◌==◌, nat_lt, nat_le, Bool, true, false, ◌&&◌, ◌||◌, if◌then◌else◌, List, [], ◌∷◌, ◌++◌, length, get_or, take, drop, map, slice_range, Option, Some, None, option_map, unwrap_or, refl, sym, ap, ◌∙◌, inl, inr, arith, zero-add, le-leb, leb-true, ◌⊎◌}
use Rattle.std.specs.List.{list_any, list_all, range_with_len}
use Rattle.std.proofs.lemmas.Bool.{cond-true, cond-false, cases_Bool, false_from_ne_true, cases_lt, cases_eq, lt-ltb, le-ltb, eq-eqb, ne_eqb}
use Rattle.std.proofs.lemmas.List.{get_or-drop, get_or-take, same_lists}
use Rattle.std.proofs.lemmas.List.FromFn.{get_or-map-range_with_len, length-map-range_with_len}
use Rattle.ucd.specs.Least.{least}
use Rattle.bidi.specs.Doubling.{double}
use Rattle.bidi.specs.Neighbours.{nearest}

-- the old index of the item at index j of the new list, in which the item at k is repeated
abbrev pub collapse : ℕ → ℕ → ℕ
collapse k zero = zero
collapse zero (suc j) = j
collapse (suc k) (suc j) = suc (collapse k j)

-- the first index in the new list of the item at index i of the old list
abbrev pub shift : ℕ → ℕ → ℕ
shift k zero = zero
shift zero (suc i) = suc (suc i)
shift (suc k) (suc i) = suc (shift k i)

pub collapse-low : (k j : ℕ) → j ≤ k → collapse k j ≡ j
collapse-low k zero low = refl
collapse-low zero (suc j) low = absurd (omega (arith, low))
collapse-low (suc k) (suc j) low = ap suc (collapse-low k j (omega (arith, low)))

pub collapse-high : (k j : ℕ) → k < j → suc (collapse k j) ≡ j
collapse-high k zero high = absurd (omega (arith, high))
collapse-high zero (suc j) high = refl
collapse-high (suc k) (suc j) high = ap suc (collapse-high k j (omega (arith, high)))

pub shift-low : (k i : ℕ) → i ≤ k → shift k i ≡ i
shift-low k zero low = refl
shift-low zero (suc i) low = absurd (omega (arith, low))
shift-low (suc k) (suc i) low = ap suc (shift-low k i (omega (arith, low)))

pub shift-high : (k i : ℕ) → k < i → shift k i ≡ suc i
shift-high k zero high = absurd (omega (arith, high))
shift-high zero (suc i) high = refl
shift-high (suc k) (suc i) high = ap suc (shift-high k i (omega (arith, high)))

pub collapse-shift : (k i : ℕ) → collapse k (shift k i) ≡ i
collapse-shift k zero = refl
collapse-shift zero (suc i) = refl
collapse-shift (suc k) (suc i) = ap suc (collapse-shift k i)

pub collapse-same : (k : ℕ) → collapse k k ≡ k
collapse-same k = collapse-low k k (omega arith)

pub collapse-next : (k : ℕ) → collapse k (suc k) ≡ k
collapse-next zero = refl
collapse-next (suc k) = ap suc (collapse-next k)

-- unless j is the index of one of the two equal items, mapping j to its old index and back yields j
pub shift-collapse : (k j : ℕ) → collapse k j ≢ k → shift k (collapse k j) ≡ j
shift-collapse k zero other = refl
shift-collapse zero (suc zero) other = absurd (other refl)
shift-collapse zero (suc (suc j)) other = refl
shift-collapse (suc k) (suc j) other = ap suc (shift-collapse k j (λ e. other (ap suc e)))

-- unless the item at j is the first of the two equal items, the old index of j + 1 is one more than that of j
pub collapse-more : (k j : ℕ) → j ≢ k → collapse k (suc j) ≡ suc (collapse k j)
collapse-more zero zero other = absurd (other refl)
collapse-more (suc k) zero other = refl
collapse-more zero (suc j) other = refl
collapse-more (suc k) (suc j) other = ap suc (collapse-more k j (λ e. other (ap suc e)))

-- ---- the order of indices
pub shift-eq : (k i j : ℕ) → (shift k i == shift k j) ≡ (i == j)
shift-eq k i j =
    elim (cases_eq i j) [
      | inl e ↦ eq-eqb (shift k i) (shift k j) (ap (shift k) e) ∙ sym (eq-eqb i j e)
      | inr ne ↦ ne_eqb (shift k i) (shift k j) (λ e. ne (sym (collapse-shift k i) ∙ ap (collapse k) e ∙ collapse-shift k j)) ∙ sym (ne_eqb i j ne)
    ]

pub shift-lt : (k i j : ℕ) → i < j → shift k i < shift k j
shift-lt k i j less =
    elim (cases_lt k i) [
      | inl high ↦ omega (arith, less, shift-high k i high, shift-high k j (omega (arith, high, less)))
      | inr low ↦ elim (cases_lt k j) [
        | inl above ↦ omega (arith, less, shift-low k i low, shift-high k j above)
        | inr below ↦ omega (arith, less, shift-low k i low, shift-low k j below)
      ]
    ]

pub shift-le : (k i j : ℕ) → i ≤ j → shift k i ≤ shift k j
shift-le k i j less =
    elim (cases_lt k i) [
      | inl high ↦ omega (arith, less, shift-high k i high, shift-high k j (omega (arith, high, less)))
      | inr low ↦ elim (cases_lt k j) [
        | inl above ↦ omega (arith, less, shift-low k i low, shift-high k j above)
        | inr below ↦ omega (arith, less, shift-low k i low, shift-low k j below)
      ]
    ]

pub lt-collapse : (k p j : ℕ) → p ≢ k → p < collapse k j → shift k p < j
lt-collapse k p j other less =
    elim (cases_lt k j) [
      | inl high ↦ elim (cases_lt k p) [
        | inl above ↦ omega (arith, less, collapse-high k j high, shift-high k p above)
        | inr upto ↦ omega (arith, less, collapse-high k j high, shift-low k p upto)
      ]
      | inr low ↦ let e = collapse-low k j low in omega (arith, less, e, low, shift-low k p (omega (arith, less, e, low)))
    ]

pub le-collapse : (k p j : ℕ) → p ≢ k → collapse k j ≤ p → j ≤ shift k p
le-collapse k p j other more =
    elim (cases_lt k j) [
      | inl high ↦ let e = collapse-high k j high in omega (arith, more, e, high, other, shift-high k p (omega (arith, more, e, high, other)))
      | inr low ↦ elim (cases_lt k p) [
        | inl above ↦ omega (arith, more, low, shift-high k p above)
        | inr upto ↦ omega (arith, more, collapse-low k j low, shift-low k p upto)
      ]
    ]

not_le : (i j : ℕ) → j < i → nat_le i j ≡ false
not_le i j more = false_from_ne_true (nat_le i j) (λ e. omega (arith, more, leb-true i j e))

pub shift-nat_le : (k i j : ℕ) → nat_le (shift k i) (shift k j) ≡ nat_le i j
shift-nat_le k i j =
    elim (cases_lt j i) [
      | inl more ↦ not_le (shift k i) (shift k j) (shift-lt k j i more) ∙ sym (not_le i j more)
      | inr less ↦ le-leb (shift k i) (shift k j) (shift-le k i j less) ∙ sym (le-leb i j less)
    ]

pub shift-nat_lt : (k i j : ℕ) → nat_lt (shift k i) (shift k j) ≡ nat_lt i j
shift-nat_lt k i j =
    elim (cases_lt i j) [
      | inl less ↦ lt-ltb (shift k i) (shift k j) (shift-lt k i j less) ∙ sym (lt-ltb i j less)
      | inr more ↦ le-ltb (shift k i) (shift k j) (shift-le k j i more) ∙ sym (le-ltb i j more)
    ]

any-both : (a b : Bool) → (a || (a || b)) ≡ (a || b)
any-both true b = refl
any-both false b = refl

all-both : (a b : Bool) → (a && (a && b)) ≡ (a && b)
all-both true b = refl
all-both false b = refl

-- j is before the first new index of m if and only if the old index of j is before m
pub before-shift : (k j m : ℕ) → nat_lt j (shift k m) ≡ nat_lt (collapse k j) m
before-shift k j m =
    elim (cases_lt k m) [
      | inl above ↦ ap (nat_lt j) (shift-high k m above) ∙ elim (cases_lt k j) [
        | inl high ↦ elim (cases_lt j (suc m)) [
          | inl less ↦ lt-ltb j (suc m) less ∙ sym (lt-ltb (collapse k j) m (omega (arith, less, collapse-high k j high)))
          | inr more ↦ le-ltb j (suc m) more ∙ sym (le-ltb (collapse k j) m (omega (arith, more, collapse-high k j high)))
        ]
        | inr low ↦ lt-ltb j (suc m) (omega (arith, low, above)) ∙ sym (lt-ltb (collapse k j) m (omega (arith, low, above, collapse-low k j low)))
      ]
      | inr upto ↦ ap (nat_lt j) (shift-low k m upto) ∙ elim (cases_lt k j) [
        | inl high ↦ le-ltb j m (omega (arith, high, upto)) ∙ sym (le-ltb (collapse k j) m (omega (arith, high, upto, collapse-high k j high)))
        | inr low ↦ ap (λ i. nat_lt i m) (sym (collapse-low k j low))
      ]
    ]

pub after-shift : (k p j : ℕ) → p ≢ k → nat_lt (shift k p) j ≡ nat_lt p (collapse k j)
after-shift k p j other =
    elim (cases_lt p (collapse k j)) [
      | inl less ↦ lt-ltb (shift k p) j (lt-collapse k p j other less) ∙ sym (lt-ltb p (collapse k j) less)
      | inr more ↦ le-ltb (shift k p) j (le-collapse k p j other more) ∙ sym (le-ltb p (collapse k j) more)
    ]

-- ---- the list with a repeated item
module _ {T : Type 0} where
  pub length-double : (k : ℕ) (xs : List T) → k < length xs → length (double k xs) ≡ suc (length xs)
  length-double k [] within = absurd (omega (arith, within))
  length-double zero (x ∷ xs) within = refl
  length-double (suc k) (x ∷ xs) within = ap suc (length-double k xs (omega (arith, within)))

  pub get_or-double : (k : ℕ) (xs : List T) (j : ℕ) (d : T) → get_or (double k xs) j d ≡ get_or xs (collapse k j) d
  get_or-double k [] j d = refl
  get_or-double zero (x ∷ xs) zero d = refl
  get_or-double zero (x ∷ xs) (suc j) d = refl
  get_or-double (suc k) (x ∷ xs) zero d = refl
  get_or-double (suc k) (x ∷ xs) (suc j) d = get_or-double k xs j d

  pub double-past : (k : ℕ) (xs : List T) → length xs ≤ k → double k xs ≡ xs
  double-past k [] past = refl
  double-past zero (x ∷ xs) past = absurd (omega (arith, past))
  double-past (suc k) (x ∷ xs) past = ap (λ rest. x ∷ rest) (double-past k xs (omega (arith, past)))

  pub take-double-low : (n k : ℕ) (xs : List T) → n ≤ suc k → take n (double k xs) ≡ take n xs
  take-double-low zero k xs low = refl
  take-double-low (suc n) k [] low = refl
  take-double-low (suc zero) zero (x ∷ xs) low = refl
  take-double-low (suc (suc n)) zero (x ∷ xs) low = absurd (omega (arith, low))
  take-double-low (suc n) (suc k) (x ∷ xs) low = ap (λ rest. x ∷ rest) (take-double-low n k xs (omega (arith, low)))

  pub take-double-high : (n k : ℕ) (xs : List T) → k < n → take (suc n) (double k xs) ≡ double k (take n xs)
  take-double-high zero k xs high = absurd (omega (arith, high))
  take-double-high (suc n) k [] high = refl
  take-double-high (suc n) zero (x ∷ xs) high = refl
  take-double-high (suc n) (suc k) (x ∷ xs) high = ap (λ rest. x ∷ rest) (take-double-high n k xs (omega (arith, high)))

  pub drop-double-low : (n k : ℕ) (xs : List T) → n ≤ k → drop n (double k xs) ≡ double (k - n) (drop n xs)
  drop-double-low zero k xs low = let same : k - 0 ≡ k = omega arith in ap (λ m. double m xs) (sym same)
  drop-double-low (suc n) k [] low = refl
  drop-double-low (suc n) zero (x ∷ xs) low = absurd (omega (arith, low))
  drop-double-low (suc n) (suc k) (x ∷ xs) low =
      let same : k - n ≡ suc k - suc n = omega arith in drop-double-low n k xs (omega (arith, low)) ∙ ap (λ m. double m (drop n xs)) same

  pub drop-double-high : (n k : ℕ) (xs : List T) → k < n → drop (suc n) (double k xs) ≡ drop n xs
  drop-double-high zero k xs high = absurd (omega (arith, high))
  drop-double-high (suc n) k [] high = refl
  drop-double-high (suc n) zero (x ∷ xs) high = refl
  drop-double-high (suc n) (suc k) (x ∷ xs) high = drop-double-high n k xs (omega (arith, high))

  pub any-double : (test : T → Bool) (k : ℕ) (xs : List T) → list_any test (double k xs) ≡ list_any test xs
  any-double test k [] = refl
  any-double test zero (x ∷ xs) = any-both (test x) (list_any test xs)
  any-double test (suc k) (x ∷ xs) = ap (λ b. test x || b) (any-double test k xs)

  pub all-double : (test : T → Bool) (k : ℕ) (xs : List T) → list_all test (double k xs) ≡ list_all test xs
  all-double test k [] = refl
  all-double test zero (x ∷ xs) = all-both (test x) (list_all test xs)
  all-double test (suc k) (x ∷ xs) = ap (λ b. test x && b) (all-double test k xs)

  if-both : (b : Bool) (x y : T) → (if b then x else (if b then x else y)) ≡ (if b then x else y)
  if-both true x y = refl
  if-both false x y = refl

  pub nearest-double : (test : T → Bool) (other : T) (k : ℕ) (xs : List T) → nearest test other (double k xs) ≡ nearest test other xs
  nearest-double test other k [] = refl
  nearest-double test other zero (x ∷ xs) = if-both (test x) x (nearest test other xs)
  nearest-double test other (suc k) (x ∷ xs) = ap (λ rest. if test x then x else rest) (nearest-double test other k xs)

pub map-double : {X Y : Type 0} (f : X → Y) (k : ℕ) (xs : List X) → map f (double k xs) ≡ double k (map f xs)
map-double f k [] = refl
map-double f zero (x ∷ xs) = refl
map-double f (suc k) (x ∷ xs) = ap (λ rest. f x ∷ rest) (map-double f k xs)

-- the start and the end of a range of the new list, given those of the corresponding range of the old list
abbrev pub Begins : ℕ → ℕ → ℕ → Type 0
Begins k start old = ((start ≡ old) × (old ≤ k)) ⊎ ((start ≡ suc old) × (k < old))

abbrev pub Ends : ℕ → ℕ → ℕ → Type 0
Ends k end old = ((end ≡ old) × (old ≤ suc k)) ⊎ ((end ≡ suc old) × (k < old))

pub begins-after : (k p : ℕ) → p ≢ k → Begins k (shift k p + 1) (p + 1)
begins-after k p other =
    elim (cases_lt k p) [
      | inl above ↦ inr (omega (arith, shift-high k p above), omega (arith, above))
      | inr upto ↦ inl (omega (arith, shift-low k p upto), omega (arith, upto, other))
    ]

pub begins-at : (k p : ℕ) → p ≢ k → Begins k (shift k p) p
begins-at k p other =
    elim (cases_lt k p) [
      | inl above ↦ inr (omega (arith, shift-high k p above), omega (arith, above))
      | inr upto ↦ inl (omega (arith, shift-low k p upto), omega (arith, upto, other))
    ]

pub ends-at : (k e : ℕ) → Ends k (shift k e) e
ends-at k e = elim (cases_lt k e) [ inl above ↦ inr (shift-high k e above, above) | inr upto ↦ inl (shift-low k e upto, omega (arith, upto)) ]

pub ends-after : (k j : ℕ) → Ends k (j + 1) (collapse k j + 1)
ends-after k j =
    elim (cases_lt k j) [
      | inl high ↦ inr (omega (arith, collapse-high k j high), omega (arith, high, collapse-high k j high))
      | inr low ↦ inl (omega (arith, collapse-low k j low), omega (arith, low, collapse-low k j low))
    ]

-- if a function of lists ignores whether the item is repeated, it has the same result for a range of the new
-- list and the corresponding range of the old one
pub slice-double : {T A : Type 0} (d : T) (read : List T → A) (k : ℕ) (xs : List T) → ((m : ℕ) (ys : List T) → get_or ys m d ≡ get_or xs k d → read (double m ys) ≡ read ys)
    → (start old_start end old : ℕ) → Begins k start old_start → Ends k end old
    → read (slice_range (double k xs) start end) ≡ read (slice_range xs old_start old)
slice-double d read k xs ignores start old_start end old begins ends =
    elim begins [
      | inr b ↦
          let size : end - suc old_start ≡ old - old_start = elim ends [ inl e ↦ omega (arith, e.0, e.1, b.1) | inr e ↦ omega (arith, e.0) ] in
          ap (λ n. read (take (end - n) (drop n (double k xs)))) b.0
          ∙ ap (λ n. read (take n (drop (suc old_start) (double k xs)))) size
          ∙ ap (λ ys. read (take (old - old_start) ys)) (drop-double-high old_start k xs b.1)
      | inl b ↦
          ap (λ n. read (take (end - n) (drop n (double k xs)))) b.0
          ∙ ap (λ ys. read (take (end - old_start) ys)) (drop-double-low old_start k xs b.1)
          ∙ elim ends [
            | inl e ↦
                ap read (take-double-low (end - old_start) (k - old_start) (drop old_start xs) (omega (arith, e.0, e.1, b.1)))
                ∙ ap (λ n. read (take (n - old_start) (drop old_start xs))) e.0
            | inr e ↦
                let size : end - old_start ≡ suc (old - old_start) = omega (arith, e.0, e.1, b.1) in
                let there : old_start + (k - old_start) ≡ k = omega (arith, b.1) in
                let inside : k - old_start < old - old_start = omega (arith, b.1, e.1) in
                ap (λ n. read (take n (double (k - old_start) (drop old_start xs)))) size
                ∙ ap read (take-double-high (old - old_start) (k - old_start) (drop old_start xs) inside)
                ∙ ignores (k - old_start) (take (old - old_start) (drop old_start xs))
                (get_or-take (old - old_start) (drop old_start xs) (k - old_start) d inside ∙ get_or-drop old_start xs (k - old_start) d ∙ ap (λ i. get_or xs i d) there)
          ]
    ]

-- if g j is f at the old index of j, g over the new indices is f over the old indices with item k repeated
pub map-range-double : {T : Type 0} (f g : ℕ → T) (k n : ℕ) → ((j : ℕ) → g j ≡ f (collapse k j)) → k < n
    → map g (range_with_len 0 (suc n)) ≡ double k (map f (range_with_len 0 n))
map-range-double f g k n same within =
    let old = map f (range_with_len 0 n) in
    let old_size : length old ≡ n = length-map-range_with_len f 0 n in
    let size : length (map g (range_with_len 0 (suc n))) ≡ suc n = length-map-range_with_len g 0 (suc n) in
    same_lists (map g (range_with_len 0 (suc n))) (double k old) (omega (arith, size, old_size, length-double k old (omega (arith, within, old_size)))) (λ j d below.
    let inside : j < suc n = omega (arith, below, size) in
    let old_inside : collapse k j < n = elim (cases_lt k j) [
      | inl high ↦ omega (arith, inside, collapse-high k j high)
      | inr low ↦ omega (arith, within, collapse-low k j low)
    ] in
    get_or-map-range_with_len g 0 (suc n) j j d inside (zero-add j) ∙ same j
    ∙ sym (get_or-double k old j d ∙ get_or-map-range_with_len f 0 n (collapse k j) (collapse k j) d old_inside (zero-add (collapse k j))))

-- ---- the least number that passes a test, where the tests of the two equal items agree
module _ (k : ℕ) (p q : ℕ → Bool) (same : (j : ℕ) → q j ≡ p (collapse k j)) where
  at-past : (low : ℕ) → k < low → q (suc low) ≡ p low
  at-past low past = let there : collapse k (suc low) ≡ low = omega (arith, collapse-high k (suc low) (omega (arith, past))) in same (suc low) ∙ ap p there

  pub least-past : (low count : ℕ) → k < low → least q (suc low) count ≡ option_map (shift k) (least p low count)
  least-past low zero past = refl
  least-past low (suc count) past =
      elim (cases_Bool (p low)) [
        | inl passed ↦ cond-true (q (suc low)) (Some (suc low)) (least q (suc (suc low)) count) (at-past low past ∙ passed)
            ∙ ap Some (sym (shift-high k low past))
            ∙ ap (option_map (shift k)) (sym (cond-true (p low) (Some low) (least p (suc low) count) passed))
        | inr failed ↦ cond-false (q (suc low)) (Some (suc low)) (least q (suc (suc low)) count) (at-past low past ∙ failed)
            ∙ least-past (suc low) count (omega (arith, past))
            ∙ ap (option_map (shift k)) (sym (cond-false (p low) (Some low) (least p (suc low) count) failed))
      ]

  pub least-double : (low count : ℕ) → low ≤ k → k < low + count → least q low (suc count) ≡ option_map (shift k) (least p low count)
  least-double low zero upto past = absurd (omega (arith, upto, past))
  least-double low (suc count) upto past =
      let here : q low ≡ p low = same low ∙ ap p (collapse-low k low upto) in
      elim (cases_Bool (p low)) [
        | inl passed ↦ cond-true (q low) (Some low) (least q (suc low) (suc count)) (here ∙ passed)
            ∙ ap Some (sym (shift-low k low upto))
            ∙ ap (option_map (shift k)) (sym (cond-true (p low) (Some low) (least p (suc low) count) passed))
        | inr failed ↦ cond-false (q low) (Some low) (least q (suc low) (suc count)) (here ∙ failed)
            ∙ elim (cases_eq low k) [
              | inl e ↦
                  let second : q (suc low) ≡ false = same (suc low) ∙ ap (λ i. p (collapse k (suc i))) e ∙ ap p (collapse-next k) ∙ ap p (sym e) ∙ failed in
                  cond-false (q (suc low)) (Some (suc low)) (least q (suc (suc low)) count) second
                  ∙ least-past (suc low) count (omega (arith, e))
              | inr ne ↦ least-double (suc low) count (omega (arith, ne, upto)) (omega (arith, past))
            ]
            ∙ ap (option_map (shift k)) (sym (cond-false (p low) (Some low) (least p (suc low) count) failed))
      ]

-- the last of the n + 1 numbers from a on is a + n
pub range-last : (a n : ℕ) → range_with_len a (suc n) ≡ range_with_len a n ++ (a + n) ∷ []
range-last a zero = let e : a ≡ a + 0 = omega arith in ap (λ m. m ∷ []) e
range-last a (suc n) = let e : a + 1 + n ≡ a + suc n = omega arith in ap (λ xs. a ∷ xs) (range-last (a + 1) n ∙ ap (λ m. range_with_len (a + 1) n ++ m ∷ []) e)

-- shifting an optional index and replacing a missing index by the length can be done in either order
pub unwrap-shift : (k n : ℕ) (o : Option ℕ) → k < n → unwrap_or (option_map (shift k) o) (suc n) ≡ shift k (unwrap_or o n)
unwrap-shift k n None within = sym (shift-high k n within)
unwrap-shift k n (Some m) within = refl
