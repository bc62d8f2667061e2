-- A permutation of the positions of a line, and its inverse.
use Rattle.std.proofs.Common.{◌≡◌, ℕ, zero, suc, ◌+◌, ◌<◌, ◌≤◌, ◌==◌, Bool, cond, List, length, get_or, set, take, drop, map, refl, sym, ap, ◌∙◌, inl, inr, arith}
use Rattle.std.specs.List.{count_by, position_or_len, range_with_len, Contains}
use Rattle.std.specs.List.Sorted.{IsPermutation}
use Rattle.std.proofs.lemmas.Bool.{cases_eq, cond-true, cond-false, eq-eqb, ne_eqb}
use Rattle.std.proofs.lemmas.List.{get_or_default, get_or-set_same, get_or-set_other, get_or-take, get_or-drop, length-set, length-take-le, length-drop, same_lists}
use Rattle.std.proofs.lemmas.List.FromFn.{get_or-range_with_len, get_or-map-range_with_len, length-range_with_len, length-map-range_with_len}
use Rattle.std.proofs.lemmas.List.Sorted.{Contains-permutation, length_permutation, sum_by-IsPermutation}
use Rattle.std.proofs.lemmas.List.Sums.{get_or-le-sum_by, position_or_len_is, sum_by-cons, sum_by-take-drop}
use Rattle.ucd.specs.declared.bidi_class.BidiClass.{BidiClass}
use Rattle.reorder.specs.Order.{ltov_of, vtol_of, AreInverse}
use Rattle.reorder.proofs.OrderLemmas.{permuted_within, vtol_permutes}

-- 1 if x is k, and 0 otherwise
abbrev one : ℕ → ℕ → ℕ
one k x = cond (x == k) 1 0

-- a range does not contain a number below its start
absent : (a n k : ℕ) → k < a → count_by (λ x. x == k) (range_with_len a n) ≡ 0
absent a zero k below = refl
absent a (suc n) k below =
    let first : one k a ≡ 0 = cond-false (a == k) 1 0 (ne_eqb a k (λ e. omega arith)) in
    omega (arith, sum_by-cons (one k) a (range_with_len (a + 1) n), first, absent (a + 1) n k (omega arith))

once : (a n k : ℕ) → count_by (λ x. x == k) (range_with_len a n) ≤ 1
once a zero k = omega arith
once a (suc n) k =
    elim (cases_eq a k) [
      | inl e ↦
          let first : one k a ≡ 1 = cond-true (a == k) 1 0 (eq-eqb a k e) in
          omega (arith, sum_by-cons (one k) a (range_with_len (a + 1) n), first, absent (a + 1) n k (omega arith))
      | inr ne ↦
          let first : one k a ≡ 0 = cond-false (a == k) 1 0 (ne_eqb a k ne) in
          omega (arith, sum_by-cons (one k) a (range_with_len (a + 1) n), first, once (a + 1) n k)
    ]

-- a number at two indices of a list occurs at least twice
twice : (xs : List ℕ) (i j k : ℕ) → i < j → j < length xs → get_or xs i 0 ≡ k → get_or xs j 0 ≡ k → 2 ≤ count_by (λ x. x == k) xs
twice xs i j k before within here there =
    let front : length (take j xs) ≡ j = length-take-le j xs (omega arith) in
    let first : one k (get_or (take j xs) i 0) ≡ 1 =
    ap (one k) (get_or-take j xs i 0 before ∙ here) ∙ cond-true (k == k) 1 0 (eq-eqb k k refl) in
    let place : get_or (drop j xs) 0 0 ≡ get_or xs j 0 = get_or-drop j xs 0 0 ∙ ap (λ m. get_or xs m 0) (omega arith) in
    let second : one k (get_or (drop j xs) 0 0) ≡ 1 = ap (one k) (place ∙ there) ∙ cond-true (k == k) 1 0 (eq-eqb k k refl) in
    omega (
      arith,
      first,
      second,
      sum_by-take-drop (one k) xs j,
      get_or-le-sum_by (one k) (take j xs) i 0 (omega arith),
      get_or-le-sum_by (one k) (drop j xs) 0 0 (omega (arith, length-drop j xs)),
    )

-- `vtol` is a permutation of the numbers below n
pub record ArePlaces (n : ℕ) (vtol : List ℕ) : Type 0 where
  pub sizes : length vtol ≡ n
  pub within : (k : ℕ) → k < n → get_or vtol k 0 < n
  pub apart : (i j : ℕ) → i < j → j < n → get_or vtol i 0 ≡ get_or vtol j 0 → ⊥
  pub covers : (k : ℕ) → k < n → (i : ℕ) × (i < n) × (get_or vtol i 0 ≡ k)

pub permuted_places : (n : ℕ) (vtol : List ℕ) → IsPermutation (range_with_len 0 n) vtol → ArePlaces n vtol
permuted_places n vtol p =
    let sizes : length vtol ≡ n = length_permutation (range_with_len 0 n) vtol p ∙ length-range_with_len 0 n in
    record {
      sizes = sizes;
      within = λ k h. permuted_within n vtol p k (omega arith);
      apart = λ i j before h e.
          omega (
            arith,
            twice vtol i j (get_or vtol j 0) before (omega arith) e refl,
            sum_by-IsPermutation (one (get_or vtol j 0)) (range_with_len 0 n) vtol p,
            once 0 n (get_or vtol j 0),
          );
      covers = λ k h.
          let there : Contains (range_with_len 0 n) k = (k, omega (arith, length-range_with_len 0 n), get_or-range_with_len 0 n k k h ∙ omega arith) in
          let found : Contains vtol k = Contains-permutation (range_with_len 0 n) vtol k p there in
          (found.0, omega (arith, found.1), sym (get_or_default vtol found.0 k 0 found.1) ∙ found.2);
    }

-- for each of the first k items of `vtol`, `ltov` holds the index of the item
pub record Placed (vtol ltov : List ℕ) (k : ℕ) : Type 0 where
  pub sizes : length ltov ≡ length vtol
  pub done : (m : ℕ) → m < k → get_or ltov (get_or vtol m 0) 0 ≡ m

pub Placed-start : (vtol ltov : List ℕ) → length ltov ≡ length vtol → Placed vtol ltov 0
Placed-start vtol ltov sizes = record { sizes = sizes; done = λ m h. absurd (omega arith) }

pub Placed-next : (n : ℕ) (vtol ltov : List ℕ) (k : ℕ) → ArePlaces n vtol → Placed vtol ltov k → k < length vtol
    → Placed vtol (set ltov (get_or vtol k 0) k) (k + 1)
Placed-next n vtol ltov k p w within =
    let place = get_or vtol k 0 in
    let inside : place < length ltov = omega (arith, p.sizes, w.sizes, p.within k (omega (arith, p.sizes))) in
    record {
      sizes = length-set ltov place k ∙ w.sizes;
      done = λ m h. elim (cases_eq m k) [
        | inl last ↦ ap (λ i. get_or (set ltov place k) (get_or vtol i 0) 0) last ∙ get_or-set_same ltov place k 0 inside ∙ sym last
        | inr ne ↦
            get_or-set_other ltov place (get_or vtol m 0) k 0 (p.apart m k (omega arith) (omega (arith, p.sizes)))
            ∙ w.done m (omega arith)
      ];
    }

-- at the end, `ltov` holds the index of every item of `vtol`
at_place : (n : ℕ) (vtol ltov : List ℕ) (k i j : ℕ) → Placed vtol ltov k → n ≤ k → i < n → get_or vtol i 0 ≡ j → get_or ltov j 0 ≡ i
at_place n vtol ltov k i j w past within here = ap (λ m. get_or ltov m 0) (sym here) ∙ w.done i (omega arith)

pub Placed-inverse : (n : ℕ) (vtol ltov : List ℕ) (k : ℕ) → ArePlaces n vtol → Placed vtol ltov k → n ≤ k → AreInverse n vtol ltov
Placed-inverse n vtol ltov k p w past = record {
  ltov_within = λ j h.
      let there = p.covers j h in
      omega (arith, at_place n vtol ltov k there.0 j w past there.1 there.2, there.1);
  vtol_within = p.within;
  at_ltov = λ j h.
      let there = p.covers j h in
      ap (λ m. get_or vtol m 0) (at_place n vtol ltov k there.0 j w past there.1 there.2) ∙ there.2;
  at_vtol = λ j h. w.done j (omega arith);
}

-- the first index of a position in a permutation is its only index
first_at : (n : ℕ) (vtol : List ℕ) (i j : ℕ) → ArePlaces n vtol → i < n → get_or vtol i 0 ≡ j → position_or_len (λ x. x == j) vtol ≡ i
first_at n vtol i j p within here =
    position_or_len_is (λ x. x == j) vtol i 0 (omega (arith, p.sizes))
    (λ m before. ne_eqb (get_or vtol m 0) j (λ e. p.apart m i before within (e ∙ sym here)))
    (λ h. eq-eqb (get_or vtol i 0) j here)

pub Placed-positions : (n : ℕ) (vtol ltov : List ℕ) (k : ℕ) → ArePlaces n vtol → Placed vtol ltov k → n ≤ k
    → ltov ≡ map (λ j. position_or_len (λ x. x == j) vtol) (range_with_len 0 n)
Placed-positions n vtol ltov k p w past =
    let position = λ (j : ℕ). position_or_len (λ x. x == j) vtol in
    let sizes : length ltov ≡ n = w.sizes ∙ p.sizes in
    same_lists ltov (map position (range_with_len 0 n)) (sizes ∙ sym (length-map-range_with_len position 0 n))
    (λ j d h.
    let within : j < n = omega arith in
    let there = p.covers j within in
    get_or_default ltov j d 0 h ∙ at_place n vtol ltov k there.0 j w past there.1 there.2
    ∙ sym (first_at n vtol there.0 j p there.1 there.2)
    ∙ sym (get_or-map-range_with_len position 0 n j j d within (omega arith)))

-- the list of the first index of each position is the inverse of the permutation
pub first_positions : (n : ℕ) (vtol : List ℕ) → ArePlaces n vtol → Placed vtol (map (λ j. position_or_len (λ x. x == j) vtol) (range_with_len 0 n)) n
first_positions n vtol p =
    let position = λ (j : ℕ). position_or_len (λ x. x == j) vtol in
    record {
      sizes = length-map-range_with_len position 0 n ∙ sym p.sizes;
      done = λ m h.
          get_or-map-range_with_len position 0 n (get_or vtol m 0) (get_or vtol m 0) 0 (p.within m h) (omega arith)
          ∙ first_at n vtol m (get_or vtol m 0) p h refl;
    }

-- the two maps of a line are inverses of each other
pub inverse_maps : (reordernsm : Bool) (classes : List BidiClass) (levels : List ℕ)
    → AreInverse (length levels) (vtol_of reordernsm classes levels) (ltov_of reordernsm classes levels)
unfolding ltov_of
inverse_maps reordernsm classes levels =
    let n : ℕ = length levels in
    let vtol : List ℕ = vtol_of reordernsm classes levels in
    let p : ArePlaces n vtol = permuted_places n vtol (vtol_permutes reordernsm classes levels) in
    Placed-inverse n vtol (map (λ j. position_or_len (λ x. x == j) vtol) (range_with_len 0 n)) n p (first_positions n vtol p) (omega arith)
