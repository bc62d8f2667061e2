-- L2's order is sorted: each character is to the left of all later ones, as the lowest level between them determines.
use Rattle.std.proofs.Common.{◌≡◌, ℕ, zero, suc, ◌+◌, ◌-◌, ◌<◌, ◌≤◌, Bool, true, false, List, [], ◌∷◌, ◌++◌, length, get_or, reverse}
use Rattle.std.proofs.Common.{◌⊎◌, Option, Some, None, refl, sym, ap, subst, ◌∙◌, inl, inr, arith, append_assoc}
use Rattle.std.specs.List.{filter, range_with_len, All}
use Rattle.std.specs.Prelude.{⊤}
use Rattle.std.proofs.lemmas.Bool.{cases_Bool, cases_eq, cases_lt, cond-true, cond-false, le-leb, lt-leb}
use Rattle.std.proofs.lemmas.List.{append-nil, reverse-append}
use Rattle.std.proofs.lemmas.List.Elements.{All-head, All-tail}
use Rattle.std.proofs.lemmas.List.FromFn.{get_or-range_with_len, length-range_with_len}
use Rattle.std.proofs.lemmas.List.Sorted.{All-permutation}
use Rattle.reorder.specs.Lowest.{IsLeft, IsLeftBy}
use Rattle.reorder.specs.Order.{has_odd, highest, is_at_least, is_odd, lowest_odd, order_by, order_of, places, reverse_runs, reversed_from}
use Rattle.reorder.proofs.LowestLemmas.{lowest_of, HasLowest}
use Rattle.reorder.proofs.OrderLemmas.{reversed_permute}
use Rattle.reorder.proofs.RunLemmas.{all_pass, even_next, level_within, least_is, no_odd, odd_next, odd_turned, range_append, Each}

-- ---- what holds for each item, and for each pair of items

abbrev pub EachOf : (ℕ → Type 0) → List ℕ → Type 0
EachOf P [] = ⊤
EachOf P (x ∷ xs) = P x × EachOf P xs

abbrev pub Sorted : (ℕ → ℕ → Type 0) → List ℕ → Type 0
Sorted R [] = ⊤
Sorted R (x ∷ xs) = EachOf (R x) xs × Sorted R xs

module _ (P : ℕ → Type 0) where
  pub EachOf-append : (xs ys : List ℕ) → EachOf P xs → EachOf P ys → EachOf P (xs ++ ys)
  EachOf-append [] ys one other = other
  EachOf-append (x ∷ xs) ys one other = (one.0, EachOf-append xs ys one.1 other)

  pub EachOf-reverse : (xs : List ℕ) → EachOf P xs → EachOf P (reverse xs)
  EachOf-reverse [] each = tt
  EachOf-reverse (x ∷ xs) each =
      subst (λ (ys : List ℕ). EachOf P ys) (sym (reverse-append (x ∷ []) xs))
      (EachOf-append (reverse xs) (x ∷ []) (EachOf-reverse xs each.1) (each.0, tt))

  pub EachOf-from_All : (xs : List ℕ) → All P xs → EachOf P xs
  EachOf-from_All [] all = tt
  EachOf-from_All (x ∷ xs) all = (All-head P x xs all, EachOf-from_All xs (All-tail P x xs all))

  pub EachOf-map : (Q : ℕ → Type 0) → ((x : ℕ) → P x → Q x) → (xs : List ℕ) → EachOf P xs → EachOf Q xs
  EachOf-map Q follows [] each = tt
  EachOf-map Q follows (x ∷ xs) each = (follows x each.0, EachOf-map Q follows xs each.1)

  pub EachOf-filter : (test : ℕ → Bool) (xs : List ℕ) → EachOf P xs → EachOf P (filter test xs)
  EachOf-filter test [] each = tt
  EachOf-filter test (x ∷ xs) each =
      elim (cases_Bool (test x)) [
        | inl on ↦
            subst (λ (ys : List ℕ). EachOf P ys) (sym (cond-true (test x) (x ∷ filter test xs) (filter test xs) on)) (each.0, EachOf-filter test xs each.1)
        | inr off ↦
            subst (λ (ys : List ℕ). EachOf P ys) (sym (cond-false (test x) (x ∷ filter test xs) (filter test xs) off)) (EachOf-filter test xs each.1)
      ]

pub EachOf-both : (P Q : ℕ → Type 0) (xs : List ℕ) → EachOf P xs → EachOf Q xs → EachOf (λ x. P x × Q x) xs
EachOf-both P Q [] one other = tt
EachOf-both P Q (x ∷ xs) one other = ((one.0, other.0), EachOf-both P Q xs one.1 other.1)

module _ (R : ℕ → ℕ → Type 0) where
  pub Sorted-append : (xs ys : List ℕ) → Sorted R xs → Sorted R ys → EachOf (λ x. EachOf (R x) ys) xs → Sorted R (xs ++ ys)
  Sorted-append [] ys one other across = other
  Sorted-append (x ∷ xs) ys one other across =
      (EachOf-append (R x) xs ys one.0 across.0, Sorted-append xs ys one.1 other across.1)

  pub Sorted-filter : (test : ℕ → Bool) (xs : List ℕ) → Sorted R xs → Sorted R (filter test xs)
  Sorted-filter test [] sorted = tt
  Sorted-filter test (x ∷ xs) sorted =
      elim (cases_Bool (test x)) [
        | inl on ↦
            subst (λ (ys : List ℕ). Sorted R ys) (sym (cond-true (test x) (x ∷ filter test xs) (filter test xs) on))
            (EachOf-filter (R x) test xs sorted.0, Sorted-filter test xs sorted.1)
        | inr off ↦
            subst (λ (ys : List ℕ). Sorted R ys) (sym (cond-false (test x) (x ∷ filter test xs) (filter test xs) off)) (Sorted-filter test xs sorted.1)
      ]

  -- if R x y implies S y x for items with P, reversing a list of such items that is sorted by R sorts it by S
  pub Sorted-reverse : (S : ℕ → ℕ → Type 0) (P : ℕ → Type 0) → ((x y : ℕ) → P x → P y → R x y → S y x) → (xs : List ℕ) → EachOf P xs → Sorted R xs
      → Sorted S (reverse xs)
  Sorted-reverse S P follows [] each sorted = tt
  Sorted-reverse S P follows (x ∷ xs) each sorted =
      let turned : EachOf (λ y. S y x) xs =
      EachOf-map (λ y. P y × R x y) (λ y. S y x) (λ y both. follows x y each.0 both.0 both.1) xs (EachOf-both P (R x) xs each.1 sorted.0) in
      subst (λ (ys : List ℕ). Sorted S ys) (sym (reverse-append (x ∷ []) xs))
      (Sorted-append_of (reverse xs) x (Sorted-reverse S P follows xs each.1 sorted.1) (EachOf-reverse (λ y. S y x) xs turned))
    where
      Sorted-append_of : (ys : List ℕ) (x : ℕ) → Sorted S ys → EachOf (λ y. S y x) ys → Sorted S (ys ++ x ∷ [])
      Sorted-append_of [] x one last = (tt, tt)
      Sorted-append_of (y ∷ ys) x one last =
          (EachOf-append (S y) ys (x ∷ []) one.0 (last.0, tt), Sorted-append_of ys x one.1 last.1)

  pub Sorted-map : (S : ℕ → ℕ → Type 0) → ((x y : ℕ) → R x y → S x y) → (xs : List ℕ) → Sorted R xs → Sorted S xs
  Sorted-map S follows [] sorted = tt
  Sorted-map S follows (x ∷ xs) sorted = (EachOf-map (R x) (S x) (follows x) xs sorted.0, Sorted-map S follows xs sorted.1)

-- ---- an item that fails the test divides the list

seam_once : (test : ℕ → Bool) (run xs ys : List ℕ) (m : ℕ) → test m ≡ false → reverse_runs test run (xs ++ m ∷ ys) ≡ reverse_runs test run xs ++ m ∷ reverse_runs test [] ys
seam_once test run [] ys m off = cond-false (test m) (reverse_runs test (m ∷ run) ys) (run ++ m ∷ reverse_runs test [] ys) off
seam_once test run (x ∷ xs) ys m off =
    let rest : List ℕ = m ∷ reverse_runs test [] ys in
    let whole : List ℕ = xs ++ m ∷ ys in
    elim (cases_Bool (test x)) [
      | inl on ↦
          cond-true (test x) (reverse_runs test (x ∷ run) whole) (run ++ x ∷ reverse_runs test [] whole) on
          ∙ seam_once test (x ∷ run) xs ys m off
          ∙ ap (λ (front : List ℕ). front ++ rest) (sym (cond-true (test x) (reverse_runs test (x ∷ run) xs) (run ++ x ∷ reverse_runs test [] xs) on))
      | inr none ↦
          cond-false (test x) (reverse_runs test (x ∷ run) whole) (run ++ x ∷ reverse_runs test [] whole) none
          ∙ ap (λ (back : List ℕ). run ++ x ∷ back) (seam_once test [] xs ys m off)
          ∙ sym (append_assoc run (x ∷ reverse_runs test [] xs) rest)
          ∙ ap (λ (front : List ℕ). front ++ rest) (sym (cond-false (test x) (reverse_runs test (x ∷ run) xs) (run ++ x ∷ reverse_runs test [] xs) none))
    ]

-- `a + d` is the first position of a range at which the level is below k
record Fails (k a n : ℕ) (level_at : ℕ → ℕ) : Type 0 where
  d : ℕ
  within : d < n
  high : (j : ℕ) → a ≤ j → j < a + d → k ≤ level_at j
  low : level_at (a + d) < k

module _ (levels : List ℕ) where
  abbrev level_at : ℕ → ℕ
  level_at i = get_or levels i 0

  -- whether L2's reversals at levels k and above swap two characters, if `low` is the lowest level between them
  abbrev turns : ℕ → ℕ → Bool
  turns k low = is_odd (suc low - k)

  seam : (k c : ℕ) (xs ys : List ℕ) (m : ℕ) → level_at m < k
      → reversed_from levels k c (xs ++ m ∷ ys) ≡ reversed_from levels k c xs ++ m ∷ reversed_from levels k c ys
  seam k zero xs ys m low = refl
  seam k (suc c) xs ys m low =
      ap (reverse_runs (is_at_least levels k) []) (seam (suc k) c xs ys m (omega arith))
      ∙ seam_once (is_at_least levels k) [] (reversed_from levels (suc k) c xs) (reversed_from levels (suc k) c ys) m (lt-leb k (level_at m) low)

  nothing : (k c : ℕ) → reversed_from levels k c [] ≡ []
  nothing k zero = refl
  nothing k (suc c) = ap (reverse_runs (is_at_least levels k) []) (nothing (suc k) c)

  find : (k a n : ℕ) → ((j : ℕ) → a ≤ j → j < a + n → k ≤ level_at j) ⊎ Fails k a n level_at
  find k a zero = inl (λ j from to. absurd (omega arith))
  find k a (suc n) =
      elim (find k a n) [
        | inl all ↦
            elim (cases_lt (level_at (a + n)) k) [
              | inl low ↦ inr (record { d = n; within = omega arith; high = all; low = low })
              | inr high ↦ inl (λ j from to. elim (cases_eq j (a + n)) [
                | inl last ↦ omega (arith, high, ap level_at last)
                | inr other ↦ all j from (omega (arith, to, other))
              ])
            ]
        | inr w ↦ let within : w.d < n = w.within in inr (record { d = w.d; within = omega (arith, within); high = w.high; low = w.low })
      ]

  -- reversing intervals of a range of positions yields only positions of this range
  in_range : (k c a n : ℕ) → EachOf (λ x. (a ≤ x) × (x < a + n)) (reversed_from levels k c (range_with_len a n))
  in_range k c a n =
      let P : ℕ → Type 0 = λ x. (a ≤ x) × (x < a + n) in
      EachOf-from_All P (reversed_from levels k c (range_with_len a n))
      (All-permutation P (range_with_len a n) (reversed_from levels k c (range_with_len a n)) (reversed_permute levels k c (range_with_len a n))
      (λ j d inside.
      let short : j < n = omega (arith, inside, length-range_with_len a n) in
      let is : get_or (range_with_len a n) j d ≡ a + j = get_or-range_with_len a n j d short in
      (omega (arith, is), omega (arith, is, short))))

  -- a range in which no level changes the order is sorted
  ascending : (flips : ℕ → Bool) → ((s : ℕ) → flips (level_at s) ≡ false) → (a n : ℕ) → Sorted (IsLeftBy levels flips) (range_with_len a n)
  ascending flips none a zero = tt
  ascending flips none a (suc n) = (after n (a + 1) (omega arith), ascending flips none (a + 1) n)
    where
      kept : (b : ℕ) → a < b → IsLeftBy levels flips a b
      kept b less =
          let w : HasLowest levels a b = lowest_of levels a b (omega arith) in
          inl (record { before = less; low = w.low; lowest = w.lowest; even = ap flips (sym w.lowest.is) ∙ none w.lowest.at })

      after : (m b : ℕ) → a < b → EachOf (IsLeftBy levels flips a) (range_with_len b m)
      after zero b less = tt
      after (suc m) b less = (kept b less, after m (b + 1) (omega arith))

  -- ---- one more level
  module _ (k c : ℕ) (inner : (a n : ℕ) → Sorted (IsLeftBy levels (turns (suc k))) (reversed_from levels (suc k) c (range_with_len a n))) where
    flipped : (a n : ℕ) → ((j : ℕ) → a ≤ j → j < a + n → k ≤ level_at j) → (x y : ℕ) → (a ≤ x) × (x < a + n) → (a ≤ y) × (y < a + n)
        → IsLeftBy levels (turns (suc k)) x y → IsLeftBy levels (turns k) y x
    flipped a n high x y one other (inl kept) =
        let before : x < y = kept.before in
        let from : x ≤ kept.lowest.at = kept.lowest.from in
        let to : kept.lowest.at ≤ y = kept.lowest.to in
        let least : k ≤ level_at kept.lowest.at = high kept.lowest.at (omega (arith, one, from)) (omega (arith, other, to)) in
        let next : suc kept.low - k ≡ suc kept.low - suc k + 1 = omega (arith, least, kept.lowest.is) in
        inr (record { after = before; low = kept.low; lowest = kept.lowest; odd = ap is_odd next ∙ even_next (suc kept.low - suc k) kept.even })
    flipped a n high x y one other (inr turned) =
        let after : y < x = turned.after in
        let from : y ≤ turned.lowest.at = turned.lowest.from in
        let to : turned.lowest.at ≤ x = turned.lowest.to in
        let least : k ≤ level_at turned.lowest.at = high turned.lowest.at (omega (arith, other, from)) (omega (arith, one, to)) in
        let next : suc turned.low - k ≡ suc turned.low - suc k + 1 = omega (arith, least, turned.lowest.is) in
        inl (record { before = after; low = turned.low; lowest = turned.lowest; even = ap is_odd next ∙ odd_next (suc turned.low - suc k) turned.odd })

    -- reversing a range whose levels are all at least k sorts it
    whole : (a n : ℕ) → ((j : ℕ) → a ≤ j → j < a + n → k ≤ level_at j) → Sorted (IsLeftBy levels (turns k)) (reversed_from levels k (suc c) (range_with_len a n))
    whole a n high =
        let items : List ℕ = reversed_from levels (suc k) c (range_with_len a n) in
        let each : EachOf (λ x. (a ≤ x) × (x < a + n)) items = in_range (suc k) c a n in
        let reversed : reverse_runs (is_at_least levels k) [] items ≡ reverse items =
        ap (reverse_runs (is_at_least levels k) []) (sym (append-nil items))
        ∙ all_pass (is_at_least levels k) [] items [] (passing items (EachOf-map (λ x. (a ≤ x) × (x < a + n)) (λ x. k ≤ level_at x) (λ x h. high x h.0 h.1) items each))
        ∙ append-nil (reverse items) in
        subst (λ (ys : List ℕ). Sorted (IsLeftBy levels (turns k)) ys) (sym reversed)
        (Sorted-reverse (IsLeftBy levels (turns (suc k))) (IsLeftBy levels (turns k)) (λ x. (a ≤ x) × (x < a + n)) (flipped a n high) items each (inner a n))
      where
        passing : (xs : List ℕ) → EachOf (λ x. k ≤ level_at x) xs → Each (is_at_least levels k) true xs
        passing [] each = tt
        passing (x ∷ xs) each = (le-leb k (level_at x) each.0, passing xs each.1)

    -- a character below level k is to the right of all characters before it, and to the left of all after it
    across : (a d x y : ℕ) → level_at (a + d) < k → x ≤ a + d → a + d ≤ y → x < y → IsLeftBy levels (turns k) x y
    across a d x y low from to less =
        let w : HasLowest levels x y = lowest_of levels x y (omega arith) in
        let most : w.low ≤ level_at (a + d) = w.lowest.all (a + d) from to in
        let none : suc w.low - k ≡ 0 = omega (arith, most, low) in
        inl (record { before = less; low = w.low; lowest = w.lowest; even = ap is_odd none })

    parts : (a n : ℕ) (w : Fails k a n level_at) → Sorted (IsLeftBy levels (turns k)) (reversed_from levels k (suc c) (range_with_len (a + w.d + 1) (n - (w.d + 1)))) → Sorted (IsLeftBy levels (turns k)) (reversed_from levels k (suc c) (range_with_len a n))
    parts a n w rest =
        let d : ℕ = w.d in
        let within : d < n = w.within in
        let m : ℕ = n - (d + 1) in
        let n_is : d + suc m ≡ n = omega (arith, within) in
        let front : List ℕ = reversed_from levels k (suc c) (range_with_len a d) in
        let back : List ℕ = reversed_from levels k (suc c) (range_with_len (a + d + 1) m) in
        let split : reversed_from levels k (suc c) (range_with_len a n) ≡ front ++ (a + d) ∷ back =
        ap (λ j. reversed_from levels k (suc c) (range_with_len a j)) (sym n_is)
        ∙ ap (reversed_from levels k (suc c)) (sym (range_append a d (suc m)))
        ∙ seam k (suc c) (range_with_len a d) (range_with_len (a + d + 1) m) (a + d) w.low in
        let later : EachOf (λ y. (a + d + 1 ≤ y) × (y < a + d + 1 + m)) back = in_range k (suc c) (a + d + 1) m in
        let earlier : EachOf (λ x. (a ≤ x) × (x < a + d)) front = in_range k (suc c) a d in
        let R : ℕ → ℕ → Type 0 = IsLeftBy levels (turns k) in
        subst (λ (xs : List ℕ). Sorted R xs) (sym split)
        (Sorted-append R front ((a + d) ∷ back) (whole a d w.high) (
          EachOf-map (λ y. (a + d + 1 ≤ y) × (y < a + d + 1 + m)) (R (a + d)) (λ y h. across a d (a + d) y w.low (omega arith) (omega (arith, h)) (omega (arith, h))) back later,
          rest,
        )
        (EachOf-map (λ x. (a ≤ x) × (x < a + d)) (λ x. EachOf (R x) ((a + d) ∷ back)) (λ x h. (
          across a d x (a + d) w.low (omega (arith, h)) (omega arith) h.1,
          EachOf-map (λ y. (a + d + 1 ≤ y) × (y < a + d + 1 + m)) (R x) (λ y g. across a d x y w.low (omega (arith, h)) (omega (arith, g)) (omega (arith, g, h))) back later,
        )) front earlier))

    by_parts : (fuel a n : ℕ) → n ≤ fuel → Sorted (IsLeftBy levels (turns k)) (reversed_from levels k (suc c) (range_with_len a n))
    by_parts zero a n small =
        let none : n ≡ 0 = omega arith in
        subst (λ (xs : List ℕ). Sorted (IsLeftBy levels (turns k)) xs)
        (sym (ap (λ m. reversed_from levels k (suc c) (range_with_len a m)) none ∙ nothing k (suc c))) tt
    by_parts (suc fuel) a n small =
        elim (find k a n) [
          | inl all ↦ whole a n all
          | inr w ↦ parts a n w (by_parts fuel (a + w.d + 1) (n - (w.d + 1)) (small_rest w))
        ]
      where
        small_rest : (w : Fails k a n level_at) → n - (w.d + 1) ≤ fuel
        small_rest w = let within : w.d < n = w.within in omega (arith, within, small)

  sorted_from : (c k : ℕ) → ((s : ℕ) → level_at s < k + c) → (a n : ℕ) → Sorted (IsLeftBy levels (turns k)) (reversed_from levels k c (range_with_len a n))
  sorted_from zero k most a n =
      ascending (turns k) (λ s.
      let low : level_at s < k + 0 = most s in
      let none : suc (level_at s) - k ≡ 0 = omega (arith, low) in
      ap is_odd none) a n
  sorted_from (suc c) k most a n =
      by_parts k c (sorted_from c (suc k) (λ s. let low : level_at s < k + suc c = most s in omega (arith, low))) n a n (omega arith)

  by_lowest : (o : Option ℕ) → lowest_odd levels ≡ o → Sorted (IsLeft levels) (order_by levels o)
  by_lowest None none = ascending is_odd (λ s. no_odd levels s none) 0 (length levels)
  by_lowest (Some low) some =
      let found = least_is (λ level. has_odd levels level) 0 (suc (highest levels)) low some in
      let within : low < 0 + suc (highest levels) = found.1 in
      Sorted-map (IsLeftBy levels (turns low)) (IsLeft levels) same (reversed_from levels low (suc (highest levels) - low) (places levels))
      (sorted_from (suc (highest levels) - low) low (λ s. let most : level_at s < suc (highest levels) = level_within levels s in omega (arith, most, within)) 0 (length levels))
    where
      same : (x y : ℕ) → IsLeftBy levels (turns low) x y → IsLeft levels x y
      same x y (inl kept) = inl (record {
        before = kept.before;
        low = kept.low;
        lowest = kept.lowest;
        even = ap is_odd (sym kept.lowest.is) ∙ sym (odd_turned levels low kept.lowest.at some) ∙ ap (turns low) kept.lowest.is ∙ kept.even;
      })
      same x y (inr turned) = inr (record {
        after = turned.after;
        low = turned.low;
        lowest = turned.lowest;
        odd = ap is_odd (sym turned.lowest.is) ∙ sym (odd_turned levels low turned.lowest.at some) ∙ ap (turns low) turned.lowest.is ∙ turned.odd;
      })

  pub order_sorted : Sorted (IsLeft levels) (order_of levels)
  unfolding order_of
  order_sorted = by_lowest (lowest_odd levels) refl
