-- Marks and their bases in the visual order of a line, and the scan that reverses them.
use Rattle.std.proofs.Common.{◌≡◌, ℕ, zero, suc, ◌+◌, ◌-◌, ◌<◌, ◌≤◌, ◌==◌, Bool, true, false, ◌&&◌, ◌||◌, not, List, [], ◌∷◌}
use Rattle.std.proofs.Common.{◌++◌, length, get_or, take, drop, reverse, refl, sym, ap, ap₂, ◌∙◌, inl, inr, arith, add-one, append_assoc, length-append}
use Rattle.std.proofs.lemmas.Bool.{and_from, and_left, and_parts, both_ways, cases_Bool, cases_eq, cases_lt, cond-true, cond-false, eq-eqb, eqb-true, or_right}
use Rattle.std.proofs.lemmas.List.{append-nil, drop-drop, drop_all, get_or-drop, length-drop, length-reverse, length-take-le, reverse-append, take_all}
use Rattle.std.proofs.Math.Seq.{drop-append_seam, get_or-append_seam, take-add, take-append_seam}
use Rattle.ucd.specs.declared.bidi_class.BidiClass.{BidiClass}
use borrow.Rule.Slice.PartMut.{put_mid}
use Rattle.ucd.specs.Within.{AreWithin}
use Rattle.reorder.specs.Groups.{is_bound, AreBound}
use Rattle.reorder.specs.Order.{has_base, is_nonspacing_mark_at, is_odd, order_of, precedes_nonspacing_mark, reverse_with_next}
use Rattle.reorder.proofs.InverseLemmas.{permuted_places, ArePlaces}
use Rattle.reorder.proofs.NeighbourLemmas.{neighbours, Adjacent}
use Rattle.reorder.proofs.OrderLemmas.{length-order, order_of_permutes}
use Rattle.reorder.proofs.PlainLemmas.{front_written}

-- ---- the positions of two adjacent items

adjacent_at : (n : ℕ) (xs : List ℕ) (x y k : ℕ) → ArePlaces n xs → Adjacent x y xs → k < n → get_or xs k 0 ≡ x → (suc k < n) × (get_or xs (suc k) 0 ≡ y)
adjacent_at n xs x y k p a within here =
    let j : ℕ = length a.front in
    let there : get_or xs j 0 ≡ x = ap (λ (zs : List ℕ). get_or zs j 0) a.is ∙ get_or-append_seam a.front x (y ∷ a.back) 0 in
    let longer : length (a.front ++ x ∷ []) ≡ suc j = length-append a.front (x ∷ []) ∙ add-one j in
    let next : get_or xs (suc j) 0 ≡ y =
    ap (λ (zs : List ℕ). get_or zs (suc j) 0) (a.is ∙ sym (append_assoc a.front (x ∷ []) (y ∷ a.back)))
    ∙ ap (λ m. get_or (a.front ++ x ∷ [] ++ y ∷ a.back) m 0) (sym longer) ∙ get_or-append_seam (a.front ++ x ∷ []) y a.back 0 in
    let size : length xs ≡ j + suc (suc (length a.back)) = ap length a.is ∙ length-append a.front (x ∷ y ∷ a.back) in
    let fits : suc j < n = omega (arith, size, p.sizes) in
    elim (cases_eq k j) [
      | inl e ↦ (omega (arith, e, fits), ap (λ m. get_or xs (suc m) 0) e ∙ next)
      | inr ne ↦ elim (cases_lt k j) [
        | inl before ↦ absurd (p.apart k j before (omega (arith, fits)) (here ∙ sym there))
        | inr after ↦ absurd (p.apart j k (omega (arith, after, ne)) within (there ∙ sym here))
      ]
    ]

-- each suffix of the visual order contains only logical positions of the line
pub rest_within : (levels xs : List ℕ) (start : ℕ) → xs ≡ drop start (order_of levels) → AreWithin (length levels) xs
rest_within levels xs start is k below =
    let order : List ℕ = order_of levels in
    let p : ArePlaces (length levels) order = permuted_places (length levels) order (order_of_permutes levels) in
    let at : get_or xs k 0 ≡ get_or order (start + k) 0 = ap (λ (zs : List ℕ). get_or zs k 0) is ∙ get_or-drop start order k 0 in
    omega (arith, at, p.within (start + k) (omega (arith, below, ap length is, length-drop start order, p.sizes)))

-- a nonspacing mark at the same odd level as the character before it is directly to the left of that character
pub mark_stands : (classes : List BidiClass) (levels : List ℕ) (k i : ℕ) → k < length levels → get_or (order_of levels) k 0 ≡ suc i
    → precedes_nonspacing_mark classes levels i ≡ true → (suc k < length levels) × (get_or (order_of levels) (suc k) 0 ≡ i)
mark_stands classes levels k i within here some =
    let odd : Bool = is_odd (get_or levels i 0) in
    let same : Bool = get_or levels (suc i) 0 == get_or levels i 0 in
    let parts = and_parts odd same (and_parts (is_nonspacing_mark_at classes (suc i)) (odd && same) some).1 in
    adjacent_at (length levels) (order_of levels) (suc i) i k (permuted_places (length levels) (order_of levels) (order_of_permutes levels))
    (neighbours levels i parts.0 (eqb-true (get_or levels (suc i) 0) (get_or levels i 0) parts.1)) within here

-- ---- nonspacing marks that have a base

module _ (classes : List BidiClass) (levels : List ℕ) where
  bound_is : (x y : ℕ) → is_bound classes levels x y ≡ true → (x ≡ suc y) × (precedes_nonspacing_mark classes levels y ≡ true)
  bound_is x y is =
      let rest : ℕ → Bool = λ z. is_nonspacing_mark_at classes z && (is_odd (get_or levels y 0) && (get_or levels z 0 == get_or levels y 0)) in
      let parts = and_parts (y + 1 == x) (rest x) is in
      let e : x ≡ suc y = sym (eqb-true (y + 1) x parts.0) ∙ add-one y in
      (e, ap rest (sym e) ∙ parts.1)

  mark_of : (x y : ℕ) → is_bound classes levels x y ≡ true → is_nonspacing_mark_at classes x ≡ true
  mark_of x y is =
      let test : Bool = is_odd (get_or levels y 0) && (get_or levels x 0 == get_or levels y 0) in
      (and_parts (is_nonspacing_mark_at classes x) test (and_parts (y + 1 == x) (is_nonspacing_mark_at classes x && test) is).1).0

  bound_back : (y : ℕ) → precedes_nonspacing_mark classes levels y ≡ true → is_bound classes levels (suc y) y ≡ true
  bound_back y is = and_from (y + 1 == suc y) (precedes_nonspacing_mark classes levels y) (eq-eqb (y + 1) (suc y) (add-one y)) is

  base_of : (x y : ℕ) → is_bound classes levels x y ≡ true → has_base classes levels x ≡ (not (is_nonspacing_mark_at classes y) || has_base classes levels y)
  base_of x y is =
      let parts = bound_is x y is in
      ap (has_base classes levels) parts.0 ∙ ap (λ b. b && (not (is_nonspacing_mark_at classes y) || has_base classes levels y)) parts.1

  -- if n positions are each bound to the next, and the last character is not a nonspacing mark, all characters before
  -- it have a base
  based : (xs : List ℕ) (n d k : ℕ) → AreBound classes levels xs n → is_nonspacing_mark_at classes (get_or xs n 0) ≡ false → k + suc d ≡ n
      → has_base classes levels (get_or xs k 0) ≡ true
  based xs n zero k are plain e =
      let next : ℕ = get_or xs (k + 1) 0 in
      let last : k + 1 ≡ n = omega (arith, e) in
      base_of (get_or xs k 0) next (are.bound k (omega (arith, e)))
      ∙ ap (λ mark. not mark || has_base classes levels next) (ap (λ m. is_nonspacing_mark_at classes (get_or xs m 0)) last ∙ plain)
  based xs n (suc d) k are plain e =
      let next : ℕ = get_or xs (k + 1) 0 in
      base_of (get_or xs k 0) next (are.bound k (omega (arith, e)))
      ∙ or_right (not (is_nonspacing_mark_at classes next)) (has_base classes levels next) (based xs n d (k + 1) are plain (omega (arith, e)))

  -- if n positions are each bound to the next, and the last character is a nonspacing mark without a base, none of
  -- these characters has a base
  unbased : (xs : List ℕ) (n d k : ℕ) → AreBound classes levels xs n → is_nonspacing_mark_at classes (get_or xs n 0) ≡ true
      → has_base classes levels (get_or xs n 0) ≡ false → k + d ≡ n → has_base classes levels (get_or xs k 0) ≡ false
  unbased xs n zero k are mark free e =
      let last : k ≡ n = omega (arith, e) in
      ap (λ m. has_base classes levels (get_or xs m 0)) last ∙ free
  unbased xs n (suc d) k are mark free e =
      let next : ℕ = get_or xs (k + 1) 0 in
      let marked : is_nonspacing_mark_at classes next ≡ true = elim (cases_lt (k + 1) n) [
        | inl more ↦ mark_of next (get_or xs (k + 1 + 1) 0) (are.bound (k + 1) more)
        | inr last ↦
            let same : k + 1 ≡ n = omega (arith, last, e) in
            ap (λ m. is_nonspacing_mark_at classes (get_or xs m 0)) same ∙ mark
      ] in
      base_of (get_or xs k 0) next (are.bound k (omega (arith, e)))
      ∙ ap₂ (λ (m b : Bool). not m || b) marked (unbased xs n d (k + 1) are mark free (omega (arith, e)))

  -- if n positions are each bound to the next, and position n is not, the character at position n has no base
  free_of : (start : ℕ) (xs : List ℕ) (n z : ℕ) → xs ≡ drop start (order_of levels) → AreBound classes levels xs n → get_or xs n 0 ≡ z
      → has_base classes levels z ≡ false
  free_of start xs n zero is are here = refl
  free_of start xs n (suc i) is are here =
      let rest : Bool = not (is_nonspacing_mark_at classes i) || has_base classes levels i in
      elim (cases_Bool (precedes_nonspacing_mark classes levels i)) [
        | inr none ↦ and_left (precedes_nonspacing_mark classes levels i) rest none
        | inl some ↦
            let order : List ℕ = order_of levels in
            let at : (k : ℕ) → get_or xs k 0 ≡ get_or order (start + k) 0 = λ k. ap (λ (zs : List ℕ). get_or zs k 0) is ∙ get_or-drop start order k 0 in
            let size : length xs ≡ length (drop start order) = ap length is in
            let within : start + n < length levels = omega (arith, size, length-drop start order, length-order levels, are.within) in
            let next = mark_stands classes levels (start + n) i within (sym (at n) ∙ here) some in
            let place : start + (n + 1) ≡ suc (start + n) = omega arith in
            let there : get_or xs (n + 1) 0 ≡ i = at (n + 1) ∙ ap (λ m. get_or order m 0) place ∙ next.1 in
            let stops = are.stops (omega (arith, size, length-drop start order, length-order levels, next.0)) in
            absurd (both_ways (is_bound classes levels (suc i) i) (sym (ap₂ (is_bound classes levels) here there) ∙ stops) (bound_back i some))
      ]

-- ---- lists with intervals reversed

-- an interval whose items pass the test is reversed together with the next item, and the rest of the list
-- follows
passed : (test : ℕ → Bool) (run xs : List ℕ) (n : ℕ) → n < length xs → ((k : ℕ) → k < n → test (get_or xs k 0) ≡ true) → test (get_or xs n 0) ≡ false
    → reverse_with_next test run xs ≡ reverse (take (suc n) xs) ++ run ++ reverse_with_next test [] (drop (suc n) xs)
passed test run [] n within passes stops = absurd (omega (arith, within))
passed test run (x ∷ xs) zero within passes stops =
    cond-false (test x) (reverse_with_next test (x ∷ run) xs) (x ∷ (run ++ reverse_with_next test [] xs)) stops
passed test run (x ∷ xs) (suc n) within passes stops =
    let rest : List ℕ = reverse_with_next test [] (drop (suc n) xs) in
    cond-true (test x) (reverse_with_next test (x ∷ run) xs) (x ∷ (run ++ reverse_with_next test [] xs)) (passes 0 (omega arith))
    ∙ passed test (x ∷ run) xs n (omega (arith, within)) (λ k h. passes (suc k) (omega (arith, h))) stops
    ∙ ap (λ front. front ++ rest) (sym (append_assoc (reverse (take (suc n) xs)) (x ∷ []) run))
    ∙ ap (λ front. front ++ run ++ rest) (sym (reverse-append (x ∷ []) (take (suc n) xs)))

pub reversed : (test : ℕ → Bool) (xs : List ℕ) (n : ℕ) → n < length xs → ((k : ℕ) → k < n → test (get_or xs k 0) ≡ true) → test (get_or xs n 0) ≡ false
    → reverse_with_next test [] xs ≡ reverse (take (suc n) xs) ++ reverse_with_next test [] (drop (suc n) xs)
reversed test xs n within passes stops =
    passed test [] xs n within passes stops
    ∙ ap (λ front. front ++ reverse_with_next test [] (drop (suc n) xs)) (append-nil (reverse (take (suc n) xs)))

-- items that fail the test keep their positions
pub kept_in_place : (test : ℕ → Bool) (xs : List ℕ) (n : ℕ) → n < length xs → ((k : ℕ) → k ≤ n → test (get_or xs k 0) ≡ false)
    → reverse_with_next test [] xs ≡ take (suc n) xs ++ reverse_with_next test [] (drop (suc n) xs)
kept_in_place test [] n within fails = absurd (omega (arith, within))
kept_in_place test (x ∷ xs) zero within fails =
    cond-false (test x) (reverse_with_next test (x ∷ []) xs) (x ∷ reverse_with_next test [] xs) (fails 0 (omega arith))
kept_in_place test (x ∷ xs) (suc n) within fails =
    cond-false (test x) (reverse_with_next test (x ∷ []) xs) (x ∷ reverse_with_next test [] xs) (fails 0 (omega arith))
    ∙ ap (λ zs. x ∷ zs) (kept_in_place test xs n (omega (arith, within)) (λ k h. fails (suc k) (omega (arith, h))))

module _ (classes : List BidiClass) (levels : List ℕ) (start : ℕ) (xs : List ℕ) (n : ℕ) (is : xs ≡ drop start (order_of levels)) (are : AreBound classes levels xs n) where
  -- if a base comes after n bound nonspacing marks, these n + 1 positions are reversed together
  pub group_reversed : is_nonspacing_mark_at classes (get_or xs n 0) ≡ false
      → reverse_with_next (has_base classes levels) [] xs ≡ reverse (take (suc n) xs) ++ reverse_with_next (has_base classes levels) [] (drop (suc n) xs)
  group_reversed plain =
      reversed (has_base classes levels) xs n are.within
      (λ k h.
      let d : k + suc (n - suc k) ≡ n = omega (arith, h) in
      based classes levels xs n (n - suc k) k are plain d)
      (free_of classes levels start xs n (get_or xs n 0) is are refl)

  -- if a nonspacing mark without a base comes after n bound nonspacing marks, these n + 1 positions stay unchanged
  pub marks_stay : is_nonspacing_mark_at classes (get_or xs n 0) ≡ true
      → reverse_with_next (has_base classes levels) [] xs ≡ take (suc n) xs ++ reverse_with_next (has_base classes levels) [] (drop (suc n) xs)
  marks_stay mark =
      kept_in_place (has_base classes levels) xs n are.within
      (λ k h.
      let d : k + (n - k) ≡ n = omega (arith, h) in
      unbased classes levels xs n (n - k) k are mark (free_of classes levels start xs n (get_or xs n 0) is are refl) d)

  abbrev done : List ℕ → List ℕ
  done ys = reverse_with_next (has_base classes levels) [] ys

  -- if the group at the front of `xs` has been reversed in `new`, `done xs` is this group followed by `done`
  -- of the rest
  pub group_written : (ys new : List ℕ) → is_nonspacing_mark_at classes (get_or xs n 0) ≡ false → ys ≡ reverse (take (n + 1) xs) → new ≡ ys ++ drop (n + 1) xs
      → done xs ≡ take (n + 1) new ++ done (drop (n + 1) xs)
  group_written ys new plain written whole =
      let size : length ys ≡ n + 1 =
      ap length written ∙ length-reverse (take (n + 1) xs) ∙ length-take-le (n + 1) xs (omega (arith, are.within)) in
      let front : take (n + 1) new ≡ reverse (take (n + 1) xs) = ap (take (n + 1)) whole ∙ front_written ys xs (n + 1) size ∙ written in
      group_reversed plain ∙ ap (λ k. reverse (take k xs) ++ done (drop k xs)) (sym (add-one n))
      ∙ ap (λ zs. zs ++ done (drop (n + 1) xs)) (sym front)

  pub marks_kept : (new : List ℕ) → is_nonspacing_mark_at classes (get_or xs n 0) ≡ true → new ≡ xs → done xs ≡ take (n + 1) new ++ done (drop (n + 1) xs)
  marks_kept new mark same =
      marks_stay mark ∙ ap (λ k. take k xs ++ done (drop k xs)) (sym (add-one n))
      ∙ ap (λ zs. take (n + 1) zs ++ done (drop (n + 1) xs)) (sym same)

-- ---- the scan of the order

-- The state of the scan at the index `start`: the order before `start` is final, and the rest is unchanged.
pub record Grouped (test : ℕ → Bool) (old current : List ℕ) (start : ℕ) : Type 0 where
  pub sizes : length current ≡ length old
  pub rest : drop start current ≡ drop start old
  pub done : take start current ++ reverse_with_next test [] (drop start old) ≡ reverse_with_next test [] old

-- the scan moves on by n positions, which it has written in their final order
pub Grouped-next : (test : ℕ → Bool) (old current ys new : List ℕ) (start n : ℕ) → Grouped test old current start → start ≤ length current
    → new ≡ take start current ++ ys → length ys ≡ length (drop start current) → drop n ys ≡ drop n (drop start current)
    → reverse_with_next test [] (drop start current) ≡ take n ys ++ reverse_with_next test [] (drop n (drop start current))
    → Grouped test old new (start + n)
Grouped-next test old current ys new start n w within is sizes rest done =
    let front : length (take start current) ≡ start = length-take-le start current within in
    let after : drop start new ≡ ys = ap (drop start) is ∙ ap (λ k. drop k (take start current ++ ys)) (sym front) ∙ drop-append_seam (take start current) ys in
    let before : take start new ≡ take start current = ap (take start) is ∙ ap (λ k. take k (take start current ++ ys)) (sym front) ∙ take-append_seam (take start current) ys in
    let left : drop (start + n) new ≡ drop (start + n) old =
    sym (drop-drop n start new) ∙ ap (drop n) after ∙ rest ∙ ap (drop n) w.rest ∙ drop-drop n start old in
    record {
      sizes = ap length is ∙ length-append (take start current) ys ∙ omega (arith, front, sizes, length-drop start current, within, w.sizes);
      rest = left;
      done =
          ap (λ zs. zs ++ reverse_with_next test [] (drop (start + n) old)) (take-add start n new ∙ ap₂ (λ (a b : List ℕ). a ++ take n b) before after)
          ∙ append_assoc (take start current) (take n ys) (reverse_with_next test [] (drop (start + n) old))
          ∙ ap (λ zs. take start current ++ (take n ys ++ reverse_with_next test [] zs)) (sym (drop-drop n start old) ∙ ap (drop n) (sym w.rest))
          ∙ ap (λ zs. take start current ++ zs) (sym done ∙ ap (reverse_with_next test []) w.rest)
          ∙ w.done;
    }

-- `Grouped-next` also holds if the rest of the order is a separate list `part`
pub Grouped-part : (test : ℕ → Bool) (old current part ys : List ℕ) (start n : ℕ) → Grouped test old current start → start ≤ length current
    → part ≡ drop start current → length ys ≡ length part → drop n ys ≡ drop n part
    → reverse_with_next test [] part ≡ take n ys ++ reverse_with_next test [] (drop n part)
    → Grouped test old (put_mid start (length current - start) current ys) (start + n)
Grouped-part test old current part ys start n w within is sizes rest done =
    let nothing : drop (length current - start) (drop start current) ≡ [] =
    drop_all (length current - start) (drop start current) (omega (arith, length-drop start current)) in
    Grouped-next test old current ys (put_mid start (length current - start) current ys) start n w within
    (ap (λ zs. take start current ++ (ys ++ zs)) nothing ∙ ap (λ zs. take start current ++ zs) (append-nil ys))
    (sizes ∙ ap length is) (rest ∙ ap (drop n) is)
    (ap (reverse_with_next test []) (sym is) ∙ done ∙ ap (λ zs. take n ys ++ reverse_with_next test [] (drop n zs)) is)

pub Grouped-end : (test : ℕ → Bool) (old current : List ℕ) (start : ℕ) → Grouped test old current start → length current ≤ start
    → current ≡ reverse_with_next test [] old
Grouped-end test old current start w past =
    sym (append-nil current) ∙ ap (λ xs. xs ++ []) (sym (take_all start current past))
    ∙ ap (λ xs. take start current ++ reverse_with_next test [] xs) (sym (drop_all start old (omega (arith, w.sizes, past))))
    ∙ w.done
