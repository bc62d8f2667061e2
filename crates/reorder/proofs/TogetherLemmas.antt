-- A base and its nonspacing marks are adjacent in the visual order of a line.
use Rattle.std.proofs.Common.{◌≡◌, ℕ, zero, suc, ◌+◌, ◌-◌, ◌<◌, ◌≤◌, ◌==◌, Bool, true, false, ◌&&◌, ◌||◌, not, List, []}
use Rattle.std.proofs.Common.{◌∷◌, ◌++◌, length, get_or, take, drop, reverse, refl, sym, ap, subst, ◌∙◌, inl, inr, arith, append_assoc}
use Rattle.std.proofs.lemmas.Bool.{and_from, and_left, and_parts, both_ways, cases_Bool, cases_lt, cond-true, cond-false, eq-eqb, eqb-true, or_left, or_right}
use Rattle.std.proofs.lemmas.List.{append-nil, get_or-append-add, get_or-drop, get_or-reverse, get_or-take, get_or_past, length-drop, length-reverse, length-take-le, take-append-drop}
use Rattle.std.proofs.lemmas.List.Sorted.{length_permutation}
use Rattle.std.proofs.Math.ListN.{get_or-append}
use Rattle.std.specs.Prelude.{⊤}
use Rattle.ucd.specs.declared.bidi_class.BidiClass.{BidiClass}
use Rattle.reorder.specs.Groups.{IsAlone, IsGroup, StandsTogether}
use Rattle.reorder.specs.Order.{has_base, is_nonspacing_mark_at, is_odd, order_of, precedes_nonspacing_mark, reverse_with_next, vtol_of}
use Rattle.reorder.proofs.GroupLemmas.{mark_stands, reversed}
use Rattle.reorder.proofs.InverseLemmas.{permuted_places, ArePlaces}
use Rattle.reorder.proofs.OrderLemmas.{length-order, order_of_permutes, with_next_permutes}

-- ---- a list can be reversed in two parts if the first one ends with an item that fails the test

abbrev EndsFailing : (ℕ → Bool) → List ℕ → Type 0
EndsFailing test [] = ⊤
EndsFailing test (x ∷ []) = test x ≡ false
EndsFailing test (x ∷ y ∷ xs) = EndsFailing test (y ∷ xs)

ends_failing : (test : ℕ → Bool) (xs : List ℕ) (k : ℕ) → length xs ≡ suc k → test (get_or xs k 0) ≡ false → EndsFailing test xs
ends_failing test [] k size fails = tt
ends_failing test (x ∷ []) zero size fails = fails
ends_failing test (x ∷ []) (suc k) size fails = absurd (omega (arith, size))
ends_failing test (x ∷ y ∷ xs) zero size fails = absurd (omega (arith, size))
ends_failing test (x ∷ y ∷ xs) (suc k) size fails = ends_failing test (y ∷ xs) k (omega (arith, size)) fails

parted : (test : ℕ → Bool) (run : List ℕ) (x : ℕ) (front xs : List ℕ) → EndsFailing test (x ∷ front)
    → reverse_with_next test run (x ∷ front ++ xs) ≡ reverse_with_next test run (x ∷ front) ++ reverse_with_next test [] xs
parted test run x [] xs fails =
    let rest : List ℕ = reverse_with_next test [] xs in
    cond-false (test x) (reverse_with_next test (x ∷ run) xs) (x ∷ (run ++ rest)) fails
    ∙ ap (λ zs. x ∷ (zs ++ rest)) (sym (append-nil run))
    ∙ ap (λ zs. zs ++ rest) (sym (cond-false (test x) (reverse_with_next test (x ∷ run) []) (x ∷ (run ++ [])) fails))
parted test run x (y ∷ front) xs fails =
    let rest : List ℕ = reverse_with_next test [] xs in
    let whole : List ℕ = y ∷ front ++ xs in
    elim (cases_Bool (test x)) [
      | inl passed ↦
          cond-true (test x) (reverse_with_next test (x ∷ run) whole) (x ∷ (run ++ reverse_with_next test [] whole)) passed
          ∙ parted test (x ∷ run) y front xs fails
          ∙ ap (λ zs. zs ++ rest)
          (sym (cond-true (test x) (reverse_with_next test (x ∷ run) (y ∷ front)) (x ∷ (run ++ reverse_with_next test [] (y ∷ front))) passed))
      | inr failed ↦
          cond-false (test x) (reverse_with_next test (x ∷ run) whole) (x ∷ (run ++ reverse_with_next test [] whole)) failed
          ∙ ap (λ zs. x ∷ (run ++ zs)) (parted test [] y front xs fails)
          ∙ ap (λ zs. x ∷ zs) (sym (append_assoc run (reverse_with_next test [] (y ∷ front)) rest))
          ∙ ap (λ zs. zs ++ rest)
          (sym (cond-false (test x) (reverse_with_next test (x ∷ run) (y ∷ front)) (x ∷ (run ++ reverse_with_next test [] (y ∷ front))) failed))
    ]

in_parts : (test : ℕ → Bool) (front xs : List ℕ) → EndsFailing test front
    → reverse_with_next test [] (front ++ xs) ≡ reverse_with_next test [] front ++ reverse_with_next test [] xs
in_parts test [] xs fails = refl
in_parts test (x ∷ front) xs fails = parted test [] x front xs fails

-- ---- one group

module _ (classes : List BidiClass) (levels : List ℕ) (base n : ℕ) (is : IsGroup classes levels base n) where
  are : ArePlaces (length levels) (order_of levels)
  are = permuted_places (length levels) (order_of levels) (order_of_permutes levels)

  level_at : (k : ℕ) → k ≤ n → is_odd (get_or levels (base + k) 0) ≡ true
  level_at k h = ap is_odd (is.same k h) ∙ is.odd

  -- each character of a group except the last precedes a nonspacing mark of the group
  precedes : (k : ℕ) → k < n → precedes_nonspacing_mark classes levels (base + k) ≡ true
  precedes k h =
      let next : suc (base + k) ≡ base + (k + 1) = omega arith in
      let mark : is_nonspacing_mark_at classes (suc (base + k)) ≡ true = ap (is_nonspacing_mark_at classes) next ∙ is.marks (k + 1) (omega arith) (omega (arith, h)) in
      let same : get_or levels (suc (base + k)) 0 ≡ get_or levels (base + k) 0 =
      ap (λ m. get_or levels m 0) next ∙ is.same (k + 1) (omega (arith, h)) ∙ sym (is.same k (omega (arith, h))) in
      let odd : Bool = is_odd (get_or levels (base + k) 0) in
      let equal : Bool = get_or levels (suc (base + k)) 0 == get_or levels (base + k) 0 in
      and_from (is_nonspacing_mark_at classes (suc (base + k))) (odd && equal) mark
      (and_from odd equal (level_at k (omega (arith, h))) (eq-eqb (get_or levels (suc (base + k)) 0) (get_or levels (base + k) 0) same))

  marks_based : (k : ℕ) → k < n → has_base classes levels (suc (base + k)) ≡ true
  marks_based zero h =
      let plain : Bool = not (is_nonspacing_mark_at classes (base + 0)) in
      let here : base + 0 ≡ base = omega arith in
      and_from (precedes_nonspacing_mark classes levels (base + 0)) (plain || has_base classes levels (base + 0)) (precedes 0 h)
      (or_left plain (has_base classes levels (base + 0)) (ap (λ m. not (is_nonspacing_mark_at classes m)) here ∙ ap not is.plain))
  marks_based (suc k) h =
      let plain : Bool = not (is_nonspacing_mark_at classes (base + suc k)) in
      let here : suc (base + k) ≡ base + suc k = omega arith in
      let before : has_base classes levels (base + suc k) ≡ true = ap (has_base classes levels) (sym here) ∙ marks_based k (omega (arith, h)) in
      and_from (precedes_nonspacing_mark classes levels (base + suc k)) (plain || has_base classes levels (base + suc k)) (precedes (suc k) h)
      (or_right plain (has_base classes levels (base + suc k)) before)

  -- the base of a group has no base itself
  base_free : (b : ℕ) → b ≡ base → has_base classes levels b ≡ false
  base_free zero e = refl
  base_free (suc i) e =
      let plain : is_nonspacing_mark_at classes (suc i) ≡ false = ap (is_nonspacing_mark_at classes) e ∙ is.plain in
      let level : Bool = is_odd (get_or levels i 0) && (get_or levels (suc i) 0 == get_or levels i 0) in
      and_left (precedes_nonspacing_mark classes levels i) (not (is_nonspacing_mark_at classes i) || has_base classes levels i)
      (and_left (is_nonspacing_mark_at classes (suc i)) level plain)

  in_line : base + n < length levels
  in_line = elim (cases_lt (base + n) (length levels)) [
    | inl within ↦ within
    | inr past ↦
        let none : get_or levels (base + n) 0 ≡ 0 = get_or_past levels (base + n) 0 past in
        absurd (both_ways (is_odd (get_or levels (base + n) 0)) (ap is_odd none) (level_at n (omega arith)))
  ]

  -- the visual position of the last nonspacing mark of the group, without L3
  start : ℕ
  start = (are.covers (base + n) in_line).0

  -- the last nonspacing mark of a group is followed by the other nonspacing marks in reverse order, and then by the
  -- base
  follows : (k : ℕ) → k ≤ n → (start + k < length levels) × (get_or (order_of levels) (start + k) 0 ≡ base + (n - k))
  unfolding start
  follows zero h =
      let found = are.covers (base + n) in_line in
      let here : start + 0 ≡ start = omega arith in
      let last : base + n ≡ base + (n - 0) = omega arith in
      (omega (arith, found.1), ap (λ m. get_or (order_of levels) m 0) here ∙ found.2 ∙ last)
  follows (suc k) h =
      let before = follows k (omega (arith, h)) in
      let i : ℕ = base + (n - suc k) in
      let next : base + (n - k) ≡ suc (base + (n - suc k)) = omega (arith, h) in
      let beside = mark_stands classes levels (start + k) i before.0 (before.1 ∙ next) (precedes (n - suc k) (omega (arith, h))) in
      let place : start + suc k ≡ suc (start + k) = omega arith in
      (omega (arith, beside.0), ap (λ m. get_or (order_of levels) m 0) place ∙ beside.1)

  -- the character to the left of the last nonspacing mark is not a nonspacing mark with a base
  front_free : (at z : ℕ) → suc at ≡ start → get_or (order_of levels) at 0 ≡ z → has_base classes levels z ≡ false
  front_free at zero e here = refl
  front_free at (suc i) e here =
      let rest : Bool = not (is_nonspacing_mark_at classes i) || has_base classes levels i in
      elim (cases_Bool (precedes_nonspacing_mark classes levels i)) [
        | inr none ↦ and_left (precedes_nonspacing_mark classes levels i) rest none
        | inl some ↦
            let odd : Bool = is_odd (get_or levels i 0) in
            let same : Bool = get_or levels (suc i) 0 == get_or levels i 0 in
            let mark = and_parts (is_nonspacing_mark_at classes (suc i)) (odd && same) some in
            let parts = and_parts odd same mark.1 in
            let level : get_or levels (suc i) 0 ≡ get_or levels i 0 = eqb-true (get_or levels (suc i) 0) (get_or levels i 0) parts.1 in
            let first = follows 0 (omega arith) in
            let beside = mark_stands classes levels at i (omega (arith, e, first.0)) here some in
            let place : suc at ≡ start + 0 = omega (arith, e) in
            let last : i ≡ base + (n - 0) = sym beside.1 ∙ ap (λ m. get_or (order_of levels) m 0) place ∙ first.1 in
            let after : suc i ≡ base + n + 1 = omega (arith, last) in
            let end : i ≡ base + n = omega (arith, last) in
            absurd (is.whole (ap (is_nonspacing_mark_at classes) (sym after) ∙ mark.0)
            (ap (λ m. get_or levels m 0) (sym after) ∙ level ∙ ap (λ m. get_or levels m 0) end ∙ is.same n (omega arith)))
      ]

  front_len : length (take start (order_of levels)) ≡ start
  front_len =
      let first = follows 0 (omega arith) in
      length-take-le start (order_of levels) (omega (arith, first.0, are.sizes))

  front_ends : (s : ℕ) → s ≡ start → EndsFailing (has_base classes levels) (take start (order_of levels))
  front_ends zero e =
      subst (λ (m : ℕ). EndsFailing (has_base classes levels) (take m (order_of levels))) e tt
  front_ends (suc at) e =
      ends_failing (has_base classes levels) (take start (order_of levels)) at (front_len ∙ sym e)
      (ap (has_base classes levels) (get_or-take start (order_of levels) at 0 (omega (arith, e))) ∙ front_free at (get_or (order_of levels) at 0) e refl)

  back_at : (k : ℕ) → k ≤ n → get_or (drop start (order_of levels)) k 0 ≡ base + (n - k)
  back_at k h = get_or-drop start (order_of levels) k 0 ∙ (follows k h).1

  back_len : n < length (drop start (order_of levels))
  back_len = omega (arith, length-drop start (order_of levels), are.sizes, (follows n (omega arith)).0)

  -- L3 applies separately to three parts of the visual order: the characters before the group, the group, and
  -- the characters after it
  three : reverse_with_next (has_base classes levels) [] (order_of levels)
      ≡ reverse_with_next (has_base classes levels) [] (take start (order_of levels))
      ++ (reverse (take (suc n) (drop start (order_of levels))) ++ reverse_with_next (has_base classes levels) [] (drop (suc n) (drop start (order_of levels))))
  three =
      let f : List ℕ → List ℕ = reverse_with_next (has_base classes levels) [] in
      ap f (sym (take-append-drop start (order_of levels)))
      ∙ in_parts (has_base classes levels) (take start (order_of levels)) (drop start (order_of levels)) (front_ends start refl)
      ∙ ap (λ zs. f (take start (order_of levels)) ++ zs)
      (reversed (has_base classes levels) (drop start (order_of levels)) n back_len
      (λ k h.
      let place : base + (n - k) ≡ suc (base + (n - suc k)) = omega (arith, h) in
      ap (has_base classes levels) (back_at k (omega (arith, h)) ∙ place) ∙ marks_based (n - suc k) (omega (arith, h)))
      (base_free (get_or (drop start (order_of levels)) n 0) (back_at n (omega arith) ∙ omega arith)))

  read_at : (k : ℕ) → k ≤ n → get_or (reverse_with_next (has_base classes levels) [] (order_of levels)) (start + k) 0 ≡ base + k
  read_at k h =
      let f : List ℕ → List ℕ = reverse_with_next (has_base classes levels) [] in
      let done : List ℕ = f (take start (order_of levels)) in
      let group : List ℕ = take (suc n) (drop start (order_of levels)) in
      let rest : List ℕ = f (drop (suc n) (drop start (order_of levels))) in
      let long : length done ≡ start =
      length_permutation (take start (order_of levels)) done (with_next_permutes (has_base classes levels) [] (take start (order_of levels))) ∙ front_len in
      let wide : length group ≡ suc n = length-take-le (suc n) (drop start (order_of levels)) (omega (arith, back_len)) in
      let place : length group - 1 - k ≡ n - k = omega (arith, wide) in
      let value : base + (n - (n - k)) ≡ base + k = omega (arith, h) in
      ap (λ (zs : List ℕ). get_or zs (start + k) 0) three
      ∙ ap (λ m. get_or (done ++ (reverse group ++ rest)) (m + k) 0) (sym long)
      ∙ get_or-append-add done (reverse group ++ rest) k 0
      ∙ get_or-append (reverse group) rest 0 k (omega (arith, h, wide, length-reverse group))
      ∙ get_or-reverse group k 0 (omega (arith, h, wide))
      ∙ ap (λ m. get_or group m 0) place
      ∙ get_or-take (suc n) (drop start (order_of levels)) (n - k) 0 (omega arith)
      ∙ back_at (n - k) (omega arith) ∙ value

pub together : (classes : List BidiClass) (levels : List ℕ) (base n : ℕ) → IsGroup classes levels base n → StandsTogether classes levels base n
unfolding vtol_of
together classes levels base n is = record {
  at = start classes levels base n is;
  within = (follows classes levels base n is n (omega arith)).0;
  reversed = λ k h. (follows classes levels base n is k h).1;
  read = read_at classes levels base n is;
}

-- ---- characters in no group

first_stays : (test : ℕ → Bool) (xs : List ℕ) → test (get_or xs 0 0) ≡ false → get_or (reverse_with_next test [] xs) 0 0 ≡ get_or xs 0 0
first_stays test [] fails = refl
first_stays test (x ∷ xs) fails =
    ap (λ (zs : List ℕ). get_or zs 0 0) (cond-false (test x) (reverse_with_next test (x ∷ []) xs) (x ∷ reverse_with_next test [] xs) fails)

-- if a character is in no group, the character to its left is not a nonspacing mark with a base
before_alone : (classes : List BidiClass) (levels : List ℕ) (k z : ℕ) → suc k < length levels → IsAlone classes levels (get_or (order_of levels) (suc k) 0)
    → get_or (order_of levels) k 0 ≡ z → has_base classes levels z ≡ false
before_alone classes levels k zero within alone here = refl
before_alone classes levels k (suc i) within alone here =
    let rest : Bool = not (is_nonspacing_mark_at classes i) || has_base classes levels i in
    elim (cases_Bool (has_base classes levels (suc i))) [
      | inr none ↦ none
      | inl some ↦
          let beside = mark_stands classes levels k i (omega (arith, within)) here (and_parts (precedes_nonspacing_mark classes levels i) rest some).0 in
          absurd (both_ways (has_base classes levels (suc i)) (ap (λ m. has_base classes levels (suc m)) (sym beside.1) ∙ alone.no_marks) some)
    ]

fails_before : (classes : List BidiClass) (levels : List ℕ) (k : ℕ) → k < length levels → IsAlone classes levels (get_or (order_of levels) k 0)
    → EndsFailing (has_base classes levels) (take k (order_of levels))
fails_before classes levels zero within alone = tt
fails_before classes levels (suc k) within alone =
    let order : List ℕ = order_of levels in
    ends_failing (has_base classes levels) (take (suc k) order) k (length-take-le (suc k) order (omega (arith, within, length-order levels)))
    (ap (has_base classes levels) (get_or-take (suc k) order k 0 (omega arith)) ∙ before_alone classes levels k (get_or order k 0) within alone refl)

pub stays : (classes : List BidiClass) (levels : List ℕ) (k : ℕ) → k < length levels → IsAlone classes levels (get_or (vtol_of false classes levels) k 0)
    → get_or (vtol_of true classes levels) k 0 ≡ get_or (vtol_of false classes levels) k 0
unfolding vtol_of
stays classes levels k within alone =
    let test : ℕ → Bool = has_base classes levels in
    let order : List ℕ = order_of levels in
    let front : List ℕ = reverse_with_next test [] (take k order) in
    let back : List ℕ = reverse_with_next test [] (drop k order) in
    let size : length front ≡ k =
    length_permutation (take k order) front (with_next_permutes test [] (take k order)) ∙ length-take-le k order (omega (arith, within, length-order levels)) in
    let place : k ≡ length front + 0 = omega (arith, size) in
    let here : get_or (drop k order) 0 0 ≡ get_or order k 0 = get_or-drop k order 0 0 ∙ ap (λ m. get_or order m 0) (omega arith) in
    ap (λ (zs : List ℕ). get_or (reverse_with_next test [] zs) k 0) (sym (take-append-drop k order))
    ∙ ap (λ (zs : List ℕ). get_or zs k 0) (in_parts test (take k order) (drop k order) (fails_before classes levels k within alone))
    ∙ ap (λ m. get_or (front ++ back) m 0) place
    ∙ get_or-append-add front back 0 0
    ∙ first_stays test (drop k order) (ap test here ∙ alone.no_base)
    ∙ here
