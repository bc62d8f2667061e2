-- Two consecutive characters of a level run are next to each other in visual order.
use Rattle.std.proofs.Common.{◌≡◌, ℕ, suc, ◌+◌, ◌-◌, ◌<◌, ◌≤◌, nat_le, nat_lt, Bool, true, false, List, [], ◌∷◌, ◌++◌, length, get_or}
use Rattle.std.proofs.Common.{sym, ap, subst, ◌∙◌, inl, inr, arith, append_assoc, length-append, add-one, reverse, cond}
use Rattle.std.specs.Prelude.{All}
use Rattle.std.specs.List.{count_by, flat_map, range_with_len}
use Rattle.std.proofs.lemmas.Bool.{and_parts, cases_Bool, cases_lt, cond-false, leb-true, ltb-true}
use Rattle.std.proofs.lemmas.List.Elements.{All-head, All-tail}
use Rattle.std.proofs.lemmas.List.Sums.{sum_by-cons}
use Rattle.std.proofs.Math.Seq.{get_or-append_seam}
use Rattle.reorder.specs.Order.{is_odd, order_of, AreInverse}
use Rattle.reorder.specs.Runs.{has_place, places_in, runs_of, AreRuns, IsMaximal}
use Rattle.reorder.specs.declared.runs.Run.{Run}
use Rattle.reorder.proofs.NeighbourLemmas.{neighbours, Adjacent}
use Rattle.reorder.proofs.RunLemmas.{range_append}
use Rattle.reorder.proofs.WholeRunLemmas.{are_runs}

before : (x y : ℕ) (xs ys : List ℕ) → Adjacent x y xs → Adjacent x y (xs ++ ys)
before x y xs ys a = record {
  front = a.front;
  back = a.back ++ ys;
  is = ap (λ zs. zs ++ ys) a.is ∙ append_assoc a.front (x ∷ y ∷ a.back) ys;
}

after : (x y : ℕ) (xs ys : List ℕ) → Adjacent x y ys → Adjacent x y (xs ++ ys)
after x y xs ys a = record {
  front = xs ++ a.front;
  back = a.back;
  is = ap (λ zs. xs ++ zs) a.is ∙ sym (append_assoc xs a.front (x ∷ y ∷ a.back));
}

in_range : (a n x : ℕ) → a ≤ x → suc x < a + n → Adjacent x (suc x) (range_with_len a n)
in_range a n x from to =
    let p : ℕ = x - a in
    let q : ℕ = n - (x - a) - 2 in
    let size : n ≡ p + suc (suc q) = omega arith in
    let place : a + p ≡ x = omega arith in
    record {
      front = range_with_len a p;
      back = range_with_len (x + 1 + 1) q;
      is = ap (range_with_len a) size
          ∙ sym (range_append a p (suc (suc q)))
          ∙ ap (λ k. range_with_len a p ++ range_with_len k (suc (suc q))) place
          ∙ ap (λ k. range_with_len a p ++ x ∷ k ∷ range_with_len (x + 1 + 1) q) (add-one x);
    }

abbrev bit : Bool → ℕ
bit b = cond b 1 0

-- ---- at an even level

module _ (levels : List ℕ) (i : ℕ) (even : is_odd (get_or levels i 0) ≡ false) (same : get_or levels (suc i) 0 ≡ get_or levels i 0) (within : suc i < length levels) where
  in_run : (run : Run) → IsMaximal levels run → has_place i run ≡ true → Adjacent i (suc i) (places_in run)
  in_run run m has =
      let items : List ℕ = range_with_len run.start run.len in
      let parts = and_parts (nat_le run.start i) (nat_lt i (run.start + run.len)) has in
      let from : run.start ≤ i = leb-true run.start i parts.0 in
      let to : i < run.start + run.len = ltb-true i (run.start + run.len) parts.1 in
      let place : i ≡ run.start + (i - run.start) = omega arith in
      let level : get_or levels i 0 ≡ run.level = ap (λ k. get_or levels k 0) place ∙ m.level (i - run.start) (omega arith) in
      let next : suc i < run.start + run.len =
      elim (cases_lt (suc i) (run.start + run.len)) [
        | inl more ↦ more
        | inr last ↦
            let e : run.start + run.len ≡ suc i = omega arith in
            absurd (m.after (omega arith) (ap (λ k. get_or levels k 0) e ∙ same ∙ level))
      ] in
      subst (λ (xs : List ℕ). Adjacent i (suc i) xs) (sym (cond-false (is_odd run.level) (reverse items) items (ap is_odd (sym level) ∙ even)))
      (in_range run.start run.len i from next)

  in_runs : (runs : List Run) → All (IsMaximal levels) runs → 0 < count_by (has_place i) runs → Adjacent i (suc i) (flat_map places_in runs)
  in_runs [] all some = absurd (omega (arith, some))
  in_runs (run ∷ runs) all some =
      elim (cases_Bool (has_place i run)) [
        | inl on ↦ before i (suc i) (places_in run) (flat_map places_in runs) (in_run run (All-head (IsMaximal levels) run runs all) on)
        | inr off ↦
            let none : bit (has_place i run) ≡ 0 = cond-false (has_place i run) 1 0 off in
            after i (suc i) (places_in run) (flat_map places_in runs)
            (in_runs runs (All-tail (IsMaximal levels) run runs all) (omega (arith, some, none, sum_by-cons (λ (r : Run). bit (has_place i r)) run runs)))
      ]

  in_order : Adjacent i (suc i) (order_of levels)
  in_order =
      let are : AreRuns levels (runs_of levels) = are_runs levels in
      subst (λ (xs : List ℕ). Adjacent i (suc i) xs) are.in_order (in_runs (runs_of levels) are.maximal (omega (arith, are.once i (omega arith))))

-- ---- the visual positions of two such characters

adjacent_places : (n : ℕ) (xs ltov : List ℕ) (x y : ℕ) → AreInverse n xs ltov → length xs ≡ n → Adjacent x y xs → get_or ltov y 0 ≡ suc (get_or ltov x 0)
adjacent_places n xs ltov x y w size a =
    let j : ℕ = length a.front in
    let there : get_or xs j 0 ≡ x = ap (λ (zs : List ℕ). get_or zs j 0) a.is ∙ get_or-append_seam a.front x (y ∷ a.back) 0 in
    let longer : length (a.front ++ x ∷ []) ≡ suc j = length-append a.front (x ∷ []) ∙ add-one j in
    let next : get_or xs (suc j) 0 ≡ y =
    ap (λ (zs : List ℕ). get_or zs (suc j) 0) (a.is ∙ sym (append_assoc a.front (x ∷ []) (y ∷ a.back)))
    ∙ ap (λ m. get_or (a.front ++ x ∷ [] ++ y ∷ a.back) m 0) (sym longer) ∙ get_or-append_seam (a.front ++ x ∷ []) y a.back 0 in
    let whole : length xs ≡ j + suc (suc (length a.back)) = ap length a.is ∙ length-append a.front (x ∷ y ∷ a.back) in
    let here : get_or ltov x 0 ≡ j = ap (λ m. get_or ltov m 0) (sym there) ∙ w.at_vtol j (omega (arith, whole, size)) in
    let beside : get_or ltov y 0 ≡ suc j = ap (λ m. get_or ltov m 0) (sym next) ∙ w.at_vtol (suc j) (omega (arith, whole, size)) in
    beside ∙ ap suc (sym here)

module _ (levels ltov : List ℕ) (i : ℕ) (w : AreInverse (length levels) (order_of levels) ltov) (size : length (order_of levels) ≡ length levels)
    (same : get_or levels (suc i) 0 ≡ get_or levels i 0) (within : suc i < length levels) where
  pub even_places : is_odd (get_or levels i 0) ≡ false → get_or ltov (suc i) 0 ≡ suc (get_or ltov i 0)
  even_places even = adjacent_places (length levels) (order_of levels) ltov i (suc i) w size (in_order levels i even same within)

  pub odd_places : is_odd (get_or levels i 0) ≡ true → get_or ltov i 0 ≡ suc (get_or ltov (suc i) 0)
  odd_places odd = adjacent_places (length levels) (order_of levels) ltov (suc i) i w size (neighbours levels i odd same)
