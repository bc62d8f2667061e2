-- Reversing the intervals of a list, for one level after another.
use Rattle.std.proofs.Common.{◌≡◌, ℕ, zero, suc, ◌+◌, ◌-◌, ◌<◌, ◌≤◌, ◌==◌, Bool, true, false, List, [], ◌∷◌, ◌++◌, length}
use Rattle.std.proofs.Common.{get_or, map, take, drop, reverse, Option, Some, None, sym, ap, subst, ◌∙◌, inl, inr, arith, add-one, append_assoc}
use Rattle.std.specs.List.{position_or_len, prefix_len, range_with_len}
use Rattle.std.specs.List.Sorted.{IsPermutation}
use Rattle.std.proofs.lemmas.Bool.{cases_Bool, cond-true, cond-false}
use Rattle.std.proofs.lemmas.List.{append-nil, get_or_default, drop-drop, drop_all, length-reverse, length-take-le, reverse-append, take_all}
use Rattle.std.proofs.lemmas.List.FromFn.{get_or-range_with_len, length-range_with_len}
use Rattle.std.proofs.lemmas.List.Sorted.{All-permutation, IsPermutation-refl, IsPermutation-trans, IsPermutation-cons, IsPermutation-middle, IsPermutation-append_right, length_permutation}
use Rattle.std.proofs.lemmas.List.Sums.{prefix_len-le-length, prefix_len_passes, prefix_len_stops}
use Rattle.std.proofs.lemmas.Slice.{drop-put_mid, take-put_mid}
use Rattle.std.proofs.Math.Seq.{take-add}
use borrow.Rule.Slice.PartMut.{put_mid, same_len_mid}
use Rattle.ucd.specs.declared.bidi_class.BidiClass.{BidiClass}
use Rattle.ucd.specs.Within.{AreWithin}
use Rattle.reorder.specs.LevelRuns.{turned, turned_by}
use Rattle.reorder.specs.Order.{highest, is_at_least, lowest_odd, order_by, order_of, places, reverse_runs, reversed_from, reverse_with_next, has_base, ltov_of, vtol_of}

pub range_more : (a n : ℕ) → range_with_len a (n + 1) ≡ range_with_len a n ++ (a + n) ∷ []
range_more a zero = ap (λ k. k ∷ []) (omega arith)
range_more a (suc n) =
    let e : suc n + 1 ≡ suc (n + 1) = omega arith in
    let last : a + 1 + n ≡ a + suc n = omega arith in
    ap (range_with_len a) e ∙ ap (λ ks. a ∷ ks) (range_more (a + 1) n) ∙ ap (λ k. a ∷ (range_with_len (a + 1) n ++ k ∷ [])) last

-- the first interval of a list is reversed, and the item after it and the rest of the list follow
split : (test : ℕ → Bool) (run xs : List ℕ) (n : ℕ) → n ≤ length xs → ((k : ℕ) → k < n → test (get_or xs k 0) ≡ true)
    → (n < length xs → test (get_or xs n 0) ≡ false)
    → reverse_runs test run xs ≡ reverse (take n xs) ++ run ++ take 1 (drop n xs) ++ reverse_runs test [] (drop (suc n) xs)
split test run [] zero within passes stops = sym (append-nil (run ++ []) ∙ append-nil run)
split test run [] (suc n) within passes stops = absurd (omega arith)
split test run (x ∷ xs) zero within passes stops =
    cond-false (test x) (reverse_runs test (x ∷ run) xs) (run ++ x ∷ reverse_runs test [] xs) (stops (omega arith))
    ∙ sym (append_assoc run (x ∷ []) (reverse_runs test [] xs))
split test run (x ∷ xs) (suc n) within passes stops =
    cond-true (test x) (reverse_runs test (x ∷ run) xs) (run ++ x ∷ reverse_runs test [] xs) (passes 0 (omega arith))
    ∙ split test (x ∷ run) xs n (omega arith) (λ k h. passes (suc k) (omega arith)) (λ h. stops (omega arith))
    ∙ ap (λ front. front ++ take 1 (drop n xs) ++ reverse_runs test [] (drop (suc n) xs)) (sym (append_assoc (reverse (take n xs)) (x ∷ []) run))
    ∙ ap (λ front. front ++ run ++ take 1 (drop n xs) ++ reverse_runs test [] (drop (suc n) xs)) (sym (reverse-append (x ∷ []) (take n xs)))

first : (test : ℕ → Bool) (xs : List ℕ) (n : ℕ) → n ≡ prefix_len test xs
    → reverse_runs test [] xs ≡ reverse (take n xs) ++ take 1 (drop n xs) ++ reverse_runs test [] (drop (suc n) xs)
first test xs n found =
    split test [] xs n (rw found (prefix_len-le-length test xs)) (λ k h. prefix_len_passes test xs k 0 (rw (← found) h))
    (λ h. rw found (prefix_len_stops test xs 0 (rw (← found) h)))
    ∙ ap (λ zs. zs ++ take 1 (drop n xs) ++ reverse_runs test [] (drop (suc n) xs)) (append-nil (reverse (take n xs)))

-- The state of the scan at the index `start`: the intervals before `start` have been reversed, and the rest
-- is unchanged.
pub record Reversed (test : ℕ → Bool) (old current : List ℕ) (start : ℕ) : Type 0 where
  pub sizes : length current ≡ length old
  pub rest : drop start current ≡ drop start old
  pub done : take start current ++ reverse_runs test [] (drop start old) ≡ reverse_runs test [] old

-- the scan reverses the next interval, which may be empty, and moves on past the interval and the next item
pub Reversed-next : (test : ℕ → Bool) (old current ys : List ℕ) (start n k : ℕ) → Reversed test old current start → start < length current
    → n ≡ prefix_len test (drop start current) → k ≡ n → ys ≡ reverse (take k (drop start current))
    → Reversed test old (put_mid start k current ys) (start + (n + 1))
Reversed-next test old current ys start n k w within found e is =
    let xs = drop start current in
    let new = put_mid start k current ys in
    let long : n ≤ length xs = rw found (prefix_len-le-length test xs) in
    let part : length (take k xs) ≡ k = length-take-le k xs (omega arith) in
    let size : length ys ≡ k = ap length is ∙ length-reverse (take k xs) ∙ part in
    let place : start + (n + 1) ≡ start + n + 1 = omega arith in
    let after : drop (start + n) new ≡ drop n xs =
    drop-put_mid start k current ys (start + n) (omega arith) (omega arith) size ∙ sym (drop-drop n start current) in
    let front : take (start + (n + 1)) new ≡ take start current ++ (reverse (take n xs) ++ take 1 (drop n xs)) =
    ap (λ m. take m new) place ∙ take-add (start + n) 1 new
    ∙ ap (λ zs. zs ++ take 1 (drop (start + n) new)) (take-put_mid start k current ys (start + n) (omega arith) (omega arith))
    ∙ ap (λ zs. take start current ++ ys ++ take 1 zs) after
    ∙ ap (λ zs. take start current ++ zs ++ take 1 (drop n xs)) (is ∙ ap (λ m. reverse (take m xs)) e)
    ∙ append_assoc (take start current) (reverse (take n xs)) (take 1 (drop n xs)) in
    let left : (list : List ℕ) → drop (suc n) (drop start list) ≡ drop (start + (n + 1)) list =
    λ list. ap (λ m. drop m (drop start list)) (sym (add-one n)) ∙ drop-drop (n + 1) start list in
    record {
      sizes = same_len_mid start k current ys (size ∙ sym part) ∙ w.sizes;
      rest = drop-put_mid start k current ys (start + (n + 1)) (omega arith) (omega arith) size
          ∙ sym (left current) ∙ ap (drop (suc n)) w.rest ∙ left old;
      done = ap (λ zs. zs ++ reverse_runs test [] (drop (start + (n + 1)) old)) front
          ∙ append_assoc (take start current) (reverse (take n xs) ++ take 1 (drop n xs)) (reverse_runs test [] (drop (start + (n + 1)) old))
          ∙ ap (λ zs. take start current ++ (reverse (take n xs) ++ take 1 (drop n xs) ++ reverse_runs test [] zs)) (sym (left old) ∙ ap (drop (suc n)) (sym w.rest))
          ∙ ap (λ zs. take start current ++ zs) (sym (first test xs n found) ∙ ap (reverse_runs test []) w.rest)
          ∙ w.done;
    }

pub Reversed-end : (test : ℕ → Bool) (old current : List ℕ) (start : ℕ) → Reversed test old current start → length current ≤ start
    → current ≡ reverse_runs test [] old
Reversed-end test old current start w past =
    sym (append-nil current) ∙ ap (λ xs. xs ++ []) (sym (take_all start current past))
    ∙ ap (λ xs. take start current ++ reverse_runs test [] xs) (sym (drop_all start old (omega (arith, w.sizes))))
    ∙ w.done

-- the intervals of all levels above `level` have been reversed
pub record Turned (levels items : List ℕ) (top low : ℕ) (current : List ℕ) (level : ℕ) : Type 0 where
  pub from : low ≤ level + 1
  pub to : level ≤ top
  pub done : current ≡ reversed_from levels (level + 1) (top - level) items

pub Turned-start : (levels items : List ℕ) (top low : ℕ) → low ≤ top → Turned levels items top low items top
Turned-start levels items top low below =
    let e : top - top ≡ 0 = omega arith in
    record { from = omega arith; to = omega arith; done = ap (λ count. reversed_from levels (top + 1) count items) (sym e) }

-- reversing the intervals of `level` leads to the state for the next lower level
pub Turned-next : (levels items : List ℕ) (top low : ℕ) (current : List ℕ) (level before : ℕ) (after : List ℕ) → Turned levels items top low current level
    → before + 1 ≡ level → low ≤ level → after ≡ reverse_runs (is_at_least levels level) [] current → Turned levels items top low after before
Turned-next levels items top low current level before after w e more is =
    let count : suc (top - level) ≡ top - before = omega (arith, w.to) in
    let so_far : current ≡ reversed_from levels (suc level) (top - level) items =
    w.done ∙ ap (λ from. reversed_from levels from (top - level) items) (add-one level) in
    record {
      from = omega arith;
      to = omega (arith, w.to);
      done = is ∙ ap (reverse_runs (is_at_least levels level) []) so_far
          ∙ ap (λ n. reversed_from levels level n items) count
          ∙ ap (λ from. reversed_from levels from (top - before) items) (sym e);
    }

pub Turned-end : (levels items : List ℕ) (top low : ℕ) (current : List ℕ) (level : ℕ) → Turned levels items top low current level → level < low
    → top ≡ highest levels → Some low ≡ lowest_odd levels → current ≡ turned levels items
unfolding turned
Turned-end levels items top low current level w past most lowest =
    let from : level + 1 ≡ low = omega (arith, w.from) in
    let count : top - level ≡ suc (highest levels) - low = omega (arith, w.to) in
    w.done ∙ ap (λ n. reversed_from levels (level + 1) n items) count
    ∙ ap (λ n. reversed_from levels n (suc (highest levels) - low) items) from
    ∙ ap (turned_by levels items) lowest

pub unturned : (levels items : List ℕ) → None ≡ lowest_odd levels → items ≡ turned levels items
unfolding turned
unturned levels items none = ap (turned_by levels items) none

pub without_odd : (levels current : List ℕ) → current ≡ places levels → None ≡ lowest_odd levels → current ≡ order_of levels
unfolding order_of
without_odd levels current is none = is ∙ ap (order_by levels) none

-- reversing intervals permutes the list
runs_permute : (test : ℕ → Bool) (run xs : List ℕ) → IsPermutation (run ++ xs) (reverse_runs test run xs)
runs_permute test run [] = subst (λ (ys : List ℕ). IsPermutation ys run) (sym (append-nil run)) (IsPermutation-refl run)
runs_permute test run (x ∷ xs) =
    elim (cases_Bool (test x)) [
      | inl passed ↦
          subst (λ (ys : List ℕ). IsPermutation (run ++ x ∷ xs) ys) (sym (cond-true (test x) (reverse_runs test (x ∷ run) xs) (run ++ x ∷ reverse_runs test [] xs) passed))
          (IsPermutation-trans (run ++ x ∷ xs) (x ∷ (run ++ xs)) (reverse_runs test (x ∷ run) xs) (IsPermutation-middle run x xs) (runs_permute test (x ∷ run) xs))
      | inr failed ↦
          subst (λ (ys : List ℕ). IsPermutation (run ++ x ∷ xs) ys) (sym (cond-false (test x) (reverse_runs test (x ∷ run) xs) (run ++ x ∷ reverse_runs test [] xs) failed))
          (IsPermutation-append_right run (x ∷ xs) (x ∷ reverse_runs test [] xs) (IsPermutation-cons x xs (reverse_runs test [] xs) (runs_permute test [] xs)))
    ]

pub reversed_permute : (levels : List ℕ) (low count : ℕ) (items : List ℕ) → IsPermutation items (reversed_from levels low count items)
reversed_permute levels low zero items = IsPermutation-refl items
reversed_permute levels low (suc count) items =
    IsPermutation-trans items (reversed_from levels (suc low) count items) (reversed_from levels low (suc count) items)
    (reversed_permute levels (suc low) count items)
    (runs_permute (is_at_least levels low) [] (reversed_from levels (suc low) count items))

by_permutes : (levels : List ℕ) (lowest : Option ℕ) → IsPermutation (places levels) (order_by levels lowest)
by_permutes levels None = IsPermutation-refl (places levels)
by_permutes levels (Some low) = reversed_permute levels low (suc (highest levels) - low) (places levels)

pub order_of_permutes : (levels : List ℕ) → IsPermutation (places levels) (order_of levels)
unfolding order_of
order_of_permutes levels = by_permutes levels (lowest_odd levels)

-- reversing each interval together with the item after it permutes the list
pub with_next_permutes : (test : ℕ → Bool) (run xs : List ℕ) → IsPermutation (run ++ xs) (reverse_with_next test run xs)
with_next_permutes test run [] = subst (λ (ys : List ℕ). IsPermutation ys run) (sym (append-nil run)) (IsPermutation-refl run)
with_next_permutes test run (x ∷ xs) =
    elim (cases_Bool (test x)) [
      | inl passed ↦
          subst (λ (ys : List ℕ). IsPermutation (run ++ x ∷ xs) ys)
          (sym (cond-true (test x) (reverse_with_next test (x ∷ run) xs) (x ∷ (run ++ reverse_with_next test [] xs)) passed))
          (IsPermutation-trans (run ++ x ∷ xs) (x ∷ (run ++ xs)) (reverse_with_next test (x ∷ run) xs) (IsPermutation-middle run x xs)
          (with_next_permutes test (x ∷ run) xs))
      | inr failed ↦
          subst (λ (ys : List ℕ). IsPermutation (run ++ x ∷ xs) ys)
          (sym (cond-false (test x) (reverse_with_next test (x ∷ run) xs) (x ∷ (run ++ reverse_with_next test [] xs)) failed))
          (IsPermutation-trans (run ++ x ∷ xs) (x ∷ (run ++ xs)) (x ∷ (run ++ reverse_with_next test [] xs)) (IsPermutation-middle run x xs)
          (IsPermutation-cons x (run ++ xs) (run ++ reverse_with_next test [] xs)
          (IsPermutation-append_right run xs (reverse_with_next test [] xs) (with_next_permutes test [] xs))))
    ]

pub vtol_permutes : (reordernsm : Bool) (classes : List BidiClass) (levels : List ℕ) → IsPermutation (places levels) (vtol_of reordernsm classes levels)
unfolding vtol_of
vtol_permutes false classes levels = order_of_permutes levels
vtol_permutes true classes levels =
    IsPermutation-trans (places levels) (order_of levels) (reverse_with_next (has_base classes levels) [] (order_of levels)) (order_of_permutes levels)
    (with_next_permutes (has_base classes levels) [] (order_of levels))

-- a permutation of the numbers below n contains only numbers below n
pub permuted_within : (n : ℕ) (xs : List ℕ) → IsPermutation (range_with_len 0 n) xs → (k : ℕ) → k < length xs → get_or xs k 0 < n
permuted_within n xs p k within =
    All-permutation (λ x. x < n) (range_with_len 0 n) xs p
    (λ j d inside.
    let short : j < n = omega (arith, length-range_with_len 0 n) in
    omega (arith, get_or-range_with_len 0 n j d short))
    k 0 within

-- if all items of a list are below n, so are the items of each permutation of the list
pub permuted_below : (n : ℕ) (xs ys : List ℕ) → IsPermutation xs ys → AreWithin n xs → AreWithin n ys
permuted_below n xs ys p within k short =
    All-permutation (λ x. x < n) xs ys p (λ j d inside. omega (arith, within j inside, get_or_default xs j d 0 inside)) k 0 short

pub Turned-within : (n : ℕ) (levels items : List ℕ) (top low : ℕ) (current : List ℕ) (level : ℕ) → AreWithin n items → Turned levels items top low current level
    → AreWithin n current
Turned-within n levels items top low current level within w =
    permuted_below n items current
    (subst (λ (xs : List ℕ). IsPermutation items xs) (sym w.done) (reversed_permute levels (level + 1) (top - level) items)) within

pub length-order : (levels : List ℕ) → length (order_of levels) ≡ length levels
length-order levels = length_permutation (places levels) (order_of levels) (order_of_permutes levels) ∙ length-range_with_len 0 (length levels)

module _ (reordernsm : Bool) (classes : List BidiClass) (levels : List ℕ) where
  pub length-vtol : (vtol : List ℕ) → vtol ≡ vtol_of reordernsm classes levels → length vtol ≡ length levels
  length-vtol vtol is =
      ap length is ∙ length_permutation (places levels) (vtol_of reordernsm classes levels) (vtol_permutes reordernsm classes levels)
      ∙ length-range_with_len 0 (length levels)

  pub vtol_within : (vtol : List ℕ) → vtol ≡ vtol_of reordernsm classes levels → AreWithin (length levels) vtol
  vtol_within vtol is =
      subst (λ (xs : List ℕ). AreWithin (length levels) xs) (sym is)
      (permuted_within (length levels) (vtol_of reordernsm classes levels) (vtol_permutes reordernsm classes levels))

  pub order_permutes : (vtol : List ℕ) → vtol ≡ vtol_of reordernsm classes levels → IsPermutation (range_with_len 0 (length vtol)) vtol
  order_permutes vtol is =
      subst (λ (n : ℕ). IsPermutation (range_with_len 0 n) vtol) (sym (length-vtol vtol is))
      (subst (λ (xs : List ℕ). IsPermutation (places levels) xs) (sym is) (vtol_permutes reordernsm classes levels))

  pub is_ltov : (vtol ltov : List ℕ) → vtol ≡ vtol_of reordernsm classes levels
      → ltov ≡ map (λ k. position_or_len (λ i. i == k) vtol) (range_with_len 0 (length vtol)) → ltov ≡ ltov_of reordernsm classes levels
  unfolding ltov_of
  is_ltov vtol ltov is places_of =
      places_of ∙ ap (λ n. map (λ k. position_or_len (λ i. i == k) vtol) (range_with_len 0 n)) (length-vtol vtol is)
      ∙ ap (λ xs. map (λ k. position_or_len (λ i. i == k) xs) (places levels)) is
