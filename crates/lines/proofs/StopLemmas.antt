-- Each tab ends at a tab stop, counted from the edge at which its line starts.
use Rattle.std.proofs.Common.{◌≡◌, ◌≢◌, ◌∙◌, ℕ, zero, suc, ◌+◌, ◌-◌, ◌%◌, ◌<◌, ◌≤◌, ◌==◌, nat_lt, max, Bool, true, false, ◌&&◌, ◌||◌, not, ◌⊎◌, Option, Some, None, List, [], ◌∷◌, ◌++◌}
use Rattle.std.proofs.Common.{if◌then◌else◌, length, take, drop, fold, get_or, reverse, sum, sum_by, unwrap_or, refl, sym, ap, subst, inl, inr, arith}
use Rattle.std.specs.Prelude.{All}
use Rattle.std.specs.List.{list_any, range_with_len}
use Rattle.std.proofs.Math.Seq.{split_at}
use Rattle.std.proofs.lemmas.Bool.{and_from, and_left, and_parts, both_ways, cases_Bool, cases_eq, cond-true, cond-false, eq-eqb, eqb-true, le-leb, lt-leb}
use Rattle.std.proofs.lemmas.List.{append-nil, append_assoc, get_or-drop, get_or-take, length-drop, length-take-le, reverse-append, reverse-reverse}
use Rattle.std.proofs.lemmas.List.Folds.{list_any_at}
use Rattle.std.proofs.lemmas.List.Sorted.{IsPermutation-reverse, sum_by-IsPermutation}
use Rattle.std.proofs.lemmas.List.Sums.{sum_by-append, sum_by-cons}
use Rattle.ucd.specs.Least.{least}
use Rattle.bidi.proofs.LeastLemmas.{least_found, least_passes}
use Rattle.reorder.specs.Clusters.{cluster_classes, is_joined}
use Rattle.reorder.specs.Order.{has_base, has_odd, highest, is_at_least, is_nonspacing_mark_at, is_odd, lowest_odd, ltov_of, order_by, order_of, places, precedes_nonspacing_mark, reverse_runs, reverse_with_next, reversed_from, AreInverse}
use Rattle.reorder.proofs.ClusterLemmas.{unmarked}
use Rattle.reorder.proofs.GroupLemmas.{mark_stands}
use Rattle.reorder.proofs.InverseLemmas.{inverse_maps}
use Rattle.reorder.proofs.OrderLemmas.{length-order, order_of_permutes, permuted_within, reversed_permute}
use Rattle.reorder.specs.Order.{vtol_of}
use Rattle.reorder.specs.Runs.{runs_of}
use Rattle.reorder.proofs.WholeRunLemmas.{are_runs}
use Rattle.std.proofs.lemmas.List.{take_all}
use Rattle.std.proofs.lemmas.Nat.{mod_below}
use Rattle.ucd.specs.declared.bidi_class.BidiClass.{BidiClass}
use Rattle.lines.specs.Clusters.{cluster_ends, ends_at}
use Rattle.lines.specs.Columns.{columns_left, widths}
use Rattle.lines.specs.Layouts.{Rules, layout_of, visuals}
use Rattle.lines.specs.Ordered.{IsOrdered, MarksStay}
use Rattle.lines.specs.TabStops.{IsTab, TabsEndAtStops, size_at}
use Rattle.lines.specs.Tabs.{is_segment_separator, is_tab, tab_width_in}
use Rattle.lines.specs.Visual.{Visual}
use Rattle.lines.proofs.AdjoinLemmas.{at, at_item, left_is, marks_still, past_item, same_left, sum_before, to_place}
use Rattle.lines.proofs.ColumnLemmas.{left_more}
use Rattle.lines.proofs.OrderedLemmas.{IsPart, all_ordered, are_parts}
use Rattle.lines.proofs.ReorderingLemmas.{clusters_vtol, marks_vtol}
use Rattle.lines.proofs.RunColumnLemmas.{in_range, runs_add_up}
use Rattle.lines.proofs.ShownColumnLemmas.{AddUp, layout_adds_up}
use Rattle.lines.proofs.TabLemmas.{ends_after_tab, ends_before_tab, tab_class}
use Rattle.lines.proofs.WidthLemmas.{length-widths, sum_next, tab_ends, width_tab}

-- ---- the sum of the items before an item

module _ (f : ℕ → ℕ) (i : ℕ) where
  -- whether i is not in a list
  abbrev Without : List ℕ → Type 0
  Without [] = Unit {0}
  Without (x ∷ xs) = (x ≢ i) × Without xs

  without_items : (xs : List ℕ) → ((m : ℕ) → m < length xs → get_or xs m 0 ≢ i) → Without xs
  without_items [] other = tt
  without_items (x ∷ xs) other = (other 0 (omega arith), without_items xs (λ m h. other (suc m) (omega (arith, h))))

  without_append : (xs ys : List ℕ) → Without xs → Without ys → Without (xs ++ ys)
  without_append [] ys none also = also
  without_append (x ∷ xs) ys none also = (none.0, without_append xs ys none.1 also)

  without_reverse : (xs : List ℕ) → Without xs → Without (reverse xs)
  without_reverse [] none = tt
  without_reverse (x ∷ xs) none =
      subst Without (sym (reverse-append (x ∷ []) xs)) (without_append (reverse xs) (x ∷ []) (without_reverse xs none.1) (none.0, tt))

  before_without : (xs ys : List ℕ) → Without xs → sum_before f i (xs ++ ys) ≡ sum_by f xs + sum_before f i ys
  before_without [] ys none = omega arith
  before_without (x ∷ xs) ys none = omega (arith, past_item f i x (xs ++ ys) none.0, sum_by-cons f x xs, before_without xs ys none.1)

  -- ---- reversing intervals without i

  module _ (test : ℕ → Bool) (fails : test i ≡ false) where
    runs_before : (run xs : List ℕ) → Without run → sum_before f i (reverse_runs test run xs) ≡ sum_by f run + sum_before f i xs
    runs_before run [] none = ap (sum_before f i) (sym (append-nil run)) ∙ before_without run [] none
    runs_before run (x ∷ xs) none =
        let rest : List ℕ = reverse_runs test [] xs in
        let on : List ℕ = reverse_runs test (x ∷ run) xs in
        elim (cases_Bool (test x)) [
          | inl passes ↦
              let other : x ≢ i = λ e. both_ways (test i) fails (ap test (sym e) ∙ passes) in
              ap (sum_before f i) (cond-true (test x) on (run ++ x ∷ rest) passes)
              ∙ runs_before (x ∷ run) xs (other, none)
              ∙ omega (arith, sum_by-cons f x run, past_item f i x xs other)
          | inr failed ↦
              ap (sum_before f i) (cond-false (test x) on (run ++ x ∷ rest) failed)
              ∙ before_without run (x ∷ rest) none
              ∙ elim (cases_eq x i) [
                | inl e ↦ omega (arith, at_item f i x rest e, at_item f i x xs e)
                | inr ne ↦ omega (arith, past_item f i x rest ne, past_item f i x xs ne, runs_before [] xs tt)
              ]
        ]

  -- reversing the intervals of levels above that of i does not change the sum before i
  kept : (levels : List ℕ) (low count : ℕ) (xs : List ℕ) → get_or levels i 0 < low → sum_before f i (reversed_from levels low count xs) ≡ sum_before f i xs
  kept levels low zero xs below = refl
  kept levels low (suc count) xs below =
      omega (
        arith,
        runs_before (is_at_least levels low) (lt-leb low (get_or levels i 0) below) [] (reversed_from levels (suc low) count xs) tt,
        kept levels (suc low) count xs (omega (arith, below)),
      )

  -- ---- reversing intervals that do not contain i, each with the item after it

  module _ (test : ℕ → Bool) (fails : test i ≡ false) where
    -- whether the item before i fails the test; `after` says whether the item before the list passes
    abbrev Clear : Bool → List ℕ → Type 0
    Clear after [] = Unit {0}
    Clear after (x ∷ xs) = (x ≡ i → after ≡ false) × Clear (test x) xs

    clear_items : (after : Bool) (xs : List ℕ) → (0 < length xs → get_or xs 0 0 ≡ i → after ≡ false)
        → ((m : ℕ) → suc m < length xs → get_or xs (suc m) 0 ≡ i → test (get_or xs m 0) ≡ false) → Clear after xs
    clear_items after [] first each = tt
    clear_items after (x ∷ xs) first each =
        (first (omega arith), clear_items (test x) xs (λ h. each 0 (omega (arith, h))) (λ m h. each (suc m) (omega (arith, h))))

    next_before : (after : Bool) (run xs : List ℕ) → Without run → (after ≡ false → run ≡ []) → Clear after xs
        → sum_before f i (reverse_with_next test run xs) ≡ sum_by f run + sum_before f i xs
    next_before after run [] none begins clear = ap (sum_before f i) (sym (append-nil run)) ∙ before_without run [] none
    next_before after run (x ∷ xs) none begins clear =
        let rest : List ℕ = reverse_with_next test [] xs in
        let on : List ℕ = reverse_with_next test (x ∷ run) xs in
        elim (cases_Bool (test x)) [
          | inl passes ↦
              let other : x ≢ i = λ e. both_ways (test i) fails (ap test (sym e) ∙ passes) in
              ap (sum_before f i) (cond-true (test x) on (x ∷ (run ++ rest)) passes)
              ∙ next_before (test x) (x ∷ run) xs (other, none) (λ off. absurd (both_ways (test x) off passes)) clear.1
              ∙ omega (arith, sum_by-cons f x run, past_item f i x xs other)
          | inr failed ↦
              ap (sum_before f i) (cond-false (test x) on (x ∷ (run ++ rest)) failed)
              ∙ elim (cases_eq x i) [
                | inl e ↦
                    let empty : sum_by f run ≡ 0 = ap (sum_by f) (begins (clear.0 e)) in
                    omega (arith, empty, at_item f i x (run ++ rest) e, at_item f i x xs e)
                | inr ne ↦
                    omega (
                      arith,
                      past_item f i x (run ++ rest) ne,
                      past_item f i x xs ne,
                      before_without run rest none,
                      next_before (test x) [] xs tt (λ off. refl) clear.1,
                    )
              ]
        ]

    pub same_before_next : (xs : List ℕ) → ((m : ℕ) → suc m < length xs → get_or xs (suc m) 0 ≡ i → test (get_or xs m 0) ≡ false)
        → sum_before f i (reverse_with_next test [] xs) ≡ sum_before f i xs
    same_before_next xs each = omega (arith, next_before false [] xs tt (λ off. refl) (clear_items false xs (λ within here. refl) each))

  in_places : (a n : ℕ) → a ≤ i → i < a + n → sum_before f i (range_with_len a n) ≡ sum_by f (range_with_len a (i - a))
  in_places a zero from to = absurd (omega (arith, from, to))
  in_places a (suc n) from to =
      elim (cases_eq a i) [
        | inl e ↦
            let none : i - a ≡ 0 = omega (arith, e) in
            at_item f i a (range_with_len (a + 1) n) e ∙ sym (ap (λ m. sum_by f (range_with_len a m)) none)
        | inr ne ↦
            let more : i - a ≡ suc (i - (a + 1)) = omega (arith, from, ne) in
            omega (
              arith,
              past_item f i a (range_with_len (a + 1) n) ne,
              in_places (a + 1) n (omega (arith, from, ne)) (omega (arith, to)),
              ap (λ m. sum_by f (range_with_len a m)) more,
              sum_by-cons f a (range_with_len (a + 1) (i - (a + 1))),
            )
      ]

  in_all : (n : ℕ) → i < n → sum_before f i (range_with_len 0 n) ≡ sum_by f (range_with_len 0 i)
  in_all n below =
      let same : i - 0 ≡ i = omega arith in
      in_places 0 n (omega arith) (omega (arith, below)) ∙ ap (λ m. sum_by f (range_with_len 0 m)) same

  -- ---- an item that occurs once

  record IsOnce (xs : List ℕ) : Type 0 where
    front : List ℕ
    back : List ℕ
    is : xs ≡ front ++ i ∷ back
    before : Without front
    after : Without back

  once_before : (xs : List ℕ) (w : IsOnce xs) → sum_before f i xs ≡ sum_by f w.front
  once_before xs w =
      ap (sum_before f i) w.is ∙ before_without w.front (i ∷ w.back) w.before ∙ omega (arith, at_item f i i w.back refl)

  once_reverse : (xs : List ℕ) → IsOnce xs → IsOnce (reverse xs)
  once_reverse xs w = record {
    front = reverse w.back;
    back = reverse w.front;
    is = ap reverse w.is
        ∙ reverse-append w.front (i ∷ w.back)
        ∙ ap (λ (ys : List ℕ). ys ++ reverse w.front) (reverse-append (i ∷ []) w.back)
        ∙ append_assoc (reverse w.back) (i ∷ []) (reverse w.front);
    before = without_reverse w.back w.after;
    after = without_reverse w.front w.before;
  }

  -- the sum before an item, the item itself and the sum after the item add up to the sum of all items
  once_sum : (xs : List ℕ) → IsOnce xs → sum_before f i xs + f i + sum_before f i (reverse xs) ≡ sum_by f xs
  unfolding once_reverse
  once_sum xs w =
      let after : sum_before f i (reverse xs) ≡ sum_by f (reverse w.back) = once_before (reverse xs) (once_reverse xs w) in
      omega (
        arith,
        once_before xs w,
        after,
        sum_by-IsPermutation f w.back (reverse w.back) (IsPermutation-reverse w.back),
        ap (sum_by f) w.is,
        sum_by-append f w.front (i ∷ w.back),
        sum_by-cons f i w.back,
      )

-- ---- L2 for the lowest odd level, if all levels are at least that level

reverse_all : (test : ℕ → Bool) (run xs : List ℕ) → ((m : ℕ) → m < length xs → test (get_or xs m 0) ≡ true) → reverse_runs test run xs ≡ reverse xs ++ run
reverse_all test run [] pass = refl
reverse_all test run (x ∷ xs) pass =
    cond-true (test x) (reverse_runs test (x ∷ run) xs) (run ++ x ∷ reverse_runs test [] xs) (pass 0 (omega arith))
    ∙ reverse_all test (x ∷ run) xs (λ m h. pass (suc m) (omega (arith, h)))
    ∙ sym (ap (λ (ys : List ℕ). ys ++ run) (reverse-append (x ∷ []) xs) ∙ append_assoc (reverse xs) (x ∷ []) run)

max_from : (a : ℕ) (xs : List ℕ) → a ≤ fold max a xs
max_from a [] = omega arith
max_from a (x ∷ xs) = omega (arith, max_from (max a x) xs)

max_at : (a : ℕ) (xs : List ℕ) (k : ℕ) → k < length xs → get_or xs k 0 ≤ fold max a xs
max_at a [] k within = absurd (omega (arith, within))
max_at a (x ∷ xs) zero within = omega (arith, max_from (max a x) xs)
max_at a (x ∷ xs) (suc k) within = max_at (max a x) xs k (omega (arith, within))

-- 0 is not the lowest odd level
lowest_some : (levels : List ℕ) → lowest_odd levels ≡ Some 0 → ⊥
lowest_some levels is =
    let top : ℕ = suc (highest levels) in
    let zero_is : unwrap_or (least (has_odd levels) 0 top) top ≡ 0 = ap (λ o. unwrap_or o top) is in
    let found = (least_passes (has_odd levels) 0 top top (omega arith) (omega (arith, zero_is))).1 in
    both_ways (has_odd levels 0) refl (subst (λ m. has_odd levels m ≡ true) zero_is found)

module _ (ws levels : List ℕ) (i : ℕ) (within : i < length levels) where
  abbrev order : List ℕ
  order = order_of levels

  -- in the order of L2, the columns before a character at level 0 are those of the characters before it in
  -- the text
  pub at_zero : get_or levels i 0 ≡ 0 → sum_before (at ws) i order ≡ sum_by (at ws) (range_with_len 0 i)
  unfolding order_of
  at_zero level = go (lowest_odd levels) refl
    where
      go : (low : Option ℕ) → lowest_odd levels ≡ low → sum_before (at ws) i (order_by levels low) ≡ sum_by (at ws) (range_with_len 0 i)
      go None is = in_all (at ws) i (length levels) within
      go (Some zero) is = absurd (lowest_some levels is)
      go (Some (suc low)) is =
          kept (at ws) i levels (suc low) (suc (highest levels) - suc low) (places levels) (omega (arith, level))
          ∙ in_all (at ws) i (length levels) within

  maps : AreInverse (length levels) order (ltov_of false [] levels)
  unfolding vtol_of
  maps = inverse_maps false [] levels

  once_order : IsOnce (at ws) i order
  once_order =
      let p : ℕ = get_or (ltov_of false [] levels) i 0 in
      let short : p < length order = omega (arith, length-order levels, maps.ltov_within i within) in
      record {
        front = take p order;
        back = drop (suc p) order;
        is = split_at order p 0 short ∙ ap (λ x. take p order ++ x ∷ drop (suc p) order) (maps.at_ltov i within);
        before = without_items (at ws) i (take p order) (λ m h same.
            let low : m < p = omega (arith, h, length-take-le p order (omega (arith, short))) in
            let here : get_or (ltov_of false [] levels) i 0 ≡ m =
            ap (λ x. get_or (ltov_of false [] levels) x 0) (sym (sym (get_or-take p order m 0 low) ∙ same)) ∙ maps.at_vtol m (omega (arith, low, maps.ltov_within i within)) in
            omega (arith, here, low));
        after = without_items (at ws) i (drop (suc p) order) (λ m h same.
            let inside : suc p + m < length levels = omega (arith, h, length-drop (suc p) order, length-order levels) in
            let here : get_or (ltov_of false [] levels) i 0 ≡ suc p + m =
            ap (λ x. get_or (ltov_of false [] levels) x 0) (sym (sym (get_or-drop (suc p) order m 0) ∙ same)) ∙ maps.at_vtol (suc p + m) inside in
            omega (arith, here));
      }

  -- ---- the columns before a character at level 1 in the order of L2, if no character is at level 0
  module _ (level : get_or levels i 0 ≡ 1) (above : (k : ℕ) → k < length levels → 1 ≤ get_or levels k 0) where
    high : 1 ≤ highest levels
    high = omega (arith, level, max_at 0 levels i within)

    lowest_one : lowest_odd levels ≡ Some 1
    lowest_one =
        least_found (has_odd levels) 0 (suc (highest levels)) 1 (omega arith) (omega (arith, high))
        (and_from (is_odd 1) (list_any (λ other. other == 1) levels) refl (list_any_at (λ other. other == 1) levels i 0 within (eq-eqb (get_or levels i 0) 1 level)))
        (λ m from below. let none : m ≡ 0 = omega (arith, below) in subst (λ k. has_odd levels k ≡ false) (sym none) refl)

    abbrev inner : List ℕ
    inner = reversed_from levels 2 (highest levels - 1) (places levels)

    turned : order ≡ reverse inner
    unfolding order_of
    turned =
        let count : suc (highest levels) - 1 ≡ suc (highest levels - 1) = omega (arith, high) in
        ap (order_by levels) lowest_one
        ∙ ap (λ n. reversed_from levels 1 n (places levels)) count
        ∙ reverse_all (is_at_least levels 1) [] inner
        (λ m h. le-leb 1 (get_or levels (get_or inner m 0) 0)
        (above (get_or inner m 0) (permuted_within (length levels) inner (reversed_permute levels 2 (highest levels - 1) (places levels)) m h)))
        ∙ append-nil (reverse inner)

    pub at_one : sum_before (at ws) i order + at ws i + sum_by (at ws) (range_with_len 0 i) ≡ sum_by (at ws) (places levels)
    at_one =
        omega (
          arith,
          once_sum (at ws) i order once_order,
          ap (sum_before (at ws) i) (ap reverse turned ∙ reverse-reverse inner),
          kept (at ws) i levels 2 (highest levels - 1) (places levels) (omega (arith, level)),
          in_all (at ws) i (length levels) within,
          sum_by-IsPermutation (at ws) (places levels) order (order_of_permutes levels),
        )

-- ---- L3 by clusters

module _ (ends : List Bool) (levels : List ℕ) (i : ℕ) (begins : is_joined ends levels i ≡ false) (closes : is_joined ends levels (suc i) ≡ false) where
  abbrev classes : List BidiClass
  classes = cluster_classes ends levels

  abbrev is_moved : ℕ → Bool
  is_moved = has_base classes levels

  unmoved : (k : ℕ) → is_joined ends levels k ≡ false → is_moved k ≡ false
  unmoved zero none = refl
  unmoved (suc k) none =
      and_left (precedes_nonspacing_mark classes levels k) (not (is_nonspacing_mark_at classes k) || is_moved k)
      (and_left (is_nonspacing_mark_at classes (suc k)) (is_odd (get_or levels k 0) && (get_or levels (suc k) 0 == get_or levels k 0)) (unmarked ends levels (suc k) none))

  -- the character to the left of i is not moved either
  beside : (m z : ℕ) → suc m < length levels → get_or (order_of levels) (suc m) 0 ≡ i → get_or (order_of levels) m 0 ≡ z → is_moved z ≡ false
  beside m zero within here left = refl
  beside m (suc j) within here left =
      let rest : Bool = not (is_nonspacing_mark_at classes j) || is_moved j in
      elim (cases_Bool (is_moved (suc j))) [
        | inl some ↦
            let next = mark_stands classes levels m j (omega (arith, within)) left (and_parts (precedes_nonspacing_mark classes levels j) rest some).0 in
            let e : j ≡ i = sym next.1 ∙ here in
            absurd (both_ways (is_moved (suc i)) (unmoved (suc i) closes) (ap (λ k. is_moved (suc k)) (sym e) ∙ some))
        | inr none ↦ none
      ]

  -- with clusters, L3 changes nothing to the left of a character that is joined to no other
  pub same_by_clusters : (ws : List ℕ) → sum_before (at ws) i (vtol_of true classes levels) ≡ sum_before (at ws) i (order_of levels)
  unfolding vtol_of
  same_by_clusters ws =
      same_before_next (at ws) i is_moved (unmoved i begins) (order_of levels) (λ m h here. beside m (get_or (order_of levels) m 0) (omega (arith, h, length-order levels)) here refl)

-- ---- a line

-- whether the columns to the left of each tab are those in the order of L2
abbrev StayByL2 : Visual → Type 0
StayByL2 line = (k : ℕ) → IsTab line k → sum_before (at (widths line)) k line.vtol ≡ sum_before (at (widths line)) k (order_of line.levels)

module _ (line : Visual) (k : ℕ) (tab : IsTab line k) (size : length line.text ≡ length line.levels) where
  inside : k < length line.text
  inside = omega (arith, tab.within, size)

  takes_columns : 0 < at (widths line) k
  takes_columns =
      let size : ℕ = size_at line k in
      omega (arith, width_tab line.tab_width k line.advances line.text inside tab.tab, mod_below (sum (take k (widths line))) size tab.some)

module _ (line : Visual) (ordered : IsOrdered line) (stay : StayByL2 line) (total : line.columns ≡ sum (widths line)) (low : line.base ≤ 1)
    (above : (k : ℕ) → k < length line.levels → line.base ≤ get_or line.levels k 0) (reset : (k : ℕ) → IsTab line k → get_or line.levels k 0 ≡ line.base) where
  abbrev ws : List ℕ
  ws = widths line

  size : length ws ≡ length line.levels
  size = length-widths line ∙ ordered.text

  module _ (k : ℕ) (is : IsTab line k) where
    abbrev n : ℕ
    n = size_at line k

    -- the columns from the start of the line to the end of the tab are a multiple of the tab width
    ends_tab : (sum (take k ws) + at ws k) % n ≡ 0
    ends_tab =
        let within : k < length line.text = inside line k is ordered.text in
        ap (λ m. m % n) (sym (sum_next line.tab_width k line.advances line.text within)) ∙ tab_ends line.tab_width k line.advances line.text within is.some is.tab

    before : sum_by (at ws) (range_with_len 0 k) ≡ sum (take k ws)
    before = in_range ws 0 k (omega (arith, is.within, size))

    left_columns : columns_left line (get_or line.ltov k 0) ≡ sum_before (at ws) k (order_of line.levels)
    left_columns = to_place (at ws) k (length line.levels) line.vtol line.ltov ordered.inverse ordered.vtol is.within ∙ stay k is

    from_left : line.base ≡ 0 → columns_left line (get_or line.ltov k 0 + 1) % n ≡ 0
    from_left zero_is =
        ap (λ m. m % n)
        (left_more line (get_or line.ltov k 0) (omega (arith, ordered.vtol, ordered.inverse.ltov_within k is.within))
        ∙ ap (λ x. columns_left line (get_or line.ltov k 0) + at ws x) (ordered.inverse.at_ltov k is.within)
        ∙ ap (λ m. m + at ws k) (left_columns ∙ at_zero ws line.levels k is.within (reset k is ∙ zero_is) ∙ before))
        ∙ ends_tab

    from_right : line.base ≡ 1 → (line.columns - columns_left line (get_or line.ltov k 0)) % n ≡ 0
    from_right one_is =
        let all : sum_by (at ws) (places line.levels) ≡ sum ws =
        in_range ws 0 (length line.levels) (omega (arith, size)) ∙ ap sum (take_all (length line.levels) ws (omega (arith, size))) in
        let rest : line.columns - columns_left line (get_or line.ltov k 0) ≡ sum (take k ws) + at ws k =
        omega (
          arith,
          left_columns,
          at_one ws line.levels k is.within (reset k is ∙ one_is) (λ j h. omega (arith, above j h, one_is)),
          before,
          all,
          total,
        ) in
        ap (λ m. m % n) rest ∙ ends_tab

  pub stops : TabsEndAtStops line
  stops = record {
    left_to_right = λ even k is.
        from_left k is (elim (cases_eq line.base 0) [ inl zero_is ↦ zero_is | inr other ↦ let one_is : line.base ≡ 1 = omega (arith, other, low) in absurd (both_ways (is_odd line.base) even (ap is_odd one_is)) ]);
    right_to_left = λ odd k is.
        from_right k is (elim (cases_eq line.base 1) [ inl one_is ↦ one_is | inr other ↦ let zero_is : line.base ≡ 0 = omega (arith, other, low) in absurd (both_ways (is_odd line.base) (ap is_odd zero_is) odd) ]);
  }

-- ---- the lines of a layout

module _ (rules : Rules) (text : List ℕ) (line : Visual) (is : IsPart rules text line) where
  tab_char : (k : ℕ) → IsTab line k → get_or text (is.start + k) 0 ≡ 9
  tab_char k tab =
      let c : ℕ = get_or line.text k 0 in
      sym (is.chars k tab.within) ∙ eqb-true c 9 (and_parts (nat_lt 0 line.tab_width) (c == 9) tab.tab).1

  -- with `reorder_clusters`, a tab is joined to no other character
  module _ (on : rules.options.reorder_clusters ≡ true) (k : ℕ) (tab : IsTab line k) where
    end_known : (i : ℕ) → i < length line.levels → ends_at (cluster_ends text) (is.start + i) ≡ true → get_or is.ends i false ≡ true
    end_known i within end =
        is.end_at i within ∙ ap (λ b. get_or (if b then cluster_ends text else []) (is.start + i) false) on ∙ end

    joins_none : (i : ℕ) → get_or is.ends i false ≡ true → is_joined is.ends line.levels (suc i) ≡ false
    joins_none i end = and_left (not (get_or is.ends i false)) (get_or line.levels (suc i) 0 == get_or line.levels i 0) (ap not end)

    closes_tab : is_joined is.ends line.levels (suc k) ≡ false
    closes_tab = joins_none k (end_known k tab.within (ends_after_tab text (is.start + k) (omega (arith, is.inside, tab.within)) (tab_char k tab)))

    begins_tab : (j : ℕ) → j ≡ k → is_joined is.ends line.levels j ≡ false
    begins_tab zero e = refl
    begins_tab (suc j) e =
        let next : is.start + k ≡ suc (is.start + j) = omega (arith, e) in
        let within : suc (is.start + j) < length text = omega (arith, is.inside, tab.within, e) in
        joins_none j (end_known j (omega (arith, e, tab.within)) (ends_before_tab text (is.start + j) within (ap (λ m. get_or text m 0) (sym next) ∙ tab_char k tab)))

    stays_by_clusters : sum_before (at (widths line)) k line.vtol ≡ sum_before (at (widths line)) k (order_of line.levels)
    stays_by_clusters =
        ap (sum_before (at (widths line)) k) (is.vtol ∙ sym (clusters_vtol rules.options is.classes is.ends line.levels on))
        ∙ same_by_clusters is.ends line.levels k (begins_tab k refl) closes_tab (widths line)

  stays_by_marks : rules.options.reorder_clusters ≡ false → MarksStay rules text → StayByL2 line
  stays_by_marks off marks k tab =
      let size : length (widths line) ≡ length line.levels = length-widths line ∙ is.size in
      ap (sum_before (at (widths line)) k) (is.vtol ∙ sym (marks_vtol rules.options is.classes is.ends line.levels off))
      ∙ same_left rules.options.reordernsm is.classes (widths line) line.levels size (marks_still rules text line is marks) k (takes_columns line k tab is.size)
      ∙ left_is (widths line) line.levels size k

  stay_by : (rules.options.reorder_clusters ≡ true) ⊎ MarksStay rules text → StayByL2 line
  stay_by (inl on) k tab = stays_by_clusters on k tab
  stay_by (inr marks) k tab = elim (cases_Bool rules.options.reorder_clusters) [
    | inl on ↦ stays_by_clusters on k tab
    | inr off ↦ stays_by_marks off marks k tab
  ]

  line_stops : (rules.options.reorder_clusters ≡ true) ⊎ MarksStay rules text → IsOrdered line → AddUp line → TabsEndAtStops line
  line_stops stay ordered adds =
      let total : line.columns ≡ sum (widths line) = sym adds ∙ runs_add_up line (sym is.size) (runs_of line.levels) (are_runs line.levels) in
      stops line ordered (stay_by stay) total is.low is.above
      (λ k tab.
      let width : is_tab (tab_width_in rules.tables rules.options) (get_or line.text k 0) ≡ true = ap (λ n. is_tab n (get_or line.text k 0)) (sym is.tab_width) ∙ tab.tab in
      is.reset k tab.within (ap is_segment_separator (is.class k tab.within) ∙ tab_class rules.tables rules.options (get_or line.text k 0) width))

pub all_stops : (rules : Rules) (width : ℕ) (text : List ℕ) → (rules.options.reorder_clusters ≡ true) ⊎ MarksStay rules text
    → All TabsEndAtStops (visuals (layout_of rules width text))
all_stops rules width text stay = λ k d within.
    line_stops rules text _ (are_parts rules width text k d within) stay (all_ordered rules width text k d within) (layout_adds_up rules width text k d within)
