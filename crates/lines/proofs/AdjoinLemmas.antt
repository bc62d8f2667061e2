-- The characters of a level run are next to each other: the distance in columns between two of them is the
-- total width of the characters from one up to the other.
use Rattle.std.proofs.Common.{◌≡◌, ◌≢◌, ℕ, zero, suc, ◌+◌, ◌-◌, ◌<◌, ◌≤◌, ◌==◌, Bool, true, false, ◌&&◌, ◌||◌, not, List, [], ◌∷◌, ◌++◌, length, get_or, drop, take, if◌then◌else◌}
use Rattle.std.proofs.Common.{refl, sym, ap, ◌∙◌, inl, inr, ◌⊎◌, arith}
use Rattle.std.specs.Prelude.{slice_range, sum, sum_by, All, None, Option}
use Rattle.std.proofs.lemmas.Bool.{and_parts, both_ways, cases_Bool, cases_eq, cases_lt, cond-true, cond-false, eq-eqb, eqb-true, ne_eqb}
use Rattle.std.proofs.lemmas.List.{get_or-drop, get_or_past, length-drop, take_more}
use Rattle.std.proofs.lemmas.List.Sums.{sum_by-cons, sum_by_more, sum_by_push}
use Rattle.ucd.specs.Classes.{is_nonspacing_mark}
use Rattle.ucd.specs.Tables.{class_of}
use Rattle.ucd.specs.declared.bidi_class.BidiClass.{BidiClass}
use Rattle.reorder.specs.Order.{has_base, is_nonspacing_mark_at, is_odd, ltov_of, order_of, precedes_nonspacing_mark, reverse_with_next, vtol_of, AreInverse}
use Rattle.reorder.proofs.InverseLemmas.{inverse_maps}
use Rattle.reorder.proofs.OrderLemmas.{length-order, length-vtol}
use Rattle.lines.specs.CharInfos.{columns_of}
use Rattle.lines.specs.Columns.{columns_between, columns_left, widths}
use Rattle.lines.specs.Layouts.{Rules, layout_of, visuals}
use Rattle.lines.specs.Ordered.{MarksStay, RunsAdjoin}
use Rattle.lines.specs.Tabs.{is_tab}
use Rattle.lines.specs.Visual.{Visual}
use Rattle.lines.specs.Widths.{widths_of}
use Rattle.lines.proofs.BesideLemmas.{even_places, odd_places}
use Rattle.lines.proofs.ColumnLemmas.{left_more}
use Rattle.lines.proofs.OrderedLemmas.{are_parts, IsPart}
use Rattle.lines.proofs.ReorderingLemmas.{marks_ltov, marks_vtol}
use Rattle.lines.proofs.TabLemmas.{nonspacing_mark_no_tab}
use Rattle.lines.proofs.WidthLemmas.{length-widths, width_plain}

-- ---- the sum of the items before an item

module _ (f : ℕ → ℕ) (i : ℕ) where
  abbrev pub sum_before : List ℕ → ℕ
  sum_before [] = 0
  sum_before (x ∷ xs) = if x == i then 0 else f x + sum_before xs

  pub at_item : (x : ℕ) (xs : List ℕ) → x ≡ i → sum_before (x ∷ xs) ≡ 0
  at_item x xs e = cond-true (x == i) 0 (f x + sum_before xs) (eq-eqb x i e)

  pub past_item : (x : ℕ) (xs : List ℕ) → x ≢ i → sum_before (x ∷ xs) ≡ f x + sum_before xs
  past_item x xs ne = cond-false (x == i) 0 (f x + sum_before xs) (ne_eqb x i ne)

  to_item : (xs : List ℕ) (k : ℕ) → k < length xs → get_or xs k 0 ≡ i → ((m : ℕ) → m < k → get_or xs m 0 ≢ i) → sum_by f (take k xs) ≡ sum_before xs
  to_item [] k within here others = absurd (omega (arith, within))
  to_item (x ∷ xs) zero within here others = sym (at_item x xs here)
  to_item (x ∷ xs) (suc k) within here others =
      omega (
        arith,
        sum_by-cons f x (take k xs),
        past_item x xs (others 0 (omega arith)),
        to_item xs k (omega (arith, within)) here (λ m h. others (suc m) (omega (arith, h))),
      )

  pub to_place : (n : ℕ) (vtol ltov : List ℕ) → AreInverse n vtol ltov → length vtol ≡ n → i < n → sum_by f (take (get_or ltov i 0) vtol) ≡ sum_before vtol
  to_place n vtol ltov w size within =
      to_item vtol (get_or ltov i 0) (omega (arith, size, w.ltov_within i within)) (w.at_ltov i within)
      (λ m h same.
      let e : get_or ltov i 0 ≡ m = ap (λ x. get_or ltov x 0) (sym same) ∙ w.at_vtol m (omega (arith, h, w.ltov_within i within)) in
      omega (arith, h, e))

  -- ---- L3 moves only items that add nothing

  module _ (test : ℕ → Bool) (nothing : (x : ℕ) → test x ≡ true → f x ≡ 0) (other : test i ≡ false) where
    abbrev Each : List ℕ → Type 0
    Each [] = Unit {0}
    Each (x ∷ xs) = (test x ≡ true) × Each xs

    skipped : (x : ℕ) (xs : List ℕ) → test x ≡ true → sum_before (x ∷ xs) ≡ sum_before xs
    skipped x xs passes =
        omega (arith, past_item x xs (λ e. both_ways (test i) other (ap test (sym e) ∙ passes)), nothing x passes)

    run_skipped : (run xs : List ℕ) → Each run → sum_before (run ++ xs) ≡ sum_before xs
    run_skipped [] xs each = refl
    run_skipped (x ∷ run) xs each = skipped x (run ++ xs) each.0 ∙ run_skipped run xs each.1

    only_run : (run : List ℕ) → Each run → sum_before run ≡ 0
    only_run [] each = refl
    only_run (x ∷ run) each = skipped x run each.0 ∙ only_run run each.1

    same_before : (run xs : List ℕ) → Each run → sum_before (reverse_with_next test run xs) ≡ sum_before xs
    same_before run [] each = only_run run each
    same_before run (x ∷ xs) each =
        let rest : List ℕ = reverse_with_next test [] xs in
        let on : List ℕ = reverse_with_next test (x ∷ run) xs in
        elim (cases_Bool (test x)) [
          | inl passes ↦ ap sum_before (cond-true (test x) on (x ∷ (run ++ rest)) passes) ∙ same_before (x ∷ run) xs (passes, each) ∙ sym (skipped x xs passes)
          | inr fails ↦
              ap sum_before (cond-false (test x) on (x ∷ (run ++ rest)) fails)
              ∙ elim (cases_eq x i) [
                | inl e ↦ at_item x (run ++ rest) e ∙ sym (at_item x xs e)
                | inr ne ↦
                    omega (
                      arith,
                      past_item x (run ++ rest) ne,
                      past_item x xs ne,
                      run_skipped run rest each,
                      same_before [] xs tt,
                    )
              ]
        ]

-- ---- characters with a base

module _ (classes : List BidiClass) (levels : List ℕ) where
  with_base : (i : ℕ) → has_base classes levels i ≡ true → (is_nonspacing_mark_at classes i ≡ true) × (i < length levels)
  with_base zero has = absurd (both_ways (has_base classes levels zero) refl has)
  with_base (suc i) has =
      let odd : Bool = is_odd (get_or levels i 0) in
      let same : Bool = get_or levels (suc i) 0 == get_or levels i 0 in
      let parts = and_parts (precedes_nonspacing_mark classes levels i) (not (is_nonspacing_mark_at classes i) || has_base classes levels i) has in
      let mark = and_parts (is_nonspacing_mark_at classes (suc i)) (odd && same) parts.0 in
      let level = and_parts odd same mark.1 in
      let e : get_or levels (suc i) 0 ≡ get_or levels i 0 = eqb-true (get_or levels (suc i) 0) (get_or levels i 0) level.1 in (
        mark.0,
        elim (cases_lt (suc i) (length levels)) [
          | inl within ↦ within
          | inr past ↦
              let none : get_or levels i 0 ≡ 0 = sym e ∙ get_or_past levels (suc i) 0 past in
              absurd (both_ways odd (ap is_odd none) level.0)
        ],
      )

-- ---- the columns between two characters

module _ (ws : List ℕ) where
  abbrev pub at : ℕ → ℕ
  at k = get_or ws k 0

  abbrev between : ℕ → ℕ → ℕ
  between j k = sum (slice_range ws j k)

  pub between_none : (j : ℕ) → between j j ≡ 0
  between_none j =
      let none : j - j ≡ 0 = omega arith in
      ap (λ n. sum (take n (drop j ws))) none

  pub between_more : (j k : ℕ) → j ≤ k → k < length ws → between j (suc k) ≡ between j k + at k
  between_more j k from within =
      let n : suc k - j ≡ k - j + 1 = omega arith in
      let place : j + (k - j) ≡ k = omega arith in
      ap (λ m. sum (take m (drop j ws))) n
      ∙ sum_by_more (λ x. x) (drop j ws) (k - j) 0 (omega (arith, within, from, length-drop j ws))
      ∙ ap (λ w. between j k + w) (get_or-drop j ws (k - j) 0 ∙ ap (λ m. get_or ws m 0) place)

-- ---- the order by L2

module _ (ws levels : List ℕ) (size : length ws ≡ length levels) where
  inverse : AreInverse (length levels) (order_of levels) (ltov_of false [] levels)
  unfolding vtol_of
  inverse = inverse_maps false [] levels

  -- the columns to the left of a character in the order of L2
  pub left : ℕ → ℕ
  left i = sum_before (at ws) i (order_of levels)

  pub left_is : (i : ℕ) → left i ≡ sum_before (at ws) i (order_of levels)
  unfolding left
  left_is i = refl

  left_at : (i : ℕ) → i < length levels → sum_by (at ws) (take (get_or (ltov_of false [] levels) i 0) (order_of levels)) ≡ left i
  unfolding left
  left_at i within = to_place (at ws) i (length levels) (order_of levels) (ltov_of false [] levels) inverse (length-order levels) within

  left_next : (i j : ℕ) → i < length levels → j < length levels → get_or (ltov_of false [] levels) j 0 ≡ suc (get_or (ltov_of false [] levels) i 0) → left j ≡ left i + at ws i
  left_next i j within also is =
      let order : List ℕ = order_of levels in
      let p : ℕ = get_or (ltov_of false [] levels) i 0 in
      let one : suc p ≡ p + 1 = omega arith in
      sym (left_at j also)
      ∙ ap (λ m. sum_by (at ws) (take m order)) (is ∙ one)
      ∙ ap (sum_by (at ws)) (take_more order p 0 (omega (arith, length-order levels, inverse.ltov_within i within)))
      ∙ sum_by_push (at ws) (take p order) (get_or order p 0)
      ∙ ap (λ x. sum_by (at ws) (take p order) + at ws x) (inverse.at_ltov i within)
      ∙ ap (λ n. n + at ws i) (left_at i within)

  even_left : (j k : ℕ) → j ≤ k → k < length levels → ((i : ℕ) → j ≤ i → i ≤ k → get_or levels i 0 ≡ get_or levels j 0) → is_odd (get_or levels j 0) ≡ false
      → left k ≡ left j + between ws j k
  even_left j zero from within level even =
      let e : j ≡ zero = omega arith in
      let none : between ws j zero ≡ 0 = ap (between ws j) (sym e) ∙ between_none ws j in
      omega (arith, none, ap left e)
  even_left j (suc k) from within level even =
      elim (cases_eq j (suc k)) [
        | inl e ↦
            let none : between ws j (suc k) ≡ 0 = ap (between ws j) (sym e) ∙ between_none ws j in
            omega (arith, none, ap left e)
        | inr ne ↦
            let here : get_or levels k 0 ≡ get_or levels j 0 = level k (omega arith) (omega arith) in
            let same : get_or levels (suc k) 0 ≡ get_or levels k 0 = level (suc k) from (omega arith) ∙ sym here in
            omega (
              arith,
              left_next k (suc k) (omega arith) within (even_places levels (ltov_of false [] levels) k inverse (length-order levels) same within (ap is_odd here ∙ even)),
              between_more ws j k (omega arith) (omega (arith, size, within)),
              even_left j k (omega arith) (omega arith) (λ i a b. level i a (omega (arith, b))) even,
            )
      ]

  odd_left : (j k : ℕ) → j ≤ k → k < length levels → ((i : ℕ) → j ≤ i → i ≤ k → get_or levels i 0 ≡ get_or levels j 0) → is_odd (get_or levels j 0) ≡ true
      → left k + at ws k + between ws j k ≡ left j + at ws j
  odd_left j zero from within level odd =
      let e : j ≡ zero = omega arith in
      let none : between ws j zero ≡ 0 = ap (between ws j) (sym e) ∙ between_none ws j in
      omega (arith, none, ap left e, ap (at ws) e)
  odd_left j (suc k) from within level odd =
      elim (cases_eq j (suc k)) [
        | inl e ↦
            let none : between ws j (suc k) ≡ 0 = ap (between ws j) (sym e) ∙ between_none ws j in
            omega (arith, none, ap left e, ap (at ws) e)
        | inr ne ↦
            let here : get_or levels k 0 ≡ get_or levels j 0 = level k (omega arith) (omega arith) in
            let same : get_or levels (suc k) 0 ≡ get_or levels k 0 = level (suc k) from (omega arith) ∙ sym here in
            omega (
              arith,
              left_next (suc k) k within (omega arith) (odd_places levels (ltov_of false [] levels) k inverse (length-order levels) same within (ap is_odd here ∙ odd)),
              between_more ws j k (omega arith) (omega (arith, size, within)),
              odd_left j k (omega arith) (omega arith) (λ i a b. level i a (omega (arith, b))) odd,
            )
      ]

-- ---- the order of a line

-- whether the nonspacing marks that L3 moves occupy no columns
abbrev pub Still : Bool → List BidiClass → List ℕ → List ℕ → Type 0
Still nsm classes levels ws = (nsm ≡ false) ⊎ ((i : ℕ) → has_base classes levels i ≡ true → at ws i ≡ 0)

-- L3 changes nothing to the left of a character that occupies columns
pub same_left : (nsm : Bool) (classes : List BidiClass) (ws levels : List ℕ) (size : length ws ≡ length levels) → Still nsm classes levels ws → (i : ℕ) → 0 < at ws i
    → sum_before (at ws) i (vtol_of nsm classes levels) ≡ left ws levels size i
unfolding vtol_of left
same_left false classes ws levels size still i some = refl
same_left true classes ws levels size (inl off) i some = absurd (both_ways true off refl)
same_left true classes ws levels size (inr still) i some =
    let test : ℕ → Bool = has_base classes levels in
    let other : test i ≡ false =
    elim (cases_Bool (test i)) [
      | inl has ↦ absurd (omega (arith, some, still i has))
      | inr none ↦ none
    ] in
    same_before (at ws) i test still other [] (order_of levels) tt

module _ (line : Visual) (nsm : Bool) (classes : List BidiClass) (size : length (widths line) ≡ length line.levels) (vtol_is : line.vtol ≡ vtol_of nsm classes line.levels)
    (ltov_is : line.ltov ≡ ltov_of nsm classes line.levels) (still : Still nsm classes line.levels (widths line)) where
  maps : AreInverse (length line.levels) line.vtol line.ltov
  maps = rw (vtol_is, ltov_is) (inverse_maps nsm classes line.levels)

  vtol_size : length line.vtol ≡ length line.levels
  vtol_size = length-vtol nsm classes line.levels line.vtol vtol_is

  columns_to : (i : ℕ) → i < length line.levels → 0 < at (widths line) i → columns_left line (get_or line.ltov i 0) ≡ left (widths line) line.levels size i
  columns_to i within some =
      let p : ℕ = get_or line.ltov i 0 in
      to_place (at (widths line)) i (length line.levels) line.vtol line.ltov maps vtol_size within
      ∙ ap (sum_before (at (widths line)) i) vtol_is
      ∙ same_left nsm classes (widths line) line.levels size still i some

  columns_past : (i : ℕ) → i < length line.levels → 0 < at (widths line) i
      → columns_left line (get_or line.ltov i 0 + 1) ≡ left (widths line) line.levels size i + at (widths line) i
  columns_past i within some =
      let p : ℕ = get_or line.ltov i 0 in
      left_more line p (omega (arith, vtol_size, maps.ltov_within i within))
      ∙ ap (λ x. columns_left line p + at (widths line) x) (maps.at_ltov i within)
      ∙ ap (λ n. n + at (widths line) i) (columns_to i within some)

  takes_columns : (i : ℕ) → i < length line.levels → 0 < columns_between line i (suc i) → 0 < at (widths line) i
  takes_columns i within some =
      omega (arith, some, between_more (widths line) i i (omega arith) (omega (arith, size, within)), between_none (widths line) i)

  adjoin : RunsAdjoin line
  adjoin = record {
    even = λ j k are even.
        let near : j < length line.levels = omega (arith, are.order, are.within) in
        columns_to k are.within (takes_columns k are.within are.last)
        ∙ even_left (widths line) line.levels size j k are.order are.within are.level even
        ∙ ap (λ n. n + columns_between line j k) (sym (columns_to j near (takes_columns j near are.first)));
    odd = λ j k are odd.
        let near : j < length line.levels = omega (arith, are.order, are.within) in
        ap (λ n. n + columns_between line j k) (columns_past k are.within (takes_columns k are.within are.last))
        ∙ odd_left (widths line) line.levels size j k are.order are.within are.level odd
        ∙ sym (columns_past j near (takes_columns j near are.first));
  }

-- ---- the lines of a layout

pub marks_still : (rules : Rules) (text : List ℕ) (line : Visual) (is : IsPart rules text line) → MarksStay rules text → Still rules.options.reordernsm is.classes line.levels (widths line)
marks_still rules text line is (inl off) = inl off
marks_still rules text line is (inr none) =
    let unmeasured : line.advances ≡ None = is.unmeasured none.0 in
    inr (λ i has.
    let base = with_base is.classes line.levels i has in
    let char : get_or line.text i 0 ≡ get_or text (is.start + i) 0 = is.chars i base.1 in
    let mark : is_nonspacing_mark (class_of rules.tables (get_or line.text i 0)) ≡ true = ap is_nonspacing_mark (sym (is.class i base.1)) ∙ base.0 in
    ap (λ (advances : Option (List ℕ)). get_or (widths_of line.tab_width advances line.text) i 0) unmeasured
    ∙ width_plain line.tab_width i line.text (omega (arith, is.size, base.1))
    (ap (λ n. is_tab n (get_or line.text i 0)) is.tab_width ∙ nonspacing_mark_no_tab rules.tables rules.options (get_or line.text i 0) mark)
    ∙ ap columns_of char
    ∙ none.1 (is.start + i) 0 (omega (arith, is.inside, base.1)) (ap (λ c. is_nonspacing_mark (class_of rules.tables c)) (sym char) ∙ mark))

pub all_adjoin : (rules : Rules) (width : ℕ) (text : List ℕ) → rules.options.reorder_clusters ≡ false → MarksStay rules text → All RunsAdjoin (visuals (layout_of rules width text))
all_adjoin rules width text whole stay = λ k d within.
    let is = are_parts rules width text k d within in
    let line : Visual = get_or (visuals (layout_of rules width text)) k d in
    adjoin line rules.options.reordernsm is.classes (length-widths line ∙ is.size) (is.vtol ∙ sym (marks_vtol rules.options is.classes is.ends _ whole))
    (is.ltov ∙ sym (marks_ltov rules.options is.classes is.ends _ whole)) (marks_still rules text _ is stay)
