-- The maximal intervals of covered columns: how they are found, and that they are maximal.
use Rattle.std.proofs.Common.{◌≡◌, ℕ, zero, suc, ◌+◌, ◌-◌, ◌<◌, ◌≤◌, nat_le, nat_lt, Bool, true, false, not, List, [], ◌∷◌, ◌++◌, map}
use Rattle.std.proofs.Common.{Option, Some, unwrap_or, refl, sym, ap, subst, ◌∙◌, inl, inr, arith}
use Rattle.std.specs.List.{filter, list_any, range_with_len, All}
use Rattle.std.proofs.lemmas.Bool.{and_from, and_left, and_parts, and_right, both_ways, cases_Bool, cases_eq, cases_lt, cond-true, cond-false, false_from_ne_true, le-leb, leb-true, lt-ltb, ltb-true, not_from_false, not_from_true, not-false, not-true, or_cases, or_left, or_right}
use Rattle.std.proofs.lemmas.List.Elements.{filter-append, All-cons, All-nil}
use Rattle.ucd.specs.Least.{least}
use Rattle.lines.specs.Spans.{has_column, intervals_from, is_left_edge, span_at, AreApart, AreMaximal}
use Rattle.lines.specs.declared.spans.Span.{Span}

-- ---- the first number that passes a test

first : (test : ℕ → Bool) (low count end b : ℕ) → low + count ≡ end → low ≤ b → b ≤ end → ((c : ℕ) → low ≤ c → c < b → test c ≡ false)
    → (b < end → test b ≡ true) → unwrap_or (least test low count) end ≡ b
first test low zero end b e from to fails passes = omega arith
first test low (suc count) end b e from to fails passes =
    let rest : Option ℕ = least test (suc low) count in
    elim (cases_eq low b) [
      | inl same ↦
          let here : test low ≡ true = ap test same ∙ passes (omega arith) in
          ap (λ (o : Option ℕ). unwrap_or o end) (cond-true (test low) (Some low) rest here) ∙ same
      | inr other ↦
          let here : test low ≡ false = fails low (omega arith) (omega arith) in
          ap (λ (o : Option ℕ). unwrap_or o end) (cond-false (test low) (Some low) rest here)
          ∙ first test (suc low) count end b (omega arith) (omega arith) to (λ c above below. fails c (omega arith) below) passes
    ]

-- the result of a search is no greater than any number that passes, and no smaller number passes
first_most : (test : ℕ → Bool) (low count end b : ℕ) → low + count ≡ end → low ≤ b → b < end → test b ≡ true → unwrap_or (least test low count) end ≤ b
first_most test low zero end b e from to passes = omega arith
first_most test low (suc count) end b e from to passes =
    let rest : Option ℕ = least test (suc low) count in
    elim (cases_Bool (test low)) [
      | inl here ↦ omega (arith, ap (λ (o : Option ℕ). unwrap_or o end) (cond-true (test low) (Some low) rest here))
      | inr here ↦
          elim (cases_eq low b) [
            | inl same ↦ absurd (both_ways (test b) (ap test (sym same) ∙ here) passes)
            | inr other ↦
                omega (
                  arith,
                  ap (λ (o : Option ℕ). unwrap_or o end) (cond-false (test low) (Some low) rest here),
                  first_most test (suc low) count end b (omega arith) (omega arith) to passes,
                )
          ]
    ]

-- the result of a search is in the range, and passes the test if it is not the end of the range
record Found (test : ℕ → Bool) (low end result : ℕ) : Type 0 where
  from : low ≤ result
  to : result ≤ end
  passes : result < end → test result ≡ true

first_found : (test : ℕ → Bool) (low count end : ℕ) → low + count ≡ end → Found test low end (unwrap_or (least test low count) end)
first_found test low zero end e = record { from = omega arith; to = omega arith; passes = λ below. absurd (omega arith) }
first_found test low (suc count) end e =
    let rest : Option ℕ = least test (suc low) count in
    elim (cases_Bool (test low)) [
      | inl here ↦
          subst (λ (o : Option ℕ). Found test low end (unwrap_or o end)) (sym (cond-true (test low) (Some low) rest here))
          (record { from = omega arith; to = omega arith; passes = λ below. here })
      | inr here ↦
          let later : Found test (suc low) end (unwrap_or rest end) = first_found test (suc low) count end (omega arith) in
          subst (λ (o : Option ℕ). Found test low end (unwrap_or o end)) (sym (cond-false (test low) (Some low) rest here))
          (record { from = omega (arith, later.from); to = later.to; passes = later.passes })
    ]

first_fails : (test : ℕ → Bool) (low count end c : ℕ) → low + count ≡ end → low ≤ c → c < unwrap_or (least test low count) end → test c ≡ false
first_fails test low count end c e from before =
    let found = first_found test low count end e in
    let to : unwrap_or (least test low count) end ≤ end = found.to in
    false_from_ne_true (test c) (λ passes. absurd (omega (arith, before, first_most test low count end c e from (omega (arith, before, to)) passes)))

-- ---- ranges

range_split : (a d e : ℕ) → range_with_len a (d + e) ≡ range_with_len a d ++ range_with_len (a + d) e
range_split a zero e =
    let n : 0 + e ≡ e = omega arith in
    let at : a ≡ a + 0 = omega arith in
    ap (range_with_len a) n ∙ ap (λ k. range_with_len k e) at
range_split a (suc d) e =
    let n : suc d + e ≡ suc (d + e) = omega arith in
    let at : a + 1 + d ≡ a + suc d = omega arith in
    ap (range_with_len a) n ∙ ap (λ (xs : List ℕ). a ∷ xs) (range_split (a + 1) d e)
    ∙ ap (λ k. a ∷ (range_with_len (a + 1) d ++ range_with_len k e)) at

none_left : (test : ℕ → Bool) (a d : ℕ) → ((c : ℕ) → a ≤ c → c < a + d → test c ≡ false) → filter test (range_with_len a d) ≡ []
none_left test a zero fails = refl
none_left test a (suc d) fails =
    cond-false (test a) (a ∷ filter test (range_with_len (a + 1) d)) (filter test (range_with_len (a + 1) d)) (fails a (omega arith) (omega arith))
    ∙ none_left test (a + 1) d (λ c from to. fails c (omega arith) (omega arith))

module _ (is_covered : ℕ → Bool) (width : ℕ) where
  is_edge : ℕ → Bool
  is_edge = is_left_edge is_covered

  -- a column that is not covered, or whose left neighbour is covered, is not a left edge
  uncovered : (c : ℕ) → is_covered c ≡ false → is_left_edge is_covered c ≡ false
  uncovered zero off = off
  uncovered (suc c) off = and_left (is_covered (suc c)) (not (is_covered c)) off

  inner : (c : ℕ) → is_covered c ≡ true → is_left_edge is_covered (suc c) ≡ false
  inner c on = and_right (is_covered (suc c)) (not (is_covered c)) (not_from_true (is_covered c) on)

  -- a left edge is covered, and its left neighbour is not
  edge_covered : (c : ℕ) → is_left_edge is_covered c ≡ true → is_covered c ≡ true
  edge_covered zero on = on
  edge_covered (suc c) on = (and_parts (is_covered (suc c)) (not (is_covered c)) on).0

  edge_bare : (c : ℕ) → is_left_edge is_covered (suc c) ≡ true → is_covered c ≡ false
  edge_bare c on = not-true (is_covered c) (and_parts (is_covered (suc c)) (not (is_covered c)) on).1

  pub starts_fresh : (c : ℕ) → is_covered c ≡ false → is_left_edge is_covered c ≡ is_covered c
  starts_fresh c off = uncovered c off ∙ sym off

  -- columns without left edges are skipped
  over : (a b : ℕ) → a ≤ b → b ≤ width → ((c : ℕ) → a ≤ c → c < b → is_left_edge is_covered c ≡ false) → intervals_from is_covered width a ≡ intervals_from is_covered width b
  over a b forward inside none =
      let n : width - a ≡ (b - a) + (width - b) = omega arith in
      let at : a + (b - a) ≡ b = omega arith in
      ap (map (span_at is_covered width))
      (ap (λ k. filter (is_left_edge is_covered) (range_with_len a k)) n
      ∙ ap (filter (is_left_edge is_covered)) (range_split a (b - a) (width - b))
      ∙ filter-append (is_left_edge is_covered) (range_with_len a (b - a)) (range_with_len (a + (b - a)) (width - b))
      ∙ ap (λ (xs : List ℕ). xs ++ filter (is_left_edge is_covered) (range_with_len (a + (b - a)) (width - b)))
      (none_left (is_left_edge is_covered) a (b - a) (λ c from to. none c from (omega arith)))
      ∙ ap (λ k. filter (is_left_edge is_covered) (range_with_len k (width - b))) at)

  -- columns that are not covered are skipped
  pub over_gap : (a b : ℕ) → a ≤ b → b ≤ width → ((c : ℕ) → a ≤ c → c < b → is_covered c ≡ false) → intervals_from is_covered width a ≡ intervals_from is_covered width b
  over_gap a b forward inside off = over a b forward inside (λ c from to. uncovered c (off c from to))

  pub none_from : intervals_from is_covered width width ≡ []
  none_from =
      let n : width - width ≡ 0 = omega arith in
      ap (λ k. map (span_at is_covered width) (filter (is_left_edge is_covered) (range_with_len width k))) n

  -- from a left edge on, the columns up to the first one that is not covered are a span
  pub one_span : (a b : ℕ) → is_left_edge is_covered a ≡ true → a < b → b ≤ width → ((c : ℕ) → a ≤ c → c < b → is_covered c ≡ true)
      → (b < width → is_covered b ≡ false) → intervals_from is_covered width a ≡ record { left = a; right = b } ∷ intervals_from is_covered width b
  one_span a b edge some inside on off =
      let n : width - a ≡ suc (width - (a + 1)) = omega arith in
      let rest : List ℕ = filter (is_left_edge is_covered) (range_with_len (a + 1) (width - (a + 1))) in
      let right : unwrap_or (least (λ c. not (is_covered c)) a (width - a)) width ≡ b =
      first (λ c. not (is_covered c)) a (width - a) width b (omega arith) (omega arith) inside (λ c from to. not_from_true (is_covered c) (on c from to))
      (λ below. not_from_false (is_covered b) (off below)) in
      ap (λ k. map (span_at is_covered width) (filter (is_left_edge is_covered) (range_with_len a k))) n
      ∙ ap (map (span_at is_covered width)) (cond-true (is_left_edge is_covered a) (a ∷ rest) rest edge)
      ∙ ap (λ k. record { left = a; right = k } ∷ map (span_at is_covered width) rest) right
      ∙ ap (λ (spans : List Span). record { left = a; right = b } ∷ spans)
      (over (a + 1) b (omega arith) inside (λ c from to. after c from (on (c - 1) (omega arith) (omega arith))))
    where
      after : (c : ℕ) → a + 1 ≤ c → is_covered (c - 1) ≡ true → is_left_edge is_covered c ≡ false
      after zero from before = absurd (omega arith)
      after (suc c) from before =
          let k : suc c - 1 ≡ c = omega arith in
          inner c (ap is_covered (sym k) ∙ before)

  -- ---- the intervals are maximal

  abbrev span : ℕ → Span
  span = span_at is_covered width

  -- all columns of a span are covered
  in_span : (left c : ℕ) → left < width → has_column c (span left) ≡ true → is_covered c ≡ true
  in_span left c below has =
      let parts = and_parts (nat_le left c) (nat_lt c (span left).right) has in
      not-false (is_covered c)
      (first_fails (λ k. not (is_covered k)) left (width - left) width c (omega arith) (leb-true left c parts.0) (ltb-true c (span left).right parts.1))

  -- a span ends at or before the next column that is not covered
  ends_by : (left c : ℕ) → left ≤ c → c < width → is_covered c ≡ false → (span left).right ≤ c
  ends_by left c from below off =
      first_most (λ k. not (is_covered k)) left (width - left) width c (omega arith) from below (not_from_false (is_covered c) off)

  -- a span continues as long as columns are covered
  goes_on : (left c : ℕ) → left ≤ c → c < width → ((k : ℕ) → left ≤ k → k ≤ c → is_covered k ≡ true) → c < (span left).right
  goes_on left c from below on =
      let found = first_found (λ k. not (is_covered k)) left (width - left) width (omega arith) in
      let right : ℕ = unwrap_or (least (λ k. not (is_covered k)) left (width - left)) width in
      let after : left ≤ right = found.from in
      elim (cases_lt c right) [
        | inl fine ↦ fine
        | inr short ↦
            absurd (both_ways (is_covered right) (not-true (is_covered right) (found.passes (omega arith))) (on right after short))
      ]

  right_within : (left : ℕ) → left < width → (span left).right ≤ width
  right_within left below = (first_found (λ k. not (is_covered k)) left (width - left) width (omega arith)).to

  -- the spans of the left edges of a range
  abbrev in_range : ℕ → ℕ → List Span
  in_range a d = map span (filter (is_left_edge is_covered) (range_with_len a d))

  with_edge : (a d : ℕ) → is_left_edge is_covered a ≡ true → in_range a (suc d) ≡ span a ∷ in_range (a + 1) d
  with_edge a d edge =
      let rest : List ℕ = filter (is_left_edge is_covered) (range_with_len (a + 1) d) in
      ap (map span) (cond-true (is_left_edge is_covered a) (a ∷ rest) rest edge)

  without_edge : (a d : ℕ) → is_left_edge is_covered a ≡ false → in_range a (suc d) ≡ in_range (a + 1) d
  without_edge a d none =
      let rest : List ℕ = filter (is_left_edge is_covered) (range_with_len (a + 1) d) in
      ap (map span) (cond-false (is_left_edge is_covered a) (a ∷ rest) rest none)

  -- each span of a range has columns, and none past the last one
  all_some : (a d : ℕ) → a + d ≡ width → All (λ s. s.left < s.right) (in_range a d)
  all_some a zero e = All-nil (λ (s : Span). s.left < s.right)
  all_some a (suc d) e =
      let P : Span → Type 0 = λ s. s.left < s.right in
      let rest : All P (in_range (a + 1) d) = all_some (a + 1) d (omega arith) in
      elim (cases_Bool (is_left_edge is_covered a)) [
        | inl edge ↦
            let here : a < (span a).right = goes_on a a (omega arith) (omega arith) (λ k from to.
            let same : a ≡ k = omega arith in ap is_covered (sym same) ∙ edge_covered a edge) in
            subst (λ (spans : List Span). All P spans) (sym (with_edge a d edge)) (All-cons P (span a) (in_range (a + 1) d) here rest)
        | inr none ↦ subst (λ (spans : List Span). All P spans) (sym (without_edge a d none)) rest
      ]

  all_within : (a d : ℕ) → a + d ≡ width → All (λ s. s.right ≤ width) (in_range a d)
  all_within a zero e = All-nil (λ (s : Span). s.right ≤ width)
  all_within a (suc d) e =
      let P : Span → Type 0 = λ s. s.right ≤ width in
      let rest : All P (in_range (a + 1) d) = all_within (a + 1) d (omega arith) in
      elim (cases_Bool (is_left_edge is_covered a)) [
        | inl edge ↦
            subst (λ (spans : List Span). All P spans) (sym (with_edge a d edge))
            (All-cons P (span a) (in_range (a + 1) d) (right_within a (omega arith)) rest)
        | inr none ↦ subst (λ (spans : List Span). All P spans) (sym (without_edge a d none)) rest
      ]

  -- the next left edge after a span is past its right end
  past_bare : (left b : ℕ) → left < b → b < width → is_covered left ≡ true → is_left_edge is_covered b ≡ true → (span left).right < b
  past_bare left zero before below on edge = absurd (omega arith)
  past_bare left (suc b) before below on edge =
      let off : is_covered b ≡ false = edge_bare b edge in
      let end : (span left).right ≤ b = ends_by left b (omega arith) (omega arith) off in
      omega (arith, end)

  apart_after : (left a d : ℕ) → left < a → a + d ≡ width → is_covered left ≡ true → AreApart (in_range a d) → AreApart (span left ∷ in_range a d)
  apart_after left a zero before e on apart = tt
  apart_after left a (suc d) before e on apart =
      elim (cases_Bool (is_left_edge is_covered a)) [
        | inl edge ↦
            subst (λ (spans : List Span). AreApart (span left ∷ spans)) (sym (with_edge a d edge))
            (past_bare left a before (omega arith) on edge, subst (λ (spans : List Span). AreApart spans) (with_edge a d edge) apart)
        | inr none ↦
            subst (λ (spans : List Span). AreApart (span left ∷ spans)) (sym (without_edge a d none))
            (apart_after left (a + 1) d (omega arith) (omega arith) on (subst (λ (spans : List Span). AreApart spans) (without_edge a d none) apart))
      ]

  all_apart : (a d : ℕ) → a + d ≡ width → AreApart (in_range a d)
  all_apart a zero e = tt
  all_apart a (suc d) e =
      let rest : AreApart (in_range (a + 1) d) = all_apart (a + 1) d (omega arith) in
      elim (cases_Bool (is_left_edge is_covered a)) [
        | inl edge ↦
            subst (λ (spans : List Span). AreApart spans) (sym (with_edge a d edge))
            (apart_after a (a + 1) d (omega arith) (omega arith) (edge_covered a edge) rest)
        | inr none ↦ subst (λ (spans : List Span). AreApart spans) (sym (without_edge a d none)) rest
      ]

  -- a column of one of the spans is covered
  any_covered : (a d c : ℕ) → a + d ≡ width → list_any (has_column c) (in_range a d) ≡ true → is_covered c ≡ true
  any_covered a zero c e any = absurd (both_ways false refl any)
  any_covered a (suc d) c e any =
      elim (cases_Bool (is_left_edge is_covered a)) [
        | inl edge ↦
            elim (or_cases (has_column c (span a)) (list_any (has_column c) (in_range (a + 1) d)) (ap (list_any (has_column c)) (sym (with_edge a d edge)) ∙ any)) [
              | inl here ↦ in_span a c (omega arith) here
              | inr later ↦ any_covered (a + 1) d c (omega arith) later
            ]
        | inr none ↦ any_covered (a + 1) d c (omega arith) (ap (list_any (has_column c)) (sym (without_edge a d none)) ∙ any)
      ]

  -- a column in the span of a left edge in a range is in one of the spans of the range
  any_of : (a d left c : ℕ) → a ≤ left → left < a + d → is_left_edge is_covered left ≡ true → has_column c (span left) ≡ true → list_any (has_column c) (in_range a d) ≡ true
  any_of a zero left c from to edge has = absurd (omega arith)
  any_of a (suc d) left c from to edge has =
      elim (cases_eq a left) [
        | inl same ↦
            let here : is_left_edge is_covered a ≡ true = ap (is_left_edge is_covered) same ∙ edge in
            ap (list_any (has_column c)) (with_edge a d here)
            ∙ or_left (has_column c (span a)) (list_any (has_column c) (in_range (a + 1) d)) (ap (λ k. has_column c (span k)) same ∙ has)
        | inr other ↦
            let later : list_any (has_column c) (in_range (a + 1) d) ≡ true = any_of (a + 1) d left c (omega arith) (omega arith) edge has in
            elim (cases_Bool (is_left_edge is_covered a)) [
              | inl here ↦
                  ap (list_any (has_column c)) (with_edge a d here)
                  ∙ or_right (has_column c (span a)) (list_any (has_column c) (in_range (a + 1) d)) later
              | inr none ↦ ap (list_any (has_column c)) (without_edge a d none) ∙ later
            ]
      ]

  -- the left edge of the interval that holds a covered column
  record EdgeOf (c : ℕ) : Type 0 where
    left : ℕ
    from : left ≤ c
    edge : is_left_edge is_covered left ≡ true
    on : (k : ℕ) → left ≤ k → k ≤ c → is_covered k ≡ true

  edge_of : (c : ℕ) → is_covered c ≡ true → EdgeOf c
  edge_of zero here = record {
    left = 0;
    from = omega arith;
    edge = here;
    on = λ k from to. let same : k ≡ 0 = omega arith in ap is_covered same ∙ here;
  }
  edge_of (suc c) here =
      elim (cases_Bool (is_covered c)) [
        | inl before ↦
            let w : EdgeOf c = edge_of c before in
            let from : w.left ≤ c = w.from in
            record {
              left = w.left;
              from = omega (arith, from);
              edge = w.edge;
              on = λ k after to. elim (cases_eq k (suc c)) [
                | inl last ↦ ap is_covered last ∙ here
                | inr other ↦ w.on k after (omega arith)
              ];
            }
        | inr bare ↦ record {
          left = suc c;
          from = omega arith;
          edge = and_from (is_covered (suc c)) (not (is_covered c)) here (not_from_false (is_covered c) bare);
          on = λ k after to. let same : k ≡ suc c = omega arith in ap is_covered same ∙ here;
        }
      ]

  covered_any : (c : ℕ) → c < width → is_covered c ≡ true → list_any (has_column c) (in_range 0 width) ≡ true
  covered_any c below here =
      let w : EdgeOf c = edge_of c here in
      let from : w.left ≤ c = w.from in
      any_of 0 width w.left c (omega arith) (omega (arith, from)) w.edge
      (and_from (nat_le w.left c) (nat_lt c (span w.left).right) (le-leb w.left c from) (lt-ltb c (span w.left).right (goes_on w.left c from below w.on)))

  same_test : (c : ℕ) → c < width → list_any (has_column c) (in_range 0 width) ≡ is_covered c
  same_test c below =
      elim (cases_Bool (is_covered c)) [
        | inl on ↦ covered_any c below on ∙ sym on
        | inr off ↦
            false_from_ne_true (list_any (has_column c) (in_range 0 width))
            (λ any. both_ways (is_covered c) off (any_covered 0 width c (omega arith) any))
            ∙ sym off
      ]

  pub are_maximal : AreMaximal is_covered width (intervals_from is_covered width 0)
  are_maximal =
      let n : width - 0 ≡ width = omega arith in
      subst (λ k. AreMaximal is_covered width (in_range 0 k)) (sym n) (record {
        some = all_some 0 width (omega arith);
        covered = same_test;
        within = all_within 0 width (omega arith);
        apart = all_apart 0 width (omega arith);
      })
