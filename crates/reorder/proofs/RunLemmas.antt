-- Applying L2 to level runs, each represented by its start, results in the same order as applying it to characters.
use Rattle.std.proofs.Common.{◌≡◌, ℕ, zero, suc, ◌+◌, ◌-◌, ◌%◌, ◌<◌, ◌≤◌, ◌==◌, max, Bool, true, false, List, [], ◌∷◌, ◌++◌, length}
use Rattle.std.proofs.Common.{◌≡◌, ℕ, zero, suc, ◌+◌, ◌-◌, ◌%◌, ◌<◌, ◌≤◌, ◌==◌, nat_le, max, min, Bool, true, false, List, [], ◌∷◌, ◌++◌, length}
use Rattle.std.proofs.Common.{get_or, set, map, take, drop, reverse, Option, Some, None, unwrap_or, if◌then◌else◌}
use Rattle.std.proofs.Common.{refl, sym, ap, ap₂, subst, ◌∙◌, inl, inr, arith, append_assoc, zero-add}
use borrow.Rule.Slice.PartMut.{put_mid, same_len_mid}
use Rattle.std.specs.List.{flat_map, fold, list_all, list_any, range_with_len}
use Rattle.std.proofs.lemmas.List.Folds.{list_all_at}
use Rattle.std.specs.List.Sorted.{IsPermutation}
use Rattle.std.proofs.lemmas.Bool.{cases_Bool, cases_eq, cases_lt, cond-true, cond-false, and_from, and_parts, both_ways, eqb-true, eq-eqb, leb-true, leb-false, ne_eqb, or_left, or_right}
use Rattle.std.proofs.lemmas.List.{append-nil, drop-drop, drop_all, get_or-drop, get_or-take, length-append, length-drop, length-map, length-reverse, length-set, length-take-le, map-append}
use Rattle.std.proofs.lemmas.List.{reverse-append, reverse-reverse, take-append-drop, take-take, take_all, take_more, take_more_set}
use Rattle.std.proofs.lemmas.List.Concat.{flat_map-append}
use Rattle.std.proofs.lemmas.List.FromFn.{length-range_with_len}
use Rattle.std.proofs.lemmas.List.Sorted.{IsPermutation-refl, length_permutation}
use Rattle.std.proofs.lemmas.Slice.{take-put_mid, take-put_mid_below}
use Rattle.std.proofs.Math.Seq.{drop-append_seam, drop-cons}
use Rattle.ucd.specs.Tables.{mirror_of}
use Rattle.ucd.specs.declared.tables.Tables.{Tables}
use Rattle.ucd.specs.Least.{least}
use Rattle.ucd.specs.Within.{AreWithin}
use Rattle.reorder.specs.LevelRuns.{level_run_len, run_at, run_shown, same_len, turned, turned_by}
use Rattle.reorder.specs.Mirroring.{mirrored, visual_chars}
use Rattle.reorder.specs.Order.{has_odd, highest, is_at_least, is_odd, lowest_odd, order_by, order_of, places, reverse_runs, reversed_from}
use Rattle.reorder.proofs.LevelLemmas.{Extremes, Extremes-next}
use Rattle.reorder.proofs.OrderLemmas.{reversed_permute}

-- ---- lists whose items all have the same result in a test

abbrev pub Each : (ℕ → Bool) → Bool → List ℕ → Type 0
Each test b [] = Unit {0}
Each test b (x ∷ xs) = (test x ≡ b) × Each test b xs

Each-append : (test : ℕ → Bool) (b : Bool) (xs ys : List ℕ) → Each test b xs → Each test b ys → Each test b (xs ++ ys)
Each-append test b [] ys one other = other
Each-append test b (x ∷ xs) ys one other = (one.0, Each-append test b xs ys one.1 other)

pub Each-reverse : (test : ℕ → Bool) (b : Bool) (xs : List ℕ) → Each test b xs → Each test b (reverse xs)
Each-reverse test b [] each = tt
Each-reverse test b (x ∷ xs) each =
    subst (λ (ys : List ℕ). Each test b ys) (sym (reverse-append (x ∷ []) xs))
    (Each-append test b (reverse xs) (x ∷ []) (Each-reverse test b xs each.1) (each.0, tt))

-- ---- blocks of items that all pass a test, or all fail it

pub all_pass : (test : ℕ → Bool) (run xs ys : List ℕ) → Each test true xs → reverse_runs test run (xs ++ ys) ≡ reverse_runs test (reverse xs ++ run) ys
all_pass test run [] ys each = refl
all_pass test run (x ∷ xs) ys each =
    cond-true (test x) (reverse_runs test (x ∷ run) (xs ++ ys)) (run ++ x ∷ reverse_runs test [] (xs ++ ys)) each.0
    ∙ all_pass test (x ∷ run) xs ys each.1
    ∙ ap (λ front. reverse_runs test front ys) (sym (append_assoc (reverse xs) (x ∷ []) run) ∙ ap (λ front. front ++ run) (sym (reverse-append (x ∷ []) xs)))

none_pass : (test : ℕ → Bool) (xs ys : List ℕ) → Each test false xs → reverse_runs test [] (xs ++ ys) ≡ xs ++ reverse_runs test [] ys
none_pass test [] ys each = refl
none_pass test (x ∷ xs) ys each =
    cond-false (test x) (reverse_runs test (x ∷ []) (xs ++ ys)) (x ∷ reverse_runs test [] (xs ++ ys)) each.0
    ∙ ap (λ zs. x ∷ zs) (none_pass test xs ys each.1)

block_ends : (test : ℕ → Bool) (run xs ys : List ℕ) → Each test false xs → 0 < length xs → reverse_runs test run (xs ++ ys) ≡ run ++ (xs ++ reverse_runs test [] ys)
block_ends test run [] ys each some = absurd (omega arith)
block_ends test run (x ∷ xs) ys each some =
    cond-false (test x) (reverse_runs test (x ∷ run) (xs ++ ys)) (run ++ x ∷ reverse_runs test [] (xs ++ ys)) each.0
    ∙ ap (λ zs. run ++ x ∷ zs) (none_pass test xs ys each.1)

-- In each block, all items pass the test or all fail it. In `new`, the blocks that pass are reversed, and the others
-- are unchanged.
record Blocks (test : ℕ → Bool) (old new : ℕ → List ℕ) : Type 0 where
  some : (s : ℕ) → 0 < length (old s)
  each : (s : ℕ) → Each test (test s) (old s)
  passed : (s : ℕ) → test s ≡ true → new s ≡ reverse (old s)
  failed : (s : ℕ) → test s ≡ false → new s ≡ old s

blocks_reversed : (test : ℕ → Bool) (old new : ℕ → List ℕ) (run items : List ℕ) → Blocks test old new
    → reverse_runs test (flat_map new run) (flat_map old items) ≡ flat_map new (reverse_runs test run items)
blocks_reversed test old new run [] w = refl
blocks_reversed test old new run (s ∷ items) w =
    let rest : List ℕ = flat_map old items in
    elim (cases_Bool (test s)) [
      | inl on ↦
          all_pass test (flat_map new run) (old s) rest (subst (λ (b : Bool). Each test b (old s)) on (w.each s))
          ∙ ap (λ (front : List ℕ). reverse_runs test (front ++ flat_map new run) rest) (sym (w.passed s on))
          ∙ blocks_reversed test old new (s ∷ run) items w
          ∙ ap (flat_map new) (sym (cond-true (test s) (reverse_runs test (s ∷ run) items) (run ++ s ∷ reverse_runs test [] items) on))
      | inr off ↦
          block_ends test (flat_map new run) (old s) rest (subst (λ (b : Bool). Each test b (old s)) off (w.each s)) (w.some s)
          ∙ ap (λ (here : List ℕ). flat_map new run ++ (here ++ reverse_runs test [] rest)) (sym (w.failed s off))
          ∙ ap (λ (after : List ℕ). flat_map new run ++ (new s ++ after)) (blocks_reversed test old new [] items w)
          ∙ sym (flat_map-append new run (s ∷ reverse_runs test [] items))
          ∙ ap (flat_map new) (sym (cond-false (test s) (reverse_runs test (s ∷ run) items) (run ++ s ∷ reverse_runs test [] items) off))
    ]

pub flat_map-ext : (f g : ℕ → List ℕ) (items : List ℕ) → ((s : ℕ) → f s ≡ g s) → flat_map f items ≡ flat_map g items
flat_map-ext f g [] same = refl
flat_map-ext f g (s ∷ items) same = ap (λ (front : List ℕ). front ++ flat_map f items) (same s) ∙ ap (λ (rest : List ℕ). g s ++ rest) (flat_map-ext f g items same)

-- ---- a level run is such a block

pub odd_next : (d : ℕ) → is_odd d ≡ true → is_odd (d + 1) ≡ false
odd_next d odd =
    let e : d % 2 ≡ 1 = eqb-true (d % 2) 1 odd in
    ne_eqb ((d + 1) % 2) 1 (λ (f : (d + 1) % 2 ≡ 1). omega arith)

pub even_next : (d : ℕ) → is_odd d ≡ false → is_odd (d + 1) ≡ true
even_next d even =
    elim (cases_eq (d % 2) 1) [
      | inl e ↦ absurd (both_ways (is_odd d) even (eq-eqb (d % 2) 1 e))
      | inr ne ↦ eq-eqb ((d + 1) % 2) 1 (omega arith)
    ]

module _ (levels : List ℕ) where
  same_level : (test : ℕ → Bool) (level s count : ℕ) (b : Bool) → ((i : ℕ) → get_or levels i 0 ≡ level → test i ≡ b)
      → Each test b (range_with_len s (same_len levels level s count))
  same_level test level s zero b same = tt
  same_level test level s (suc count) b same =
      elim (cases_Bool (get_or levels s 0 == level)) [
        | inl on ↦
            subst (λ (n : ℕ). Each test b (range_with_len s n))
            (sym (cond-true (get_or levels s 0 == level) (suc (same_len levels level (s + 1) count)) zero on))
            (same s (eqb-true (get_or levels s 0) level on), same_level test level (s + 1) count b same)
        | inr off ↦
            subst (λ (n : ℕ). Each test b (range_with_len s n))
            (sym (cond-false (get_or levels s 0 == level) (suc (same_len levels level (s + 1) count)) zero off)) tt
      ]

  one_level : (k s : ℕ) → Each (is_at_least levels k) (is_at_least levels k s) (run_at levels s)
  one_level k s =
      let level : ℕ = get_or levels s 0 in (
        refl,
        same_level (is_at_least levels k) level (s + 1) (length levels - (s + 1)) (is_at_least levels k s)
            (λ i e. ap (nat_le k) e),
      )

  -- the positions of a run after the intervals of all levels from the highest down to k have been reversed
  shown_from : ℕ → ℕ → List ℕ
  shown_from k s = if is_odd (suc (get_or levels s 0) - k) then reverse (run_at levels s) else run_at levels s

  turned_odd : (k s : ℕ) → is_odd (suc (get_or levels s 0) - k) ≡ true → shown_from k s ≡ reverse (run_at levels s)
  unfolding shown_from
  turned_odd k s odd = cond-true (is_odd (suc (get_or levels s 0) - k)) (reverse (run_at levels s)) (run_at levels s) odd

  turned_even : (k s : ℕ) → is_odd (suc (get_or levels s 0) - k) ≡ false → shown_from k s ≡ run_at levels s
  unfolding shown_from
  turned_even k s even = cond-false (is_odd (suc (get_or levels s 0) - k)) (reverse (run_at levels s)) (run_at levels s) even

  low_shown : (k s : ℕ) → is_odd (suc (get_or levels s 0) - k) ≡ is_odd (get_or levels s 0) → shown_from k s ≡ run_shown levels s
  unfolding shown_from
  low_shown k s same = ap (λ (b : Bool). if b then reverse (run_at levels s) else run_at levels s) same

  some_shown : (k s : ℕ) → 0 < length (shown_from k s)
  some_shown k s =
      elim (cases_Bool (is_odd (suc (get_or levels s 0) - k))) [
        | inl odd ↦ omega (arith, ap length (turned_odd k s odd), length-reverse (run_at levels s))
        | inr even ↦ omega (arith, ap length (turned_even k s even))
      ]

  each_shown : (test : ℕ → Bool) (b : Bool) (k s : ℕ) → Each test b (run_at levels s) → Each test b (shown_from k s)
  each_shown test b k s each =
      elim (cases_Bool (is_odd (suc (get_or levels s 0) - k))) [
        | inl odd ↦ subst (λ (xs : List ℕ). Each test b xs) (sym (turned_odd k s odd)) (Each-reverse test b (run_at levels s) each)
        | inr even ↦ subst (λ (xs : List ℕ). Each test b xs) (sym (turned_even k s even)) each
      ]

  one_more : (k s : ℕ) → k ≤ get_or levels s 0 → shown_from k s ≡ reverse (shown_from (suc k) s)
  one_more k s high =
      let run : List ℕ = run_at levels s in
      let d : ℕ = suc (get_or levels s 0) - suc k in
      let next : suc (get_or levels s 0) - k ≡ d + 1 = omega arith in
      elim (cases_Bool (is_odd d)) [
        | inl odd ↦ turned_even k s (ap is_odd next ∙ odd_next d odd) ∙ sym (ap reverse (turned_odd (suc k) s odd) ∙ reverse-reverse run)
        | inr even ↦ turned_odd k s (ap is_odd next ∙ even_next d even) ∙ sym (ap reverse (turned_even (suc k) s even))
      ]

  below : (k s : ℕ) → get_or levels s 0 < k → shown_from k s ≡ run_at levels s
  below k s low =
      let none : suc (get_or levels s 0) - k ≡ 0 = omega arith in
      turned_even k s (ap is_odd none)

  are_blocks : (k : ℕ) → Blocks (is_at_least levels k) (shown_from (suc k)) (shown_from k)
  are_blocks k = record {
    some = λ s. some_shown (suc k) s;
    each = λ s. each_shown (is_at_least levels k) (is_at_least levels k s) (suc k) s (one_level k s);
    passed = λ s on. one_more k s (leb-true k (get_or levels s 0) on);
    failed = λ s off.
        let low : get_or levels s 0 < k = leb-false k (get_or levels s 0) off in
        below k s low ∙ sym (below (suc k) s (omega arith));
  }

  -- reversing the runs, and then the positions in each run, yields the same list as reversing the positions of all runs
  all_turned : (k count : ℕ) (items : List ℕ) → ((s : ℕ) → get_or levels s 0 < k + count)
      → flat_map (shown_from k) (reversed_from levels k count items) ≡ reversed_from levels k count (flat_map (run_at levels) items)
  all_turned k zero items most = flat_map-ext (shown_from k) (run_at levels) items (λ s. below k s (omega (arith, most s)))
  all_turned k (suc count) items most =
      let inner : List ℕ = reversed_from levels (suc k) count items in
      sym (blocks_reversed (is_at_least levels k) (shown_from (suc k)) (shown_from k) [] inner (are_blocks k))
      ∙ ap (reverse_runs (is_at_least levels k) []) (all_turned (suc k) count items (λ s. omega (arith, most s)))

  -- ---- down to the lowest odd level

  -- no level is above the highest one
  most_of : (acc s : ℕ) (others : List ℕ) → (acc ≤ fold max acc others) × (get_or others s 0 ≤ fold max acc others)
  most_of acc s [] = (omega arith, omega arith)
  most_of acc zero (level ∷ others) =
      let after : max acc level ≤ fold max (max acc level) others = (most_of (max acc level) zero others).0 in
      (omega arith, omega arith)
  most_of acc (suc s) (level ∷ others) =
      let after = most_of (max acc level) s others in
      let one : max acc level ≤ fold max (max acc level) others = after.0 in
      (omega arith, after.1)

  pub level_within : (s : ℕ) → get_or levels s 0 < suc (highest levels)
  level_within s = omega (arith, (most_of 0 s levels).1)

-- the result of `least` is in the range and passes the test, and no smaller number of the range passes
pub least_is : (p : ℕ → Bool) (low count k : ℕ) → least p low count ≡ Some k → (p k ≡ true) × (k < low + count) × ((m : ℕ) → low ≤ m → m < k → p m ≡ false)
least_is p low zero k is = absurd (cc)
least_is p low (suc count) k is =
    elim (cases_Bool (p low)) [
      | inl on ↦
          let e : Some low ≡ Some k = sym (cond-true (p low) (Some low) (least p (suc low) count) on) ∙ is in
          let same : low ≡ k = cc in
          (subst (λ (n : ℕ). p n ≡ true) same on, omega arith, λ m above before. absurd (omega arith))
      | inr off ↦
          let later = least_is p (suc low) count k (sym (cond-false (p low) (Some low) (least p (suc low) count) off) ∙ is) in
          let within : k < suc low + count = later.1 in (
            later.0,
            omega arith,
            λ m above before.
                elim (cases_eq low m) [ inl e ↦ subst (λ (n : ℕ). p n ≡ false) e off | inr ne ↦ later.2 m (omega arith) before ],
          )
    ]

-- if a number of the range passes, `least` finds one
least_some : (p : ℕ → Bool) (low count k : ℕ) → low ≤ k → k < low + count → p k ≡ true → least p low count ≡ None → ⊥
least_some p low zero k from to here none = absurd (omega arith)
least_some p low (suc count) k from to here none =
    elim (cases_Bool (p low)) [
      | inl on ↦
          let e : Some low ≡ None = sym (cond-true (p low) (Some low) (least p (suc low) count) on) ∙ none in
          cc
      | inr off ↦
          elim (cases_eq low k) [
            | inl e ↦ both_ways (p k) (subst (λ (n : ℕ). p n ≡ false) e off) here
            | inr ne ↦ least_some p (suc low) count k (omega arith) (omega arith) here
                (sym (cond-false (p low) (Some low) (least p (suc low) count) off) ∙ none)
          ]
    ]

stands : (levels : List ℕ) (s : ℕ) → 0 < get_or levels s 0 → list_any (λ other. other == get_or levels s 0) levels ≡ true
stands [] s some = absurd (omega arith)
stands (level ∷ levels) zero some = or_left (level == level) (list_any (λ other. other == level) levels) (eq-eqb level level refl)
stands (level ∷ levels) (suc s) some = or_right (level == get_or levels s 0) (list_any (λ other. other == get_or levels s 0) levels) (stands levels s some)

module _ (levels : List ℕ) where
  none_below : (low s : ℕ) → lowest_odd levels ≡ Some low → is_odd (get_or levels s 0) ≡ true → low ≤ get_or levels s 0
  none_below low s is odd =
      let level : ℕ = get_or levels s 0 in
      let e : level % 2 ≡ 1 = eqb-true (level % 2) 1 odd in
      let here : has_odd levels level ≡ true =
      and_from (is_odd level) (list_any (λ other. other == level) levels) odd (stands levels s (omega arith)) in
      elim (cases_lt level low) [
        | inl less ↦ absurd (both_ways (has_odd levels level) ((least_is (has_odd levels) 0 (suc (highest levels)) low is).2 level (omega arith) less) here)
        | inr more ↦ more
      ]

  pub no_odd : (s : ℕ) → lowest_odd levels ≡ None → is_odd (get_or levels s 0) ≡ false
  no_odd s none =
      let level : ℕ = get_or levels s 0 in
      elim (cases_Bool (is_odd level)) [
        | inl odd ↦
            let e : level % 2 ≡ 1 = eqb-true (level % 2) 1 odd in
            let here : has_odd levels level ≡ true =
            and_from (is_odd level) (list_any (λ other. other == level) levels) odd (stands levels s (omega arith)) in
            absurd (least_some (has_odd levels) 0 (suc (highest levels)) level (omega arith) (omega (arith, level_within levels s)) here none)
        | inr even ↦ even
      ]

  -- from the highest level down to the lowest odd level, a run is reversed an odd number of times if and only
  -- if its level is odd
  pub odd_turned : (low s : ℕ) → lowest_odd levels ≡ Some low → is_odd (suc (get_or levels s 0) - low) ≡ is_odd (get_or levels s 0)
  odd_turned low s is =
      let level : ℕ = get_or levels s 0 in
      let found = least_is (has_odd levels) 0 (suc (highest levels)) low is in
      let low_odd : low % 2 ≡ 1 = eqb-true (low % 2) 1 (and_parts (is_odd low) (list_any (λ other. other == low) levels) found.0).0 in
      elim (cases_Bool (is_odd level)) [
        | inl odd ↦
            let e : level % 2 ≡ 1 = eqb-true (level % 2) 1 odd in
            let above : low ≤ level = none_below low s is odd in
            eq-eqb ((suc level - low) % 2) 1 (omega arith) ∙ sym odd
        | inr even ↦
            let e : level % 2 ≡ 1 → ⊥ = λ f. both_ways (is_odd level) even (eq-eqb (level % 2) 1 f) in
            ne_eqb ((suc level - low) % 2) 1 (λ f. e (omega arith)) ∙ sym even
      ]

  by_lowest : (starts : List ℕ) (lowest : Option ℕ) → lowest_odd levels ≡ lowest → flat_map (run_at levels) starts ≡ places levels
      → flat_map (run_shown levels) (turned_by levels starts lowest) ≡ order_by levels lowest
  by_lowest starts None none is =
      flat_map-ext (run_shown levels) (run_at levels) starts
      (λ s. cond-false (is_odd (get_or levels s 0)) (reverse (run_at levels s)) (run_at levels s) (no_odd s none)) ∙ is
  by_lowest starts (Some low) some is =
      let found = least_is (has_odd levels) 0 (suc (highest levels)) low some in
      let within : low < suc (highest levels) = omega (arith, found.1) in
      flat_map-ext (run_shown levels) (shown_from levels low) (reversed_from levels low (suc (highest levels) - low) starts)
      (λ s. sym (low_shown levels low s (odd_turned low s some)))
      ∙ all_turned levels low (suc (highest levels) - low) starts (λ s. omega (arith, level_within levels s))
      ∙ ap (reversed_from levels low (suc (highest levels) - low)) is

  pub runs_in_order : (starts : List ℕ) → flat_map (run_at levels) starts ≡ places levels → flat_map (run_shown levels) (turned levels starts) ≡ order_of levels
  unfolding turned order_of
  runs_in_order starts is = by_lowest starts (lowest_odd levels) refl is

  by_places : (lowest : Option ℕ) → turned_by levels (places levels) lowest ≡ order_by levels lowest
  by_places None = refl
  by_places (Some low) = refl

  -- replacing each of the reordered runs with its positions yields the visual order of the characters
  pub places_in_order : turned levels (places levels) ≡ order_of levels
  unfolding turned order_of
  places_in_order = by_places (lowest_odd levels)

  turned_by_permutes : (items : List ℕ) (lowest : Option ℕ) → IsPermutation items (turned_by levels items lowest)
  turned_by_permutes items None = IsPermutation-refl items
  turned_by_permutes items (Some low) = reversed_permute levels low (suc (highest levels) - low) items

  pub turned_permutes : (items : List ℕ) → IsPermutation items (turned levels items)
  unfolding turned
  turned_permutes items = turned_by_permutes items (lowest_odd levels)

  pub length-turned : (items : List ℕ) → length (turned levels items) ≡ length items
  length-turned items = length_permutation items (turned levels items) (turned_permutes items)

-- ---- the scan that finds the runs

pub range_append : (a n m : ℕ) → range_with_len a n ++ range_with_len (a + n) m ≡ range_with_len a (n + m)
range_append a zero m = ap₂ range_with_len (omega arith) (omega arith)
range_append a (suc n) m =
    let e : a + suc n ≡ a + 1 + n = omega arith in
    let more : suc n + m ≡ suc (n + m) = omega arith in
    ap (λ b. a ∷ (range_with_len (a + 1) n ++ range_with_len b m)) e ∙ ap (λ xs. a ∷ xs) (range_append (a + 1) n m) ∙ ap (range_with_len a) (sym more)

within_more : (n s : ℕ) (xs : List ℕ) → AreWithin n xs → s < n → AreWithin n (xs ++ s ∷ [])
within_more n s [] within below zero short = below
within_more n s [] within below (suc k) short = absurd (omega arith)
within_more n s (x ∷ xs) within below zero short = within zero (omega arith)
within_more n s (x ∷ xs) within below (suc k) short =
    within_more n s xs (λ j inside. within (suc j) (omega arith)) below k (omega arith)

-- the first `count` items of the list are the starts of the level runs before the index `start`
pub record RunsFound (levels items : List ℕ) (count start : ℕ) : Type 0 where
  pub few : count ≤ start
  pub within : start ≤ length levels
  pub sizes : length items ≡ length levels
  pub runs : flat_map (run_at levels) (take count items) ≡ range_with_len 0 start
  pub places_within : AreWithin (length levels) (take count items)

pub RunsFound-start : (levels items : List ℕ) → length items ≡ length levels → RunsFound levels items 0 0
RunsFound-start levels items size = record {
  few = omega arith;
  within = omega arith;
  sizes = size;
  runs = refl;
  places_within = λ k short. absurd (omega arith);
}

pub RunsFound-next : (levels items : List ℕ) (count start len : ℕ) → RunsFound levels items count start → start < length levels
    → len ≡ level_run_len levels start → start + len ≤ length levels → RunsFound levels (set items count start) (count + 1) (start + len)
RunsFound-next levels items count start len w below len_is within =
    let inside : count < length items = omega (arith, w.few, w.sizes) in
    let more : take (count + 1) (set items count start) ≡ take count items ++ start ∷ [] = take_more_set items count start inside in
    record {
      few = omega (arith, w.few);
      within = within;
      sizes = length-set items count start ∙ w.sizes;
      runs = ap (flat_map (run_at levels)) more
          ∙ flat_map-append (run_at levels) (take count items) (start ∷ [])
          ∙ ap (λ (front : List ℕ). front ++ (run_at levels start ++ [])) w.runs
          ∙ ap (λ (last : List ℕ). range_with_len 0 start ++ last) (append-nil (run_at levels start) ∙ ap (range_with_len start) (sym len_is))
          ∙ ap (λ (s : ℕ). range_with_len 0 start ++ range_with_len s len) (sym (zero-add start))
          ∙ range_append 0 start len;
      places_within = subst (λ (xs : List ℕ). AreWithin (length levels) xs) (sym more)
          (within_more (length levels) start (take count items) w.places_within below);
    }

pub RunsFound-end : (levels items : List ℕ) (count start : ℕ) → RunsFound levels items count start → length levels ≤ start
    → flat_map (run_at levels) (take count items) ≡ places levels
RunsFound-end levels items count start w past =
    let e : start ≡ length levels = omega (arith, w.within) in
    w.runs ∙ ap (range_with_len 0) e

-- ---- the loop that writes the positions of the runs, from the last run to the first

length-run_shown : (levels : List ℕ) (s : ℕ) → length (run_shown levels s) ≡ level_run_len levels s
length-run_shown levels s =
    elim (cases_Bool (is_odd (get_or levels s 0))) [
      | inl odd ↦ ap length (cond-true (is_odd (get_or levels s 0)) (reverse (run_at levels s)) (run_at levels s) odd)
          ∙ length-reverse (run_at levels s) ∙ length-range_with_len s (level_run_len levels s)
      | inr even ↦ ap length (cond-false (is_odd (get_or levels s 0)) (reverse (run_at levels s)) (run_at levels s) even)
          ∙ length-range_with_len s (level_run_len levels s)
    ]

-- the positions computed from a run's start and length are the positions of the run in visual order
pub is_run_shown : (levels xs : List ℕ) (s n len : ℕ) → n ≡ len → len ≡ level_run_len levels s
    → xs ≡ (if is_odd (get_or levels s 0) then reverse (range_with_len s n) else range_with_len s n) → xs ≡ run_shown levels s
is_run_shown levels xs s n len e len_is is =
    is ∙ ap (λ (m : ℕ). if is_odd (get_or levels s 0) then reverse (range_with_len s m) else range_with_len s m) (e ∙ len_is)

-- a line has at least as many characters as runs
runs_few : (levels starts : List ℕ) → length starts ≤ length (flat_map (run_shown levels) starts)
runs_few levels [] = omega arith
runs_few levels (s ∷ starts) =
    omega (arith, length-append (run_shown levels s) (flat_map (run_shown levels) starts), length-run_shown levels s, runs_few levels starts)

-- The positions of all runs except the first `left` have been written at the end of the list. The starts of
-- the first `left` runs are unchanged.
pub record RunsLaid (levels starts old current : List ℕ) (left end : ℕ) : Type 0 where
  pub sizes : length current ≡ length old
  pub below : left ≤ length starts
  pub front : take left current ≡ take left starts
  pub back : drop «end» current ≡ flat_map (run_shown levels) (drop left starts)
  pub place : «end» ≡ length (flat_map (run_shown levels) (take left starts))
  pub within : «end» ≤ length current

pub RunsLaid-start : (levels old : List ℕ) (count : ℕ) → count ≤ length old → length (flat_map (run_shown levels) (take count old)) ≡ length old
    → RunsLaid levels (take count old) old old count (length old)
RunsLaid-start levels old count few whole =
    let size : length (take count old) ≡ count = length-take-le count old few in
    let same : take count (take count old) ≡ take count old = take-take count count old (omega arith) in
    record {
      sizes = refl;
      below = omega (arith, size);
      front = sym same;
      back = drop_all (length old) old (omega arith) ∙ ap (flat_map (run_shown levels)) (sym (drop_all count (take count old) (omega (arith, size))));
      place = sym (ap (λ (xs : List ℕ). length (flat_map (run_shown levels) xs)) same ∙ whole);
      within = omega arith;
    }

-- the loop writes the positions of one more run
module _ (levels starts old current : List ℕ) (left end before len s : ℕ) (w : RunsLaid levels starts old current left «end»)
    (one : before + 1 ≡ left) (s_is : s ≡ get_or current before 0) (len_is : len ≡ level_run_len levels s) where
  left_starts : take left starts ≡ take before starts ++ s ∷ []
  left_starts =
      let inside : before < length starts = omega (arith, w.below) in
      let item : get_or starts before 0 ≡ s =
      sym (get_or-take left starts before 0 (omega arith)) ∙ ap (λ (xs : List ℕ). get_or xs before 0) (sym w.front)
      ∙ get_or-take left current before 0 (omega arith) ∙ sym s_is in
      ap (λ (n : ℕ). take n starts) (sym one) ∙ take_more starts before 0 inside ∙ ap (λ (x : ℕ). take before starts ++ x ∷ []) item

  left_rest : drop before starts ≡ s ∷ drop left starts
  left_rest =
      let inside : before < length starts = omega (arith, w.below) in
      let item : get_or starts before 0 ≡ s =
      sym (get_or-take left starts before 0 (omega arith)) ∙ ap (λ (xs : List ℕ). get_or xs before 0) (sym w.front)
      ∙ get_or-take left current before 0 (omega arith) ∙ sym s_is in
      let e : suc before ≡ left = omega arith in
      drop-cons starts before 0 inside ∙ ap₂ (λ (x : ℕ) (xs : List ℕ). x ∷ xs) item (ap (λ (n : ℕ). drop n starts) e)

  pub run_ends : «end» ≡ length (flat_map (run_shown levels) (take before starts)) + len
  run_ends =
      w.place ∙ ap (λ (xs : List ℕ). length (flat_map (run_shown levels) xs)) left_starts
      ∙ ap length (flat_map-append (run_shown levels) (take before starts) (s ∷ []))
      ∙ length-append (flat_map (run_shown levels) (take before starts)) (run_shown levels s ++ [])
      ∙ ap (λ (n : ℕ). length (flat_map (run_shown levels) (take before starts)) + n)
      (ap length (append-nil (run_shown levels s)) ∙ length-run_shown levels s ∙ sym len_is)

  pub run_fits : (len ≤ «end») × (before ≤ «end» - len)
  run_fits =
      let e = run_ends in
      let few = runs_few levels (take before starts) in
      let size : length (take before starts) ≡ before = length-take-le before starts (omega (arith, w.below)) in
      (omega arith, omega arith)

  laid : (run : List ℕ) → run ≡ run_shown levels s → RunsLaid levels starts old (put_mid («end» - len) len current run) before («end» - len)
  laid run is =
      let at : ℕ = «end» - len in
      let fits = run_fits in
      let size : length run ≡ len = ap length is ∙ length-run_shown levels s ∙ sym len_is in
      let new : List ℕ = put_mid at len current run in
      let whole : at + len ≡ «end» = omega (arith, fits.0) in
      record {
        sizes = same_len_mid at len current run (size ∙ sym (length-take-le len (drop at current) (omega (arith, length-drop at current, whole, w.within)))) ∙ w.sizes;
        below = omega (arith, w.below);
        front = take-put_mid_below at len current run before (fits.1) (omega (arith, fits, w.within))
            ∙ sym (take-take before left current (omega arith)) ∙ ap (take before) w.front ∙ take-take before left starts (omega arith);
        back = ap (λ (n : ℕ). drop n new) (sym (length-take-le at current (omega (arith, w.within))))
            ∙ drop-append_seam (take at current) (run ++ drop len (drop at current))
            ∙ ap₂ ◌++◌ is (drop-drop len at current ∙ ap (λ (n : ℕ). drop n current) whole ∙ w.back)
            ∙ ap (flat_map (run_shown levels)) (sym left_rest);
        place = omega (arith, run_ends);
        within = omega (arith, fits, w.within, w.sizes, same_len_mid at len current run (size ∙ sym (length-take-le len (drop at current) (omega (arith, length-drop at current, whole, w.within)))));
      }

  pub RunsLaid-next : (k : ℕ) (run : List ℕ) → k ≡ len → run ≡ run_shown levels s → RunsLaid levels starts old (put_mid («end» - len) k current run) before («end» - len)
  RunsLaid-next k run e is =
      subst (λ (n : ℕ). RunsLaid levels starts old (put_mid («end» - len) n current run) before («end» - len)) (sym e) (laid run is)

pub RunsLaid-end : (levels starts old current : List ℕ) (left end : ℕ) → RunsLaid levels starts old current left «end» → left ≡ 0
    → current ≡ flat_map (run_shown levels) starts
RunsLaid-end levels starts old current left «end» w none =
    let first : «end» ≡ 0 = w.place ∙ ap (λ (n : ℕ). length (flat_map (run_shown levels) (take n starts))) none in
    ap (λ (n : ℕ). drop n current) (sym first) ∙ w.back ∙ ap (λ (n : ℕ). flat_map (run_shown levels) (drop n starts)) none

-- ---- the length of a run

module _ (levels : List ℕ) (level s : ℕ) where
  same_more : s < length levels → level ≡ get_or levels s 0
      → same_len levels level s (length levels - s) ≡ suc (same_len levels level (s + 1) (length levels - (s + 1)))
  same_more below is =
      let count : length levels - s ≡ suc (length levels - (s + 1)) = omega arith in
      ap (same_len levels level s) count
      ∙ cond-true (get_or levels s 0 == level) (suc (same_len levels level (s + 1) (length levels - (s + 1)))) zero (eq-eqb (get_or levels s 0) level (sym is))

  same_stops : (s < length levels → level ≡ get_or levels s 0 → ⊥) → same_len levels level s (length levels - s) ≡ 0
  same_stops other =
      elim (cases_lt s (length levels)) [
        | inl below ↦
            let count : length levels - s ≡ suc (length levels - (s + 1)) = omega arith in
            ap (same_len levels level s) count
            ∙ cond-false (get_or levels s 0 == level) (suc (same_len levels level (s + 1) (length levels - (s + 1)))) zero
            (ne_eqb (get_or levels s 0) level (λ e. other below (sym e)))
        | inr past ↦
            let none : length levels - s ≡ 0 = omega arith in
            ap (same_len levels level s) none
      ]

-- The state of the scan of a run: the characters from `start` up to `end` have the same level.
pub record AlongRun (levels : List ℕ) (start level «end» : ℕ) : Type 0 where
  pub above : start < «end»
  pub within : «end» ≤ length levels
  pub level_is : level ≡ get_or levels start 0
  pub so_far : suc (same_len levels level (start + 1) (length levels - (start + 1))) ≡ «end» - start + same_len levels level «end» (length levels - «end»)

pub AlongRun-start : (levels : List ℕ) (start level : ℕ) → start < length levels → level ≡ get_or levels start 0 → AlongRun levels start level (start + 1)
AlongRun-start levels start level below is = record {
  above = omega arith;
  within = omega arith;
  level_is = is;
  so_far = omega arith;
}

pub AlongRun-next : (levels : List ℕ) (start level «end» : ℕ) → AlongRun levels start level «end» → «end» < length levels → level ≡ get_or levels «end» 0
    → AlongRun levels start level («end» + 1)
AlongRun-next levels start level «end» w below is = record {
  above = omega (arith, w.above);
  within = omega arith;
  level_is = w.level_is;
  so_far = omega (arith, w.so_far, w.above, same_more levels level «end» below is);
}

-- the run continues over the next m characters if all of them have the run's level
pub AlongRun-group : (levels : List ℕ) (start level «end» m : ℕ) → AlongRun levels start level «end» → «end» + m ≤ length levels
    → ((j : ℕ) → j < m → level ≡ get_or levels («end» + j) 0) → AlongRun levels start level («end» + m)
AlongRun-group levels start level «end» zero w within same =
    let none : «end» ≡ «end» + 0 = omega arith in
    subst (AlongRun levels start level) none w
AlongRun-group levels start level «end» (suc m) w within same =
    let more : «end» + m + 1 ≡ «end» + suc m = omega arith in
    let before : AlongRun levels start level («end» + m) = AlongRun-group levels start level «end» m w (omega (arith, within)) (λ j below. same j (omega (arith, below))) in
    subst (AlongRun levels start level) more (AlongRun-next levels start level («end» + m) before (omega (arith, within)) (same m (omega arith)))

pub AlongRun-end : (levels : List ℕ) (start level «end» : ℕ) → AlongRun levels start level «end» → («end» < length levels → level ≡ get_or levels «end» 0 → ⊥)
    → «end» - start ≡ level_run_len levels start
AlongRun-end levels start level «end» w other =
    let whole : suc (same_len levels level (start + 1) (length levels - (start + 1))) ≡ «end» - start =
    omega (arith, w.so_far, same_stops levels level «end» other) in
    sym (ap (λ (l : ℕ). suc (same_len levels l (start + 1) (length levels - (start + 1)))) (sym w.level_is) ∙ whole)

-- ---- the characters of a run

-- two functions that agree at all positions of a run's level have the same results on the run
module _ (levels : List ℕ) (f g : ℕ → ℕ) where
  map_same : (level s count : ℕ) → ((i : ℕ) → get_or levels i 0 ≡ level → f i ≡ g i)
      → map f (range_with_len s (same_len levels level s count)) ≡ map g (range_with_len s (same_len levels level s count))
  map_same level s zero same = refl
  map_same level s (suc count) same =
      let here : Bool = get_or levels s 0 == level in
      let more : ℕ = suc (same_len levels level (s + 1) count) in
      elim (cases_Bool here) [
        | inl on ↦
            subst (λ (n : ℕ). map f (range_with_len s n) ≡ map g (range_with_len s n)) (sym (cond-true here more zero on))
            (ap₂ (λ (x : ℕ) (xs : List ℕ). x ∷ xs) (same s (eqb-true (get_or levels s 0) level on)) (map_same level (s + 1) count same))
        | inr off ↦ subst (λ (n : ℕ). map f (range_with_len s n) ≡ map g (range_with_len s n)) (sym (cond-false here more zero off)) refl
      ]

  map_run : (s : ℕ) → ((i : ℕ) → get_or levels i 0 ≡ get_or levels s 0 → f i ≡ g i) → map f (run_at levels s) ≡ map g (run_at levels s)
  map_run s same = ap₂ (λ (x : ℕ) (xs : List ℕ). x ∷ xs) (same s refl) (map_same (get_or levels s 0) (s + 1) (length levels - (s + 1)) same)

-- mapping the items at consecutive positions is the same as mapping that part of the list
map_places : (f : ℕ → ℕ) (xs : List ℕ) (s n : ℕ) → s + n ≤ length xs → map (λ i. f (get_or xs i 0)) (range_with_len s n) ≡ map f (take n (drop s xs))
map_places f xs s zero within = refl
map_places f xs s (suc n) within =
    let e : suc s ≡ s + 1 = omega arith in
    let inside : s < length xs = omega arith in
    ap (λ (ys : List ℕ). f (get_or xs s 0) ∷ ys) (map_places f xs (s + 1) n (omega arith))
    ∙ ap (λ (m : ℕ). f (get_or xs s 0) ∷ map f (take n (drop m xs))) (sym e)
    ∙ ap (λ (ys : List ℕ). map f (take (suc n) ys)) (sym (drop-cons xs s 0 inside))

map-id : (xs : List ℕ) → map (λ x. x) xs ≡ xs
map-id [] = refl
map-id (x ∷ xs) = ap (λ (ys : List ℕ). x ∷ ys) (map-id xs)

map-reverse : (f : ℕ → ℕ) (xs : List ℕ) → map f (reverse xs) ≡ reverse (map f xs)
map-reverse f [] = refl
map-reverse f (x ∷ xs) =
    ap (map f) (reverse-append (x ∷ []) xs) ∙ map-append f (reverse xs) (x ∷ []) ∙ ap (λ (ys : List ℕ). ys ++ f x ∷ []) (map-reverse f xs)
    ∙ sym (reverse-append (f x ∷ []) (map f xs))

module _ (t : Tables) (levels line : List ℕ) where
  abbrev char_at : ℕ → ℕ
  char_at i = mirrored t (get_or levels i 0) (get_or line i 0)

  even_run : (s len : ℕ) → len ≡ level_run_len levels s → s + len ≤ length line → is_odd (get_or levels s 0) ≡ false
      → take len (drop s line) ≡ map char_at (run_shown levels s)
  even_run s len len_is within even =
      let plain : ℕ → ℕ = λ i. get_or line i 0 in
      sym (ap (map char_at) (cond-false (is_odd (get_or levels s 0)) (reverse (run_at levels s)) (run_at levels s) even)
      ∙ map_run levels char_at plain s (λ i same.
      cond-false (is_odd (get_or levels i 0)) (unwrap_or (mirror_of t (get_or line i 0)) (get_or line i 0)) (get_or line i 0) (ap is_odd same ∙ even))
      ∙ ap (λ (n : ℕ). map plain (range_with_len s n)) (sym len_is)
      ∙ map_places (λ c. c) line s len within ∙ map-id (take len (drop s line)))

  odd_run : (s len : ℕ) → len ≡ level_run_len levels s → s + len ≤ length line → is_odd (get_or levels s 0) ≡ true
      → reverse (map (mirrored t 1) (take len (drop s line))) ≡ map char_at (run_shown levels s)
  odd_run s len len_is within odd =
      let turned_char : ℕ → ℕ = λ i. mirrored t 1 (get_or line i 0) in
      sym (ap (map char_at) (cond-true (is_odd (get_or levels s 0)) (reverse (run_at levels s)) (run_at levels s) odd)
      ∙ map-reverse char_at (run_at levels s)
      ∙ ap reverse (map_run levels char_at turned_char s (λ i same.
      cond-true (is_odd (get_or levels i 0)) (unwrap_or (mirror_of t (get_or line i 0)) (get_or line i 0)) (get_or line i 0) (ap is_odd same ∙ odd)))
      ∙ ap (λ (n : ℕ). reverse (map turned_char (range_with_len s n))) (sym len_is)
      ∙ ap reverse (map_places (mirrored t 1) line s len within))

-- the characters of a run, reversed and mirrored if its level is odd, are its characters in visual order
pub run_chars : (t : Tables) (levels line : List ℕ) (s len m : ℕ) (part : List ℕ) → m ≡ len → len ≡ level_run_len levels s → s + len ≤ length line
    → part ≡ (if is_odd (get_or levels s 0) then reverse (map (mirrored t 1) (take m (drop s line))) else take m (drop s line))
    → part ≡ map (char_at t levels line) (run_shown levels s)
run_chars t levels line s len m part e len_is within is =
    let run : List ℕ = take len (drop s line) in
    let here : part ≡ (if is_odd (get_or levels s 0) then reverse (map (mirrored t 1) run) else run) =
    is ∙ ap (λ (n : ℕ). if is_odd (get_or levels s 0) then reverse (map (mirrored t 1) (take n (drop s line))) else take n (drop s line)) e in
    elim (cases_Bool (is_odd (get_or levels s 0))) [
      | inl odd ↦ here ∙ cond-true (is_odd (get_or levels s 0)) (reverse (map (mirrored t 1) run)) run odd ∙ odd_run t levels line s len len_is within odd
      | inr even ↦ here ∙ cond-false (is_odd (get_or levels s 0)) (reverse (map (mirrored t 1) run)) run even ∙ even_run t levels line s len len_is within even
    ]

front_shorter : (levels runs : List ℕ) (k : ℕ) → length (flat_map (run_shown levels) (take k runs)) ≤ length (flat_map (run_shown levels) runs)
front_shorter levels runs k =
    omega (
      arith,
      ap (λ (xs : List ℕ). length (flat_map (run_shown levels) xs)) (take-append-drop k runs),
      ap length (flat_map-append (run_shown levels) (take k runs) (drop k runs)),
      length-append (flat_map (run_shown levels) (take k runs)) (flat_map (run_shown levels) (drop k runs)),
    )

-- the characters of the first k runs have been written
pub record RunsWritten (t : Tables) (levels line runs chars : List ℕ) (k at : ℕ) : Type 0 where
  pub sizes : length chars ≡ length (flat_map (run_shown levels) runs)
  pub below : k ≤ length runs
  pub place : at ≡ length (flat_map (run_shown levels) (take k runs))
  pub done : take at chars ≡ visual_chars t levels line (flat_map (run_shown levels) (take k runs))

pub RunsWritten-start : (t : Tables) (levels line runs chars : List ℕ) → length chars ≡ length (flat_map (run_shown levels) runs) → RunsWritten t levels line runs chars 0 0
RunsWritten-start t levels line runs chars size = record { sizes = size; below = omega arith; place = refl; done = refl }

module _ (t : Tables) (levels line runs chars : List ℕ) (k at s len : ℕ) (w : RunsWritten t levels line runs chars k at) (below : k < length runs)
    (s_is : s ≡ get_or runs k 0) (len_is : len ≡ level_run_len levels s) where
  next_runs : flat_map (run_shown levels) (take (k + 1) runs) ≡ flat_map (run_shown levels) (take k runs) ++ run_shown levels s
  next_runs =
      ap (flat_map (run_shown levels)) (take_more runs k 0 below ∙ ap (λ (x : ℕ). take k runs ++ x ∷ []) (sym s_is))
      ∙ flat_map-append (run_shown levels) (take k runs) (s ∷ [])
      ∙ ap (λ (last : List ℕ). flat_map (run_shown levels) (take k runs) ++ last) (append-nil (run_shown levels s))

  pub next_place : at + len ≡ length (flat_map (run_shown levels) (take (k + 1) runs))
  next_place =
      omega (arith, w.place, ap length next_runs, length-append (flat_map (run_shown levels) (take k runs)) (run_shown levels s), length-run_shown levels s, len_is)

  pub run_inside : at + len ≤ length chars
  run_inside =
      let split : length (flat_map (run_shown levels) (take (k + 1) runs)) ≤ length (flat_map (run_shown levels) runs) = front_shorter levels runs (k + 1) in
      omega (arith, next_place, w.sizes)

  written_next : (part : List ℕ) → part ≡ map (char_at t levels line) (run_shown levels s)
      → RunsWritten t levels line runs (put_mid at len chars part) (k + 1) (at + len)
  written_next part is =
      let size : length part ≡ len =
      ap length is ∙ length-map (run_shown levels s) (char_at t levels line) ∙ length-run_shown levels s ∙ sym len_is in
      record {
        sizes = same_len_mid at len chars part
            (size ∙ sym (length-take-le len (drop at chars) (omega (arith, length-drop at chars, run_inside)))) ∙ w.sizes;
        below = omega arith;
        place = next_place;
        done = take-put_mid at len chars part (at + len) (omega (arith, size)) (omega (arith, run_inside))
            ∙ ap₂ ◌++◌ w.done is
            ∙ sym (map-append (char_at t levels line) (flat_map (run_shown levels) (take k runs)) (run_shown levels s))
            ∙ ap (map (char_at t levels line)) (sym next_runs);
      }

  pub RunsWritten-next : (n : ℕ) (part : List ℕ) → n ≡ len → part ≡ map (char_at t levels line) (run_shown levels s)
      → RunsWritten t levels line runs (put_mid at n chars part) (k + 1) (at + len)
  RunsWritten-next n part e is =
      subst (λ (m : ℕ). RunsWritten t levels line runs (put_mid at m chars part) (k + 1) (at + len)) (sym e) (written_next part is)

pub RunsWritten-end : (t : Tables) (levels line runs chars : List ℕ) (k at : ℕ) → RunsWritten t levels line runs chars k at → length runs ≤ k
    → chars ≡ visual_chars t levels line (flat_map (run_shown levels) runs)
RunsWritten-end t levels line runs chars k at w past =
    let whole : take k runs ≡ runs = take_all k runs past in
    let at_is : at ≡ length chars = w.place ∙ ap (λ (xs : List ℕ). length (flat_map (run_shown levels) xs)) whole ∙ sym w.sizes in
    sym (take_all at chars (omega arith)) ∙ w.done ∙ ap (λ (xs : List ℕ). visual_chars t levels line (flat_map (run_shown levels) xs)) whole

-- ---- the highest level and the lowest odd level, found run by run

-- all characters of a run have the run's level
pub same_at : (levels : List ℕ) (level s count j : ℕ) → j < same_len levels level s count → get_or levels (s + j) 0 ≡ level
same_at levels level s zero j inside = absurd (omega arith)
same_at levels level s (suc count) j inside =
    let here : Bool = get_or levels s 0 == level in
    let more : ℕ = suc (same_len levels level (s + 1) count) in
    elim (cases_Bool here) [
      | inl on ↦
          let longer : (if here then more else zero) ≡ more = cond-true here more zero on in
          elim (cases_eq j 0) [
            | inl first ↦
                let at : s + j ≡ s = omega arith in
                ap (λ (k : ℕ). get_or levels k 0) at ∙ eqb-true (get_or levels s 0) level on
            | inr later ↦
                let at : s + 1 + (j - 1) ≡ s + j = omega arith in
                ap (λ (k : ℕ). get_or levels k 0) (sym at) ∙ same_at levels level (s + 1) count (j - 1) (omega (arith, longer))
          ]
      | inr off ↦
          let none : (if here then more else zero) ≡ zero = cond-false here more zero off in
          absurd (omega (arith, none))
    ]

abbrev lowered : Option ℕ → ℕ → Option ℕ
lowered lowest level = if is_odd level then Some (min (unwrap_or lowest level) level) else lowest

lowered_again : (lowest : Option ℕ) (level : ℕ) → lowered lowest level ≡ lowered (lowered lowest level) level
lowered_again lowest level =
    let low : ℕ = min (unwrap_or lowest level) level in
    elim (cases_Bool (is_odd level)) [
      | inl odd ↦
          let once : lowered lowest level ≡ Some low = cond-true (is_odd level) (Some low) lowest odd in
          let same : min low level ≡ low = omega arith in
          once ∙ sym (ap (λ (o : Option ℕ). lowered o level) once ∙ cond-true (is_odd level) (Some (min low level)) (Some low) odd ∙ ap Some same)
      | inr even ↦
          let once : lowered lowest level ≡ lowest = cond-false (is_odd level) (Some low) lowest even in
          ap (λ (o : Option ℕ). lowered o level) (sym once)
    ]

-- for the scan of levels, several characters at the same level have the same effect as one
Extremes-same : (levels : List ℕ) (start level top : ℕ) (lowest : Option ℕ) (n : ℕ) → Extremes levels start top lowest → start + suc n ≤ length levels
    → ((j : ℕ) → j < suc n → get_or levels (start + j) 0 ≡ level) → Extremes levels (start + suc n) (max top level) (lowered lowest level)
Extremes-same levels start level top lowest zero w within same =
    let at : start + 0 ≡ start = omega arith in
    let here : get_or levels start 0 ≡ level = ap (λ (k : ℕ). get_or levels k 0) (sym at) ∙ same 0 (omega arith) in
    let end_is : start + 1 ≡ start + suc 0 = omega arith in
    subst (λ (k : ℕ). Extremes levels k (max top level) (lowered lowest level)) end_is
    (Extremes-next levels start top (max top level) lowest (lowered lowest level) w (omega arith) (ap (max top) (sym here)) (ap (lowered lowest) (sym here)))
Extremes-same levels start level top lowest (suc n) w within same =
    let before = Extremes-same levels start level top lowest n w (omega arith) (λ j inside. same j (omega arith)) in
    let at : start + suc n + 1 ≡ start + suc (suc n) = omega arith in
    let here : get_or levels (start + suc n) 0 ≡ level = same (suc n) (omega arith) in
    let most : max top level ≡ max (max top level) (get_or levels (start + suc n) 0) = omega (arith, here) in
    subst (λ (k : ℕ). Extremes levels k (max top level) (lowered lowest level)) at
    (Extremes-next levels (start + suc n) (max top level) (max top level) (lowered lowest level) (lowered lowest level) before (omega arith) most
    (lowered_again lowest level ∙ ap (lowered (lowered lowest level)) (sym here)))

pub Extremes-run : (levels : List ℕ) (start top next : ℕ) (lowest after : Option ℕ) (len : ℕ) → Extremes levels start top lowest → len ≡ level_run_len levels start
    → start + len ≤ length levels → next ≡ max top (get_or levels start 0) → after ≡ lowered lowest (get_or levels start 0)
    → Extremes levels (start + len) next after
Extremes-run levels start top next lowest after len w len_is within most low =
    let level : ℕ = get_or levels start 0 in
    let n : ℕ = same_len levels level (start + 1) (length levels - (start + 1)) in
    let all : Extremes levels (start + suc n) (max top level) (lowered lowest level) =
    Extremes-same levels start level top lowest n w (omega (arith, len_is, within)) (λ j inside.
    elim (cases_eq j 0) [
      | inl first ↦ let at : start + j ≡ start = omega arith in ap (λ (k : ℕ). get_or levels k 0) at
      | inr later ↦
          let at : start + 1 + (j - 1) ≡ start + j = omega arith in
          ap (λ (k : ℕ). get_or levels k 0) (sym at) ∙ same_at levels level (start + 1) (length levels - (start + 1)) (j - 1) (omega arith)
    ]) in
    subst (λ (k : ℕ). Extremes levels (start + k) next after) (sym len_is)
    (subst (λ (o : Option ℕ). Extremes levels (start + suc n) next o) (sym low)
    (subst (λ (t : ℕ). Extremes levels (start + suc n) t (lowered lowest level)) (sym most) all))
