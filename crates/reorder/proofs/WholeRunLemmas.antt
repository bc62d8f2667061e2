-- The level runs of a line are maximal, and their characters, one run after the other, are in visual order.
use Rattle.std.proofs.Common.{◌≡◌, ◌≢◌, ℕ, zero, suc, ◌+◌, ◌-◌, ◌<◌, ◌≤◌, ◌==◌, nat_le, nat_lt, Bool, true, false, ◌&&◌, List, [], ◌∷◌, ◌++◌, length, get_or, map, reverse}
use Rattle.std.proofs.Common.{refl, sym, ap, ◌∙◌, inl, inr, arith, cond, length-append, zero-add}
use Rattle.std.specs.List.{filter, flat_map, range_with_len, sum_by, All}
use Rattle.std.proofs.lemmas.Bool.{and_from, and_left, and_right, cases_Bool, cases_eq, cases_lt, cond-true, cond-false, eq-eqb, le-leb, le-ltb, lt-leb, lt-ltb, ne_eqb, not_from_false, not_from_true}
use Rattle.std.proofs.lemmas.List.{append-nil, reverse-append}
use Rattle.std.proofs.lemmas.List.Elements.{filter-append, filter_passes, All-cons, All-map, All-nil}
use Rattle.std.proofs.lemmas.List.Sorted.{All-permutation, sum_by-IsPermutation}
use Rattle.std.proofs.lemmas.List.Sums.{sum_by-append, sum_by-cons}
use Rattle.reorder.specs.LevelRuns.{level_run_len, run_at, run_shown, turned}
use Rattle.reorder.specs.Order.{is_odd, order_of, places}
use Rattle.reorder.specs.Runs.{begins_run, has_place, places_in, run_count, run_from, run_starts, runs_of, AreRuns, IsMaximal}
use Rattle.reorder.specs.declared.runs.Run.{Run}
use Rattle.reorder.proofs.OrderLemmas.{order_of_permutes}
use Rattle.reorder.proofs.RunLemmas.{length-turned, range_append, runs_in_order, turned_permutes}
use Rattle.reorder.proofs.SortedLemmas.{EachOf, EachOf-from_All, EachOf-map}
use Rattle.reorder.proofs.StartLemmas.{are_starts, begins_apart, run_level, run_stops, run_within, OneLevel}

All-from_EachOf : (P : ℕ → Type 0) (xs : List ℕ) → EachOf P xs → All P xs
All-from_EachOf P [] each = All-nil P
All-from_EachOf P (x ∷ xs) each = All-cons P x xs each.0 (All-from_EachOf P xs each.1)

-- ---- sums over runs

flat_map-map : (f : Run → List ℕ) (g : ℕ → Run) (xs : List ℕ) → flat_map f (map g xs) ≡ flat_map (λ x. f (g x)) xs
flat_map-map f g [] = refl
flat_map-map f g (x ∷ xs) = ap (λ (rest : List ℕ). f (g x) ++ rest) (flat_map-map f g xs)

sum_by-flat_map : (f : ℕ → ℕ) (g : Run → List ℕ) (runs : List Run) → sum_by f (flat_map g runs) ≡ sum_by (λ run. sum_by f (g run)) runs
sum_by-flat_map f g [] = refl
sum_by-flat_map f g (run ∷ runs) =
    omega (arith, sum_by-append f (g run) (flat_map g runs), sum_by-cons (λ r. sum_by f (g r)) run runs, sum_by-flat_map f g runs)

sum_by-same : (f g : Run → ℕ) → ((run : Run) → f run ≡ g run) → (runs : List Run) → sum_by f runs ≡ sum_by g runs
sum_by-same f g same [] = refl
sum_by-same f g same (run ∷ runs) = omega (arith, sum_by-cons f run runs, sum_by-cons g run runs, same run, sum_by-same f g same runs)

sum_by-reverse : (f : ℕ → ℕ) (xs : List ℕ) → sum_by f (reverse xs) ≡ sum_by f xs
sum_by-reverse f [] = refl
sum_by-reverse f (x ∷ xs) =
    omega (
      arith,
      ap (sum_by f) (reverse-append (x ∷ []) xs),
      sum_by-append f (reverse xs) (x ∷ []),
      sum_by-cons f x [],
      sum_by-cons f x xs,
      sum_by-reverse f xs,
    )

sum_in : (f : ℕ → ℕ) (run : Run) → sum_by f (places_in run) ≡ sum_by f (range_with_len run.start run.len)
sum_in f run =
    let items : List ℕ = range_with_len run.start run.len in
    elim (cases_Bool (is_odd run.level)) [
      | inl odd ↦ ap (sum_by f) (cond-true (is_odd run.level) (reverse items) items odd) ∙ sum_by-reverse f items
      | inr even ↦ ap (sum_by f) (cond-false (is_odd run.level) (reverse items) items even)
    ]

abbrev bit : Bool → ℕ
bit b = cond b 1 0

-- a range contains each of its numbers once
abbrev one : ℕ → ℕ → ℕ
one k x = cond (x == k) 1 0

once_in : (a n k : ℕ) → sum_by (one k) (range_with_len a n) ≡ cond (nat_le a k && nat_lt k (a + n)) 1 0
once_in a zero k =
    elim (cases_lt k a) [
      | inl below ↦ sym (cond-false {A = ℕ} (nat_le a k && nat_lt k (a + 0)) 1 0 (and_left (nat_le a k) (nat_lt k (a + 0)) (lt-leb a k below)))
      | inr above ↦ sym (cond-false {A = ℕ} (nat_le a k && nat_lt k (a + 0)) 1 0 (and_right (nat_le a k) (nat_lt k (a + 0)) (le-ltb k (a + 0) (omega arith))))
    ]
once_in a (suc n) k =
    let rest : ℕ = sum_by (one k) (range_with_len (a + 1) n) in
    let split : sum_by (one k) (range_with_len a (suc n)) ≡ one k a + rest = sum_by-cons (one k) a (range_with_len (a + 1) n) in
    let after : Bool = nat_le (a + 1) k && nat_lt k (a + 1 + n) in
    let here : Bool = nat_le a k && nat_lt k (a + suc n) in
    elim (cases_eq a k) [
      | inl same ↦
          let first : one k a ≡ 1 = cond-true (a == k) 1 0 (eq-eqb a k same) in
          let none : bit after ≡ 0 = cond-false after 1 0 (and_left (nat_le (a + 1) k) (nat_lt k (a + 1 + n)) (lt-leb (a + 1) k (omega arith))) in
          let is : bit here ≡ 1 = cond-true here 1 0 (and_from (nat_le a k) (nat_lt k (a + suc n)) (le-leb a k (omega arith)) (lt-ltb k (a + suc n) (omega arith))) in
          omega (arith, split, first, once_in (a + 1) n k, none, is)
      | inr other ↦
          let first : one k a ≡ 0 = cond-false (a == k) 1 0 (ne_eqb a k other) in
          let same : bit after ≡ bit here =
          elim (cases_lt k a) [
            | inl below ↦
                cond-false after 1 0 (and_left (nat_le (a + 1) k) (nat_lt k (a + 1 + n)) (lt-leb (a + 1) k (omega arith)))
                ∙ sym (cond-false {A = ℕ} here 1 0 (and_left (nat_le a k) (nat_lt k (a + suc n)) (lt-leb a k below)))
            | inr above ↦
                elim (cases_lt k (a + suc n)) [
                  | inl inside ↦
                      cond-true after 1 0
                      (and_from (nat_le (a + 1) k) (nat_lt k (a + 1 + n)) (le-leb (a + 1) k (omega arith)) (lt-ltb k (a + 1 + n) (omega arith)))
                      ∙ sym (cond-true {A = ℕ} here 1 0 (and_from (nat_le a k) (nat_lt k (a + suc n)) (le-leb a k above) (lt-ltb k (a + suc n) inside)))
                  | inr past ↦
                      cond-false after 1 0 (and_right (nat_le (a + 1) k) (nat_lt k (a + 1 + n)) (le-ltb k (a + 1 + n) (omega arith)))
                      ∙ sym (cond-false {A = ℕ} here 1 0 (and_right (nat_le a k) (nat_lt k (a + suc n)) (le-ltb k (a + suc n) past)))
                ]
          ] in
          omega (arith, split, first, once_in (a + 1) n k, same)
    ]

module _ (levels : List ℕ) where
  abbrev level_at : ℕ → ℕ
  level_at k = get_or levels k 0

  abbrev begins : ℕ → Bool
  begins = begins_run levels

  abbrev end_of : ℕ → ℕ
  end_of s = s + level_run_len levels s

  -- ---- each run is maximal

  abbrev IsStart : ℕ → Type 0
  IsStart t = (t < length levels) × (begins t ≡ true)

  is_maximal : (s : ℕ) → IsStart s → IsMaximal levels (run_from levels s)
  is_maximal s start =
      let one : OneLevel levels s (end_of s - 1) (level_at s) = run_level levels s in
      record {
        some = omega arith;
        within = run_within levels s start.0;
        level = λ k inside. one.same (s + k) (omega arith) (omega arith);
        before = λ some same. begins_apart levels s (s - 1) start.1 (omega arith) (sym same);
        after = λ short. run_stops levels s short;
      }

  -- ---- the runs' characters

  -- no run begins inside a run
  none_inside : (lo hi level a n : ℕ) → OneLevel levels lo hi level → lo < a → a + n ≤ hi + 1 → filter begins (range_with_len a n) ≡ []
  none_inside lo hi level a zero one from to = refl
  none_inside lo hi level a (suc n) one from to =
      let rest : List ℕ = filter begins (range_with_len (a + 1) n) in
      cond-false (begins a) (a ∷ rest) rest (off a (omega arith) (omega arith)) ∙ none_inside lo hi level (a + 1) n one (omega arith) (omega arith)
    where
      off : (t : ℕ) → lo < t → t ≤ hi → begins t ≡ false
      off zero after before = absurd (omega arith)
      off (suc t) after before =
          not_from_true (level_at (suc t) == level_at t)
          (eq-eqb (level_at (suc t)) (level_at t) (one.same (suc t) (omega arith) before ∙ sym (one.same t (omega arith) (omega arith))))

  one_begins : (s : ℕ) → begins s ≡ true → filter begins (run_at levels s) ≡ s ∷ []
  one_begins s on =
      let n : ℕ = level_run_len levels s - 1 in
      let rest : List ℕ = filter begins (range_with_len (s + 1) n) in
      let len : level_run_len levels s ≡ suc n = omega arith in
      ap (λ k. filter begins (range_with_len s k)) len
      ∙ cond-true (begins s) (s ∷ rest) rest on
      ∙ ap (λ (xs : List ℕ). s ∷ xs) (none_inside s (end_of s - 1) (level_at s) (s + 1) n (run_level levels s) (omega arith) (omega arith))

  filter-reverse : (test : ℕ → Bool) (xs : List ℕ) → filter test (reverse xs) ≡ reverse (filter test xs)
  filter-reverse test [] = refl
  filter-reverse test (x ∷ xs) =
      let rest : List ℕ = filter test xs in
      ap (filter test) (reverse-append (x ∷ []) xs)
      ∙ filter-append test (reverse xs) (x ∷ [])
      ∙ ap (λ (ys : List ℕ). ys ++ filter test (x ∷ [])) (filter-reverse test xs)
      ∙ elim (cases_Bool (test x)) [
        | inl on ↦
            ap (λ (ys : List ℕ). reverse rest ++ ys) (cond-true (test x) (x ∷ []) [] on)
            ∙ sym (reverse-append (x ∷ []) rest)
            ∙ ap reverse (sym (cond-true (test x) (x ∷ rest) rest on))
        | inr off ↦
            ap (λ (ys : List ℕ). reverse rest ++ ys) (cond-false (test x) (x ∷ []) [] off)
            ∙ append-nil (reverse rest)
            ∙ ap reverse (sym (cond-false (test x) (x ∷ rest) rest off))
      ]

  one_shown : (s : ℕ) → begins s ≡ true → filter begins (run_shown levels s) ≡ s ∷ []
  one_shown s on =
      elim (cases_Bool (is_odd (level_at s))) [
        | inl odd ↦
            ap (filter begins) (cond-true (is_odd (level_at s)) (reverse (run_at levels s)) (run_at levels s) odd)
            ∙ filter-reverse begins (run_at levels s) ∙ ap reverse (one_begins s on)
        | inr even ↦
            ap (filter begins) (cond-false (is_odd (level_at s)) (reverse (run_at levels s)) (run_at levels s) even) ∙ one_begins s on
      ]

  starts_in : (xs : List ℕ) → EachOf (λ s. begins s ≡ true) xs → filter begins (flat_map (run_shown levels) xs) ≡ xs
  starts_in [] each = refl
  starts_in (s ∷ xs) each =
      filter-append begins (run_shown levels s) (flat_map (run_shown levels) xs)
      ∙ ap (λ (ys : List ℕ). ys ++ filter begins (flat_map (run_shown levels) xs)) (one_shown s each.0)
      ∙ ap (λ (ys : List ℕ). s ∷ ys) (starts_in xs each.1)

  -- ---- the runs in logical order
  next_begins : (s t : ℕ) → end_of s ≡ t → t < length levels → begins t ≡ true
  next_begins s zero e short = absurd (omega arith)
  next_begins s (suc t) e short =
      let one : OneLevel levels s (end_of s - 1) (level_at s) = run_level levels s in
      let stops : level_at (end_of s) ≢ level_at s = run_stops levels s (omega arith) in
      not_from_false (level_at (suc t) == level_at t)
      (ne_eqb (level_at (suc t)) (level_at t) (λ same. stops (ap level_at e ∙ same ∙ one.same t (omega arith) (omega arith))))

  in_pieces : (fuel a : ℕ) → a ≤ length levels → length levels - a ≤ fuel → (a < length levels → begins a ≡ true)
      → flat_map (run_at levels) (filter begins (range_with_len a (length levels - a))) ≡ range_with_len a (length levels - a)
  in_pieces zero a inside small on =
      let none : length levels - a ≡ 0 = omega arith in
      ap (λ n. flat_map (run_at levels) (filter begins (range_with_len a n))) none ∙ ap (range_with_len a) (sym none)
  in_pieces (suc fuel) a inside small on =
      let later : List ℕ = range_with_len (end_of a) (length levels - end_of a) in
      elim (cases_lt a (length levels)) [
        | inr past ↦
            let none : length levels - a ≡ 0 = omega arith in
            ap (λ n. flat_map (run_at levels) (filter begins (range_with_len a n))) none ∙ ap (range_with_len a) (sym none)
        | inl below ↦
            let to : end_of a ≤ length levels = run_within levels a below in
            let n : level_run_len levels a + (length levels - end_of a) ≡ length levels - a = omega (arith, to) in
            let split : range_with_len a (length levels - a) ≡ run_at levels a ++ later =
            ap (range_with_len a) (sym n) ∙ sym (range_append a (level_run_len levels a) (length levels - end_of a)) in
            ap (λ (xs : List ℕ). flat_map (run_at levels) (filter begins xs)) split
            ∙ ap (flat_map (run_at levels)) (filter-append begins (run_at levels a) later)
            ∙ ap (λ (xs : List ℕ). flat_map (run_at levels) (xs ++ filter begins later)) (one_begins a (on below))
            ∙ ap (λ (xs : List ℕ). run_at levels a ++ xs) (in_pieces fuel (end_of a) to (omega arith) (next_begins a (end_of a) refl))
            ∙ sym split
      ]

  runs_in_text : flat_map (run_at levels) (filter begins (places levels)) ≡ places levels
  runs_in_text =
      let n : length levels - 0 ≡ length levels = omega arith in
      ap (λ k. flat_map (run_at levels) (filter begins (range_with_len 0 k))) (sym n)
      ∙ in_pieces (length levels) 0 (omega arith) (omega arith) (λ some. refl) ∙ ap (range_with_len 0) n

  -- ---- the runs in visual order
  abbrev starts : List ℕ
  starts = turned levels (filter begins (places levels))

  shown_in_order : flat_map (run_shown levels) starts ≡ order_of levels
  shown_in_order = runs_in_order levels (filter begins (places levels)) runs_in_text

  starts_begin : EachOf (λ s. begins s ≡ true) starts
  starts_begin =
      let P : ℕ → Type 0 = λ s. begins s ≡ true in
      EachOf-from_All P starts
      (All-permutation P (filter begins (places levels)) starts (turned_permutes levels (filter begins (places levels))) (filter_passes begins (places levels)))

  starts_are : run_starts levels ≡ starts
  starts_are = ap (filter begins) (sym shown_in_order) ∙ starts_in starts starts_begin

  counted_in_text : length (filter begins (places levels)) ≡ run_count levels
  counted_in_text = sym (length-turned levels (filter begins (places levels))) ∙ ap length (sym starts_are)

  runs_in_line : flat_map places_in (map (run_from levels) (run_starts levels)) ≡ order_of levels
  runs_in_line =
      flat_map-map places_in (run_from levels) (run_starts levels)
      ∙ ap (flat_map (run_shown levels)) starts_are
      ∙ shown_in_order

  run_sums : (runs : List Run) → flat_map places_in runs ≡ order_of levels → (f : ℕ → ℕ)
      → sum_by (λ run. sum_by f (range_with_len run.start run.len)) runs ≡ sum_by f (places levels)
  run_sums runs is f =
      sum_by-same (λ run. sum_by f (range_with_len run.start run.len)) (λ run. sum_by f (places_in run)) (λ run. sym (sum_in f run)) runs
      ∙ sym (sum_by-flat_map f places_in runs)
      ∙ ap (sum_by f) is
      ∙ sum_by-IsPermutation f (places levels) (order_of levels) (order_of_permutes levels)

  pub are_runs : AreRuns levels (runs_of levels)
  unfolding runs_of
  are_runs =
      let runs : List Run = map (run_from levels) (run_starts levels) in
      record {
        maximal = All-map (IsMaximal levels) (run_from levels) (run_starts levels)
            (All-from_EachOf (λ s. IsMaximal levels (run_from levels s)) (run_starts levels)
            (EachOf-map IsStart (λ s. IsMaximal levels (run_from levels s)) is_maximal (run_starts levels) (are_starts levels)));
        once = λ place below.
            sum_by-same (λ run. cond (has_place place run) 1 0) (λ run. sum_by (one place) (range_with_len run.start run.len)) (λ run. sym (once_in run.start run.len place)) runs
            ∙ run_sums runs runs_in_line (one place)
            ∙ once_in 0 (length levels) place
            ∙ cond-true (nat_le 0 place && nat_lt place (0 + length levels)) 1 0
            (and_from (nat_le 0 place) (nat_lt place (0 + length levels)) (le-leb 0 place (omega arith)) (lt-ltb place (0 + length levels) (omega arith)));
        in_order = runs_in_line;
        sums = run_sums runs runs_in_line;
      }

-- ---- the scan that counts the runs

-- `count` is the number of runs before `start`, and at `start` a run begins or the line ends
pub record RunsCounted (levels : List ℕ) (count start : ℕ) : Type 0 where
  pub counted : length (filter (begins_run levels) (range_with_len 0 start)) ≡ count
  pub begins : start < length levels → begins_run levels start ≡ true

pub RunsCounted-start : (levels : List ℕ) → RunsCounted levels 0 0
RunsCounted-start levels = record { counted = refl; begins = λ some. refl }

pub RunsCounted-next : (levels : List ℕ) (count start len : ℕ) → RunsCounted levels count start → start < length levels
    → len ≡ level_run_len levels start → RunsCounted levels (count + 1) (start + len)
RunsCounted-next levels count start len w below len_is =
    let before : List ℕ = range_with_len 0 start in
    let split : range_with_len 0 (start + len) ≡ before ++ run_at levels start =
    sym (range_append 0 start len)
    ∙ ap (λ (s : ℕ). before ++ range_with_len s len) (zero-add start)
    ∙ ap (λ (n : ℕ). before ++ range_with_len start n) len_is in
    record {
      counted = ap (λ (xs : List ℕ). length (filter (begins_run levels) xs)) split
          ∙ ap length (filter-append (begins_run levels) before (run_at levels start))
          ∙ ap (λ (xs : List ℕ). length (filter (begins_run levels) before ++ xs)) (one_begins levels start (w.begins below))
          ∙ length-append (filter (begins_run levels) before) (start ∷ [])
          ∙ ap (λ (n : ℕ). n + 1) w.counted;
      begins = next_begins levels start (start + len) (ap (λ (n : ℕ). start + n) (sym len_is));
    }

pub RunsCounted-end : (levels : List ℕ) (count start : ℕ) → RunsCounted levels count start → start ≡ length levels → count ≡ run_count levels
RunsCounted-end levels count start w at_end =
    sym w.counted
    ∙ ap (λ (n : ℕ). length (filter (begins_run levels) (range_with_len 0 n))) at_end
    ∙ counted_in_text levels
