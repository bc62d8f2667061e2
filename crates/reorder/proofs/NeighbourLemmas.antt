-- L2 puts two adjacent characters at the same odd level next to each other, the second one first.
use Rattle.std.proofs.Common.{◌≡◌, ℕ, zero, suc, ◌+◌, ◌-◌, ◌%◌, ◌/◌, ◌<◌, ◌≤◌, ◌==◌, max, Bool, true, false, not, List, []}
use Rattle.std.proofs.Common.{◌∷◌, ◌++◌, length, get_or, Option, Some, None, refl, sym, ap, subst, ◌∙◌, inl, inr, arith, append_assoc, zero-add}
use Rattle.std.specs.List.{fold, list_any, range_with_len}
use Rattle.std.proofs.lemmas.Bool.{and_from, and_parts, both_ways, cases_Bool, cases_eq, cases_lt, cond-true, cond-false, eq-eqb, eqb-true, le-leb, lt-leb, or_left, or_right}
use Rattle.std.proofs.lemmas.List.{get_or_past}
use Rattle.ucd.specs.Least.{least}
use Rattle.reorder.specs.Order.{has_odd, highest, is_at_least, is_odd, lowest_odd, order_by, order_of, places, reverse_runs, reversed_from}

-- x is directly before y in the list
pub record Adjacent (x y : ℕ) (xs : List ℕ) : Type 0 where
  pub front : List ℕ
  pub back : List ℕ
  pub is : xs ≡ front ++ x ∷ y ∷ back

after : (ys xs : List ℕ) (x y : ℕ) → Adjacent x y xs → Adjacent x y (ys ++ xs)
after ys xs x y a = record {
  front = ys ++ a.front;
  back = a.back;
  is = ap (λ zs. ys ++ zs) a.is ∙ sym (append_assoc ys a.front (x ∷ y ∷ a.back));
}

-- ---- reversing the intervals of one level

-- adjacent items of the current interval stay adjacent when the interval is reversed
inside : (test : ℕ → Bool) (ys run back : List ℕ) (x y : ℕ) → Adjacent y x (reverse_runs test (ys ++ y ∷ x ∷ run) back)
inside test ys run [] x y = record { front = ys; back = run; is = refl }
inside test ys run (b ∷ back) x y =
    let on : List ℕ = reverse_runs test (b ∷ (ys ++ y ∷ x ∷ run)) back in
    let off : List ℕ = (ys ++ y ∷ x ∷ run) ++ b ∷ reverse_runs test [] back in
    elim (cases_Bool (test b)) [
      | inl passed ↦ subst (λ (zs : List ℕ). Adjacent y x zs) (sym (cond-true (test b) on off passed)) (inside test (b ∷ ys) run back x y)
      | inr failed ↦ subst (λ (zs : List ℕ). Adjacent y x zs) (sym (cond-false (test b) on off failed))
          (record { front = ys; back = run ++ b ∷ reverse_runs test [] back; is = append_assoc ys (y ∷ x ∷ run) (b ∷ reverse_runs test [] back) })
    ]

turned : (test : ℕ → Bool) (run front back : List ℕ) (x y : ℕ) → test x ≡ true → test y ≡ true
    → Adjacent y x (reverse_runs test run (front ++ x ∷ y ∷ back))
turned test run [] back x y px py =
    subst (λ (zs : List ℕ). Adjacent y x zs)
    (sym (cond-true (test x) (reverse_runs test (x ∷ run) (y ∷ back)) (run ++ x ∷ reverse_runs test [] (y ∷ back)) px
    ∙ cond-true (test y) (reverse_runs test (y ∷ x ∷ run) back) ((x ∷ run) ++ y ∷ reverse_runs test [] back) py))
    (inside test [] run back x y)
turned test run (f ∷ front) back x y px py =
    let rest : List ℕ = front ++ x ∷ y ∷ back in
    let on : List ℕ = reverse_runs test (f ∷ run) rest in
    let off : List ℕ = run ++ f ∷ reverse_runs test [] rest in
    elim (cases_Bool (test f)) [
      | inl passed ↦ subst (λ (zs : List ℕ). Adjacent y x zs) (sym (cond-true (test f) on off passed)) (turned test (f ∷ run) front back x y px py)
      | inr failed ↦ subst (λ (zs : List ℕ). Adjacent y x zs) (sym (cond-false (test f) on off failed))
          (after run (f ∷ reverse_runs test [] rest) y x (after (f ∷ []) (reverse_runs test [] rest) y x (turned test [] front back x y px py)))
    ]

kept : (test : ℕ → Bool) (run front back : List ℕ) (x y : ℕ) → test x ≡ false → test y ≡ false
    → Adjacent x y (reverse_runs test run (front ++ x ∷ y ∷ back))
kept test run [] back x y px py =
    subst (λ (zs : List ℕ). Adjacent x y zs)
    (sym (cond-false (test x) (reverse_runs test (x ∷ run) (y ∷ back)) (run ++ x ∷ reverse_runs test [] (y ∷ back)) px
    ∙ ap (λ zs. run ++ x ∷ zs) (cond-false (test y) (reverse_runs test (y ∷ []) back) (y ∷ reverse_runs test [] back) py)))
    (record { front = run; back = reverse_runs test [] back; is = refl })
kept test run (f ∷ front) back x y px py =
    let rest : List ℕ = front ++ x ∷ y ∷ back in
    let on : List ℕ = reverse_runs test (f ∷ run) rest in
    let off : List ℕ = run ++ f ∷ reverse_runs test [] rest in
    elim (cases_Bool (test f)) [
      | inl passed ↦ subst (λ (zs : List ℕ). Adjacent x y zs) (sym (cond-true (test f) on off passed)) (kept test (f ∷ run) front back x y px py)
      | inr failed ↦ subst (λ (zs : List ℕ). Adjacent x y zs) (sym (cond-false (test f) on off failed))
          (after run (f ∷ reverse_runs test [] rest) x y (after (f ∷ []) (reverse_runs test [] rest) x y (kept test [] front back x y px py)))
    ]

pass_turns : (test : ℕ → Bool) (xs : List ℕ) (x y : ℕ) → Adjacent x y xs → test x ≡ true → test y ≡ true → Adjacent y x (reverse_runs test [] xs)
pass_turns test xs x y a px py =
    subst (λ (zs : List ℕ). Adjacent y x (reverse_runs test [] zs)) (sym a.is) (turned test [] a.front a.back x y px py)

pass_keeps : (test : ℕ → Bool) (xs : List ℕ) (x y : ℕ) → Adjacent x y xs → test x ≡ false → test y ≡ false → Adjacent x y (reverse_runs test [] xs)
pass_keeps test xs x y a px py =
    subst (λ (zs : List ℕ). Adjacent x y (reverse_runs test [] zs)) (sym a.is) (kept test [] a.front a.back x y px py)

-- ---- reversing the intervals of all levels

-- x and y are adjacent, in reverse order if the flag is true
abbrev Lies : Bool → ℕ → ℕ → List ℕ → Type 0
Lies true x y xs = Adjacent y x xs
Lies false x y xs = Adjacent x y xs

pass_lies : (b : Bool) (test : ℕ → Bool) (xs : List ℕ) (x y : ℕ) → Lies b x y xs → test x ≡ true → test y ≡ true → Lies (not b) x y (reverse_runs test [] xs)
pass_lies true test xs x y a px py = pass_turns test xs y x a py px
pass_lies false test xs x y a px py = pass_turns test xs x y a px py

-- whether n reversals change the order
abbrev is_turned : ℕ → Bool
is_turned zero = false
is_turned (suc n) = not (is_turned n)

odd_turns : (k n : ℕ) → n ≡ k + k → is_turned (suc n) ≡ true
odd_turns zero zero e = refl
odd_turns zero (suc n) e = absurd (omega (arith, e))
odd_turns (suc k) zero e = absurd (omega (arith, e))
odd_turns (suc k) (suc zero) e = absurd (omega (arith, e))
odd_turns (suc k) (suc (suc n)) e = ap (λ b. not (not b)) (odd_turns k n (omega (arith, e)))

range_pair : (a i n : ℕ) → suc i < n → Adjacent (a + i) (suc (a + i)) (range_with_len a n)
range_pair a i zero h = absurd (omega (arith, h))
range_pair a zero (suc zero) h = absurd (omega (arith, h))
range_pair a zero (suc (suc n)) h =
    let first : a + 0 ≡ a = omega arith in
    let second : a + 1 ≡ suc (a + 0) = omega arith in
    record {
      front = [];
      back = range_with_len (a + 1 + 1) n;
      is = ap (λ k. k ∷ (a + 1) ∷ range_with_len (a + 1 + 1) n) (sym first) ∙ ap (λ k. (a + 0) ∷ k ∷ range_with_len (a + 1 + 1) n) second;
    }
range_pair a (suc i) (suc n) h =
    let e : a + 1 + i ≡ a + suc i = omega arith in
    subst (λ (k : ℕ). Adjacent k (suc k) (range_with_len a (suc n))) e
    (after (a ∷ []) (range_with_len (a + 1) n) (a + 1 + i) (suc (a + 1 + i)) (range_pair (a + 1) i n (omega (arith, h))))

module _ (levels : List ℕ) (i : ℕ) (same : get_or levels (suc i) 0 ≡ get_or levels i 0) (within : suc i < length levels) where
  level : ℕ
  level = get_or levels i 0

  at_start : Adjacent i (suc i) (places levels)
  at_start = subst (λ (k : ℕ). Adjacent k (suc k) (places levels)) (zero-add i) (range_pair 0 i (length levels) within)

  -- reversing the intervals of levels above that of two adjacent characters keeps these characters adjacent,
  -- in the same order
  above : (low count : ℕ) → get_or levels i 0 < low → Adjacent i (suc i) (reversed_from levels low count (places levels))
  above low zero h = at_start
  above low (suc count) h =
      let here : is_at_least levels low i ≡ false = lt-leb low (get_or levels i 0) h in
      let there : is_at_least levels low (suc i) ≡ false = lt-leb low (get_or levels (suc i) 0) (omega (arith, h, same)) in
      pass_keeps (is_at_least levels low) (reversed_from levels (suc low) count (places levels)) i (suc i) (above (suc low) count (omega (arith, h))) here there

  -- reversing the intervals of `d + 1` levels, from the level of two adjacent characters down, keeps these
  -- characters adjacent
  down : (d low count : ℕ) → low + d ≡ get_or levels i 0 → d < count → Lies (is_turned (suc d)) i (suc i) (reversed_from levels low count (places levels))
  down d low zero e h = absurd (omega (arith, h))
  down zero low (suc count) e h =
      let here : is_at_least levels low i ≡ true = le-leb low (get_or levels i 0) (omega (arith, e)) in
      let there : is_at_least levels low (suc i) ≡ true = le-leb low (get_or levels (suc i) 0) (omega (arith, e, same)) in
      pass_turns (is_at_least levels low) (reversed_from levels (suc low) count (places levels)) i (suc i) (above (suc low) count (omega (arith, e))) here there
  down (suc d) low (suc count) e h =
      let here : is_at_least levels low i ≡ true = le-leb low (get_or levels i 0) (omega (arith, e)) in
      let there : is_at_least levels low (suc i) ≡ true = le-leb low (get_or levels (suc i) 0) (omega (arith, e, same)) in
      pass_lies (is_turned (suc d)) (is_at_least levels low) (reversed_from levels (suc low) count (places levels)) i (suc i)
      (down d (suc low) count (omega (arith, e)) (omega (arith, h))) here there

-- ---- the lowest odd level

-- what the result of `least` implies for the numbers of the range
abbrev Says : (ℕ → Bool) → ℕ → ℕ → Option ℕ → Type 0
Says p low count None = (m : ℕ) → low ≤ m → m < low + count → p m ≡ false
Says p low count (Some k) = (p k ≡ true) × ((m : ℕ) → low ≤ m → m < k → p m ≡ false)

says_more : (p : ℕ → Bool) (low count : ℕ) (o : Option ℕ) → p low ≡ false → Says p (suc low) count o → Says p low (suc count) o
says_more p low count None fails says = λ m from to.
    elim (cases_eq low m) [
      | inl e ↦ ap p (sym e) ∙ fails
      | inr ne ↦ says m (omega (arith, from, ne)) (omega (arith, to))
    ]
says_more p low count (Some k) fails says = (
  says.0,
  λ m from to.
      elim (cases_eq low m) [
        | inl e ↦ ap p (sym e) ∙ fails
        | inr ne ↦ says.1 m (omega (arith, from, ne)) to
      ],
)

least_says : (p : ℕ → Bool) (low count : ℕ) → Says p low count (least p low count)
least_says p low zero = λ m from to. absurd (omega (arith, from, to))
least_says p low (suc count) =
    elim (cases_Bool (p low)) [
      | inl passed ↦ subst (λ (o : Option ℕ). Says p low (suc count) o) (sym (cond-true (p low) (Some low) (least p (suc low) count) passed))
          (passed, λ m from to. absurd (omega (arith, from, to)))
      | inr failed ↦ subst (λ (o : Option ℕ). Says p low (suc count) o) (sym (cond-false (p low) (Some low) (least p (suc low) count) failed))
          (says_more p low count (least p (suc low) count) failed (least_says p (suc low) count))
    ]

is_there : (levels : List ℕ) (i : ℕ) → i < length levels → list_any (λ other. other == get_or levels i 0) levels ≡ true
is_there levels i within = among levels i (get_or levels i 0) within refl
  where
    among : (xs : List ℕ) (k x : ℕ) → k < length xs → get_or xs k 0 ≡ x → list_any (λ other. other == x) xs ≡ true
    among [] k x h e = absurd (omega (arith, h))
    among (y ∷ xs) zero x h e = or_left (y == x) (list_any (λ other. other == x) xs) (eq-eqb y x e)
    among (y ∷ xs) (suc k) x h e = or_right (y == x) (list_any (λ other. other == x) xs) (among xs k x (omega (arith, h)) e)

most : (top : ℕ) (levels : List ℕ) → top ≤ fold max top levels
most top [] = omega arith
most top (level ∷ levels) = omega (arith, most (max top level) levels)

at_most : (top : ℕ) (levels : List ℕ) (i : ℕ) → i < length levels → get_or levels i 0 ≤ fold max top levels
at_most top [] i h = absurd (omega (arith, h))
at_most top (level ∷ levels) zero h = omega (arith, most (max top level) levels)
at_most top (level ∷ levels) (suc i) h = at_most (max top level) levels i (omega (arith, h))

by_lowest : (levels : List ℕ) (i : ℕ) (o : Option ℕ) → is_odd (get_or levels i 0) ≡ true → get_or levels (suc i) 0 ≡ get_or levels i 0 → suc i < length levels
    → Says (has_odd levels) 0 (suc (highest levels)) o → Adjacent (suc i) i (order_by levels o)
by_lowest levels i None odd same within says =
    let x : ℕ = get_or levels i 0 in
    let there : has_odd levels x ≡ true = and_from (is_odd x) (list_any (λ other. other == x) levels) odd (is_there levels i (omega (arith, within))) in
    absurd (both_ways (has_odd levels x) (says x (omega arith) (omega (arith, at_most 0 levels i (omega (arith, within))))) there)
by_lowest levels i (Some low) odd same within says =
    let x : ℕ = get_or levels i 0 in
    let there : has_odd levels x ≡ true = and_from (is_odd x) (list_any (λ other. other == x) levels) odd (is_there levels i (omega (arith, within))) in
    let top : x ≤ highest levels = at_most 0 levels i (omega (arith, within)) in
    let low_odd : low % 2 ≡ 1 = eqb-true (low % 2) 1 (and_parts (is_odd low) (list_any (λ other. other == low) levels) says.0).0 in
    let x_odd : x % 2 ≡ 1 = eqb-true (x % 2) 1 odd in
    elim (cases_lt x low) [
      | inl below ↦ absurd (both_ways (has_odd levels x) (says.1 x (omega arith) below) there)
      | inr over ↦
          let d : ℕ = x - low in
          let k : ℕ = d / 2 in
          let twice : x - low ≡ (x - low) / 2 + (x - low) / 2 = omega (arith, low_odd, x_odd, over) in
          subst (λ (b : Bool). Lies b i (suc i) (order_by levels (Some low))) (odd_turns k d twice)
          (down levels i same within d low (suc (highest levels) - low) (omega (arith, over)) (omega (arith, over, top)))
    ]

-- two adjacent characters at the same odd level are adjacent in visual order, the second one first
pub neighbours : (levels : List ℕ) (i : ℕ) → is_odd (get_or levels i 0) ≡ true → get_or levels (suc i) 0 ≡ get_or levels i 0 → Adjacent (suc i) i (order_of levels)
unfolding order_of
neighbours levels i odd same =
    elim (cases_lt (suc i) (length levels)) [
      | inl within ↦ by_lowest levels i (lowest_odd levels) odd same within (least_says (has_odd levels) 0 (suc (highest levels)))
      | inr past ↦
          let none : get_or levels i 0 ≡ 0 = sym same ∙ get_or_past levels (suc i) 0 past in
          absurd (both_ways (is_odd (get_or levels i 0)) (ap is_odd none) odd)
    ]
