-- The highest level and the lowest odd level, as a scan of the levels finds them.
use Rattle.std.proofs.Common.{◌≡◌, ℕ, zero, suc, ◌+◌, ◌%◌, ◌<◌, ◌≤◌, ◌==◌, min, max, Bool, true, false, ◌&&◌, ◌||◌, if◌then◌else◌}
use Rattle.std.proofs.Common.{List, length, get_or, take, Option, Some, None, unwrap_or, IfSome, refl, sym, ap, subst, ◌∙◌, inl, inr, arith}
use Rattle.std.specs.List.{list_any}
use Rattle.std.proofs.lemmas.Bool.{both_ways, cases_Bool, cases_eq, cases_lt, cond-true, cond-false, and_from, and_left, and_parts, and_right, or_right, eq-eqb, eqb-true, ne_eqb}
use Rattle.std.proofs.lemmas.List.{take_all}
use Rattle.std.proofs.lemmas.List.Folds.{list_any_at, list_any_more, list_any_kept}
use Rattle.std.proofs.lemmas.List.Sums.{fold_more}
use Rattle.ucd.specs.Least.{least}
use Rattle.reorder.specs.Order.{has_odd, highest, is_odd, lowest_odd}

-- `least` returns k if k passes the test and no smaller number does
least_found : (p : ℕ → Bool) (low count k : ℕ) → low ≤ k → k < low + count → p k ≡ true → ((m : ℕ) → m < k → p m ≡ false) → least p low count ≡ Some k
least_found p low zero k from to here before = absurd (omega arith)
least_found p low (suc count) k from to here before =
    elim (cases_eq low k) [
      | inl e ↦ cond-true (p low) (Some low) (least p (suc low) count) (ap p e ∙ here) ∙ ap Some e
      | inr ne ↦ cond-false (p low) (Some low) (least p (suc low) count) (before low (omega arith))
          ∙ least_found p (suc low) count k (omega arith) (omega arith) here before
    ]

pub least_none : (p : ℕ → Bool) (low count : ℕ) → ((m : ℕ) → p m ≡ false) → least p low count ≡ None
least_none p low zero fails = refl
least_none p low (suc count) fails =
    cond-false (p low) (Some low) (least p (suc low) count) (fails low) ∙ least_none p (suc low) count fails

-- `low` is the lowest odd level of the list, and at most `top`
pub record IsLow (levels : List ℕ) (top low : ℕ) : Type 0 where
  pub found : has_odd levels low ≡ true
  pub first : (m : ℕ) → m < low → has_odd levels m ≡ false
  pub above : 0 < low
  pub below : low ≤ top

-- `Some low` is the lowest odd level of the list, and `None` means that no level is odd
abbrev pub IsLowest : List ℕ → ℕ → Option ℕ → Type 0
IsLowest levels top None = (m : ℕ) → has_odd levels m ≡ false
IsLowest levels top (Some low) = IsLow levels top low

-- the state of the scan after k levels: the highest level and the lowest odd level so far
pub record Extremes (levels : List ℕ) (k top : ℕ) (lowest : Option ℕ) : Type 0 where
  pub top_is : top ≡ highest (take k levels)
  pub lowest_is : IsLowest (take k levels) top lowest

pub Extremes-start : (levels : List ℕ) → Extremes levels 0 0 None
Extremes-start levels = record { top_is = refl; lowest_is = λ m. and_right (is_odd m) false refl }

or_none : (b : Bool) → (b || false) ≡ b
or_none true = refl
or_none false = refl

-- appending a level does not change whether a different level is odd and in the list
other : (levels : List ℕ) (k m : ℕ) → k < length levels → (get_or levels k 0 ≡ m → ⊥) → has_odd (take (k + 1) levels) m ≡ has_odd (take k levels) m
other levels k m within ne =
    let before = list_any (λ level. level == m) (take k levels) in
    ap (λ b. is_odd m && b) (list_any_more (λ level. level == m) levels k 0 within
    ∙ ap (λ b. before || b) (ne_eqb (get_or levels k 0) m ne) ∙ or_none before)

-- appending an even level does not change the odd levels of the list
even : (levels : List ℕ) (k m : ℕ) → k < length levels → is_odd (get_or levels k 0) ≡ false → has_odd (take (k + 1) levels) m ≡ has_odd (take k levels) m
even levels k m within e =
    elim (cases_eq (get_or levels k 0) m) [
      | inl same ↦
          let here : is_odd m ≡ false = ap is_odd (sym same) ∙ e in
          and_left (is_odd m) (list_any (λ level. level == m) (take (k + 1) levels)) here
          ∙ sym (and_left (is_odd m) (list_any (λ level. level == m) (take k levels)) here)
      | inr ne ↦ other levels k m within ne
    ]

-- an odd level is among the odd levels of the prefix that ends with it
here : (levels : List ℕ) (k : ℕ) → k < length levels → is_odd (get_or levels k 0) ≡ true → has_odd (take (k + 1) levels) (get_or levels k 0) ≡ true
here levels k within odd =
    let x = get_or levels k 0 in
    and_from (is_odd x) (list_any (λ level. level == x) (take (k + 1) levels)) odd
    (list_any_more (λ level. level == x) levels k 0 within ∙ or_right (list_any (λ level. level == x) (take k levels)) (x == x) (eq-eqb x x refl))

-- an odd level of a prefix is an odd level of every longer prefix
kept : (levels : List ℕ) (k m : ℕ) → has_odd (take k levels) m ≡ true → has_odd (take (k + 1) levels) m ≡ true
kept levels k m there =
    let both = and_parts (is_odd m) (list_any (λ level. level == m) (take k levels)) there in
    and_from (is_odd m) (list_any (λ level. level == m) (take (k + 1) levels)) both.0 (list_any_kept (λ level. level == m) levels k both.1)

positive : (x : ℕ) → is_odd x ≡ true → 0 < x
positive x odd = let e : x % 2 ≡ 1 = eqb-true (x % 2) 1 odd in omega arith

-- after an even level, the lowest odd level is the same as before
past_even : (levels : List ℕ) (k top next : ℕ) (lowest : Option ℕ) → k < length levels → is_odd (get_or levels k 0) ≡ false → top ≤ next
    → IsLowest (take k levels) top lowest → IsLowest (take (k + 1) levels) next lowest
past_even levels k top next None within e more w = λ m. even levels k m within e ∙ w m
past_even levels k top next (Some low) within e more w = record {
  found = kept levels k low w.found;
  first = λ m h. even levels k m within e ∙ w.first m h;
  above = w.above;
  below = omega (arith, w.below);
}

-- after an odd level that is lower than all earlier odd levels, that level is the lowest odd level
past_lower : (levels : List ℕ) (k top next : ℕ) → k < length levels → is_odd (get_or levels k 0) ≡ true → get_or levels k 0 ≤ next
    → ((m : ℕ) → m < get_or levels k 0 → has_odd (take k levels) m ≡ false) → IsLow (take (k + 1) levels) next (get_or levels k 0)
past_lower levels k top next within odd more w = record {
  found = here levels k within odd;
  first = λ m h. other levels k m within (λ e. omega arith) ∙ w m h;
  above = positive (get_or levels k 0) odd;
  below = more;
}

past_odd : (levels : List ℕ) (k top next : ℕ) (lowest : Option ℕ) → k < length levels → is_odd (get_or levels k 0) ≡ true → next ≡ max top (get_or levels k 0)
    → IsLowest (take k levels) top lowest → IsLow (take (k + 1) levels) next (min (unwrap_or lowest (get_or levels k 0)) (get_or levels k 0))
past_odd levels k top next None within odd most w =
    let x = get_or levels k 0 in
    let e : min x x ≡ x = omega arith in
    subst (λ (low : ℕ). IsLow (take (k + 1) levels) next low) (sym e) (past_lower levels k top next within odd (omega arith) (λ m h. w m))
past_odd levels k top next (Some low) within odd most w =
    let x = get_or levels k 0 in
    elim (cases_lt x low) [
      | inl lower ↦
          let e : min low x ≡ x = omega arith in
          subst (λ (l : ℕ). IsLow (take (k + 1) levels) next l) (sym e)
          (past_lower levels k top next within odd (omega arith) (λ m h. w.first m (omega arith)))
      | inr higher ↦
          let e : min low x ≡ low = omega arith in
          let stays : IsLow (take (k + 1) levels) next low = record {
            found = kept levels k low w.found;
            first = λ m h. other levels k m within (λ same. omega arith) ∙ w.first m h;
            above = w.above;
            below = omega (arith, w.below);
          } in
          subst (λ (l : ℕ). IsLow (take (k + 1) levels) next l) (sym e) stays
    ]

pub Extremes-next : (levels : List ℕ) (k top next : ℕ) (lowest after : Option ℕ) → Extremes levels k top lowest → k < length levels
    → next ≡ max top (get_or levels k 0)
    → after ≡ (if is_odd (get_or levels k 0) then Some (min (unwrap_or lowest (get_or levels k 0)) (get_or levels k 0)) else lowest)
    → Extremes levels (k + 1) next after
Extremes-next levels k top next lowest after w within most is =
    let x = get_or levels k 0 in
    record {
      top_is = most ∙ ap (λ n. max n x) w.top_is ∙ sym (fold_more max 0 levels k 0 within);
      lowest_is = elim (cases_Bool (is_odd x)) [
        | inl odd ↦
            subst (λ (o : Option ℕ). IsLowest (take (k + 1) levels) next o) (sym (is ∙ cond-true (is_odd x) (Some (min (unwrap_or lowest x) x)) lowest odd))
            (past_odd levels k top next lowest within odd most w.lowest_is)
        | inr e ↦
            subst (λ (o : Option ℕ). IsLowest (take (k + 1) levels) next o) (sym (is ∙ cond-false (is_odd x) (Some (min (unwrap_or lowest x) x)) lowest e))
            (past_even levels k top next lowest within e (omega arith) w.lowest_is)
      ];
    }

-- the result of the scan: the highest level and the lowest odd level
pub record Found (levels : List ℕ) (top : ℕ) (lowest : Option ℕ) : Type 0 where
  pub top_is : top ≡ highest levels
  pub lowest_is : lowest ≡ lowest_odd levels
  pub ordered : IfSome lowest (λ low. (0 < low) × (low ≤ top))

-- the lowest odd level that the scan finds is `lowest_odd`
is_least : (levels : List ℕ) (top : ℕ) (lowest : Option ℕ) → top ≡ highest levels → IsLowest levels top lowest → Found levels top lowest
is_least levels top None e w = record { top_is = e; lowest_is = sym (least_none (has_odd levels) 0 (suc (highest levels)) w); ordered = tt }
is_least levels top (Some low) e w = record {
  top_is = e;
  lowest_is = sym (least_found (has_odd levels) 0 (suc (highest levels)) low (omega arith) (omega (arith, w.below)) w.found w.first);
  ordered = (w.above, w.below);
}

pub Extremes-end : (levels : List ℕ) (k top : ℕ) (lowest : Option ℕ) → Extremes levels k top lowest → length levels ≤ k → Found levels top lowest
Extremes-end levels k top lowest w past =
    let whole : take k levels ≡ levels = take_all k levels past in
    is_least levels top lowest (w.top_is ∙ ap highest whole) (subst (λ (xs : List ℕ). IsLowest xs top lowest) whole w.lowest_is)

-- ---- the same scan, with a number and a flag for the lowest odd level; an even level counts as 255

abbrev pub lowest_by : Bool → ℕ → Option ℕ
lowest_by any low = if any then Some low else None

pub record Reduced (levels : List ℕ) (k top : ℕ) (any : Bool) (low : ℕ) : Type 0 where
  pub extremes : Extremes levels k top (lowest_by any low)
  pub most : any ≡ false → low ≡ 255
  pub small : low ≤ 255

pub Reduced-start : (levels : List ℕ) → Reduced levels 0 0 false 255
Reduced-start levels = record { extremes = Extremes-start levels; most = λ _. refl; small = omega arith }

step_by : (any odd : Bool) (low x after : ℕ) → (any ≡ false → low ≡ 255) → low ≤ 255 → x ≤ 255 → after ≡ min low (if odd then x else 255)
    → (lowest_by (any || odd) after ≡ (if odd then Some (min (unwrap_or (lowest_by any low) x) x) else lowest_by any low)) × ((any || odd) ≡ false → after ≡ 255)
step_by true true low x after most small fits is = (ap Some is, λ h. absurd (both_ways true h refl))
step_by true false low x after most small fits is = (ap Some (omega (arith, is)), λ h. absurd (both_ways true h refl))
step_by false true low x after most small fits is = (ap Some (omega (arith, is, most refl)), λ h. absurd (both_ways true h refl))
step_by false false low x after most small fits is = (refl, λ h. omega (arith, is, most refl))

pub Reduced-next : (levels : List ℕ) (k top next : ℕ) (any more : Bool) (low after : ℕ) → Reduced levels k top any low → k < length levels
    → get_or levels k 0 ≤ 255 → next ≡ max top (get_or levels k 0) → more ≡ (any || is_odd (get_or levels k 0))
    → after ≡ min low (if is_odd (get_or levels k 0) then get_or levels k 0 else 255) → Reduced levels (k + 1) next more after
Reduced-next levels k top next any more low after w within fits most adds is =
    let x : ℕ = get_or levels k 0 in
    let both = step_by any (is_odd x) low x after w.most w.small fits is in
    record {
      extremes = Extremes-next levels k top next (lowest_by any low) (lowest_by more after) w.extremes within most
          (ap (λ (b : Bool). lowest_by b after) adds ∙ both.0);
      most = λ h. both.1 (sym adds ∙ h);
      small = omega (arith, is, w.small);
    }

-- if the scan finds no odd level, all levels are even
pub all_even : (levels : List ℕ) (k top : ℕ) (lowest : Option ℕ) → Extremes levels k top lowest → length levels ≤ k → lowest ≡ None
    → (i : ℕ) → i < length levels → is_odd (get_or levels i 0) ≡ false
all_even levels k top lowest w past none i within =
    let x : ℕ = get_or levels i 0 in
    let whole : take k levels ≡ levels = take_all k levels past in
    let none_odd : IsLowest levels top None = subst (λ (xs : List ℕ). IsLowest xs top None) whole (subst (λ (o : Option ℕ). IsLowest (take k levels) top o) none w.lowest_is) in
    elim (cases_Bool (is_odd x)) [
      | inl odd ↦ absurd (both_ways (has_odd levels x) (none_odd x)
          (and_from (is_odd x) (list_any (λ level. level == x) levels) odd (list_any_at (λ level. level == x) levels i 0 within (eq-eqb x x refl))))
      | inr e ↦ e
    ]
