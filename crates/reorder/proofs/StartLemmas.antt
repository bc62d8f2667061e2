-- The level runs of a line in visual order, one after the other.
use Rattle.std.proofs.Common.{◌≡◌, ◌≢◌, ℕ, zero, suc, ◌+◌, ◌-◌, ◌<◌, ◌≤◌, ◌==◌, Bool, true, false, List, [], ◌∷◌, length, get_or, map}
use Rattle.std.proofs.Common.{◌⊎◌, Some, None, refl, sym, ap, subst, ◌∙◌, inl, inr, arith}
use Rattle.std.specs.List.{filter}
use Rattle.std.proofs.lemmas.Bool.{both_ways, cases_Bool, cases_eq, cases_lt, cond-true, cond-false, eq-eqb, ne_eqb, not-true}
use Rattle.reorder.specs.LevelRuns.{level_run_len, same_len}
use Rattle.reorder.specs.Lowest.{IsLeft, IsLeftmostOn, IsLowest, IsNext}
use Rattle.reorder.specs.Order.{is_odd, order_of}
use Rattle.reorder.specs.Runs.{begins_run, items_from, run_from, run_starts, runs_left, runs_of, IsStartOf}
use Rattle.reorder.proofs.LowestLemmas.{not_both, not_itself, one_way}
use Rattle.std.proofs.lemmas.List.{get_or_default}
use Rattle.reorder.proofs.InverseLemmas.{permuted_places, ArePlaces}
use Rattle.reorder.proofs.OrderLemmas.{order_of_permutes}
use Rattle.reorder.proofs.RunLemmas.{same_at}
use Rattle.reorder.proofs.SortedLemmas.{order_sorted, EachOf, EachOf-from_All, EachOf-map, Sorted, Sorted-filter}

-- ---- the suffix of a sorted list that begins with a given item

abbrev pub Has : ℕ → List ℕ → Type 0
Has x [] = ⊥
Has x (y ∷ ys) = (y ≡ x) ⊎ Has x ys

EachOf-at : (P : ℕ → Type 0) (x : ℕ) (ys : List ℕ) → EachOf P ys → Has x ys → P x
EachOf-at P x [] each has = absurd has
EachOf-at P x (y ∷ ys) each (inl same) = subst P same each.0
EachOf-at P x (y ∷ ys) each (inr later) = EachOf-at P x ys each.1 later

first_from : (x : ℕ) (ys : List ℕ) → items_from x (x ∷ ys) ≡ x ∷ ys
first_from x ys = cond-true (x == x) (x ∷ ys) (items_from x ys) (eq-eqb x x refl)

later_from : (x y : ℕ) (ys : List ℕ) → (y ≡ x → ⊥) → items_from x (y ∷ ys) ≡ items_from x ys
later_from x y ys other = cond-false (y == x) (y ∷ ys) (items_from x ys) (ne_eqb y x other)

module _ (levels : List ℕ) where
  abbrev level_at : ℕ → ℕ
  level_at k = get_or levels k 0

  -- if all other items are to the right of `first`, the items from `first` on are the whole list
  all_from : (first : ℕ) (ys : List ℕ) → Sorted (IsLeft levels) ys → Has first ys → EachOf (λ y. (y ≡ first) ⊎ IsLeft levels first y) ys
      → items_from first ys ≡ ys
  all_from first [] sorted has each = refl
  all_from first (y ∷ ys) sorted has each =
      elim each.0 [
        | inl same ↦ subst (λ k. items_from k (y ∷ ys) ≡ y ∷ ys) same (first_from y ys)
        | inr right ↦
            elim has [
              | inl same ↦ absurd (not_itself levels first y right (sym same))
              | inr later ↦ absurd (not_both levels first y right (EachOf-at (IsLeft levels y) first ys sorted.0 later))
            ]
      ]

  -- if `next` is directly to the right of x, the items from x on are x, followed by the items from `next` on
  next_from : (x next : ℕ) (ys : List ℕ) → Sorted (IsLeft levels) ys → Has x ys → Has next ys → IsLeft levels x next
      → EachOf (λ y. IsLeft levels x y → (y ≡ next) ⊎ IsLeft levels next y) ys → items_from x ys ≡ x ∷ items_from next ys
  next_from x next [] sorted has there right each = absurd has
  next_from x next (y ∷ ys) sorted (inl same) there right each =
      let apart : y ≡ next → ⊥ = λ e. not_itself levels x next right (sym same ∙ e) in
      let later : Has next ys = elim there [ inl e ↦ absurd (apart e) | inr h ↦ h ] in
      let rest : EachOf (λ z. (z ≡ next) ⊎ IsLeft levels next z) ys =
      both ys (subst (λ k. EachOf (IsLeft levels k) ys) same sorted.0) each.1 in
      subst (λ k. items_from x (k ∷ ys) ≡ x ∷ items_from next (k ∷ ys)) (sym same)
      (first_from x ys ∙ ap (λ (zs : List ℕ). x ∷ zs) (sym (all_from next ys sorted.1 later rest))
      ∙ ap (λ (zs : List ℕ). x ∷ zs) (sym (later_from next x ys (λ e. apart (same ∙ e)))))
    where
      both : (zs : List ℕ) → EachOf (IsLeft levels x) zs → EachOf (λ z. IsLeft levels x z → (z ≡ next) ⊎ IsLeft levels next z) zs
          → EachOf (λ z. (z ≡ next) ⊎ IsLeft levels next z) zs
      both [] rights alls = tt
      both (z ∷ zs) rights alls = (alls.0 rights.0, both zs rights.1 alls.1)
  next_from x next (y ∷ ys) sorted (inr has) there right each =
      let left : IsLeft levels y x = EachOf-at (IsLeft levels y) x ys sorted.0 has in
      let apart : y ≡ next → ⊥ = λ e. not_both levels x next right (subst (λ k. IsLeft levels k x) e left) in
      let later : Has next ys = elim there [ inl e ↦ absurd (apart e) | inr h ↦ h ] in
      later_from x y ys (not_itself levels y x left)
      ∙ next_from x next ys sorted.1 has later right each.1
      ∙ ap (λ (zs : List ℕ). x ∷ zs) (sym (later_from next y ys apart))

  -- if x is to the right of all other items, the items from x on are x alone
  last_from : (x : ℕ) (ys : List ℕ) → Sorted (IsLeft levels) ys → Has x ys → EachOf (λ y. y ≢ x → IsLeft levels y x) ys → items_from x ys ≡ x ∷ []
  last_from x [] sorted has each = absurd has
  last_from x (y ∷ []) sorted (inl same) each = subst (λ k. items_from x (k ∷ []) ≡ x ∷ []) (sym same) (first_from x [])
  last_from x (y ∷ z ∷ ys) sorted (inl same) each =
      let right : IsLeft levels x z = subst (λ k. IsLeft levels k z) same sorted.0.0 in
      absurd (not_both levels x z right (each.1.0 (λ e. not_itself levels x z right (sym e))))
  last_from x (y ∷ ys) sorted (inr has) each =
      let left : IsLeft levels y x = EachOf-at (IsLeft levels y) x ys sorted.0 has in
      later_from x y ys (not_itself levels y x left) ∙ last_from x ys sorted.1 has each.1

  -- ---- the characters of a run are on the same side of each other character

  -- the characters from `lo` up to and including `hi` are at the same level
  pub record OneLevel (lo hi level : ℕ) : Type 0 where
    pub same : (k : ℕ) → lo ≤ k → k ≤ hi → level_at k ≡ level

  module _ (lo hi level x y z : ℕ) (one : OneLevel lo hi level) (x_from : lo ≤ x) (x_to : x ≤ hi) (y_from : lo ≤ y) (y_to : y ≤ hi) where
    moved_on : (low : ℕ) → hi < z → IsLowest levels x z low → IsLowest levels y z low
    moved_on low out l =
        let here : low ≤ level_at x = l.all x (omega arith) (omega arith) in
        let x_is : level_at x ≡ level = one.same x x_from x_to in
        let all : (k : ℕ) → y ≤ k → k ≤ z → low ≤ level_at k =
        λ k from to. elim (cases_lt k x) [
          | inl before ↦ let is : level_at k ≡ level = one.same k (omega arith) (omega arith) in omega (arith, here, x_is, is)
          | inr after ↦ l.all k after to
        ] in
        elim (cases_lt l.at y) [
          | inr after ↦ record { all = all; at = l.at; from = after; to = l.to; is = l.is }
          | inl before ↦
              let first : x ≤ l.at = l.from in
              let is : level_at l.at ≡ level = one.same l.at (omega (arith, first)) (omega arith) in
              let y_is : level_at y ≡ level = one.same y y_from y_to in
              record { all = all; at = y; from = omega arith; to = omega arith; is = y_is ∙ sym is ∙ l.is }
        ]

    moved_back : (low : ℕ) → z < lo → IsLowest levels z x low → IsLowest levels z y low
    moved_back low out l =
        let here : low ≤ level_at x = l.all x (omega arith) (omega arith) in
        let x_is : level_at x ≡ level = one.same x x_from x_to in
        let all : (k : ℕ) → z ≤ k → k ≤ y → low ≤ level_at k =
        λ k from to. elim (cases_lt x k) [
          | inl after ↦ let is : level_at k ≡ level = one.same k (omega arith) (omega arith) in omega (arith, here, x_is, is)
          | inr before ↦ l.all k from before
        ] in
        elim (cases_lt y l.at) [
          | inr before ↦ record { all = all; at = l.at; from = l.from; to = before; is = l.is }
          | inl after ↦
              let last : l.at ≤ x = l.to in
              let is : level_at l.at ≡ level = one.same l.at (omega arith) (omega (arith, last)) in
              let y_is : level_at y ≡ level = one.same y y_from y_to in
              record { all = all; at = y; from = omega arith; to = omega arith; is = y_is ∙ sym is ∙ l.is }
        ]

    shifted : (z < lo) ⊎ (hi < z) → IsLeft levels x z → IsLeft levels y z
    shifted (inl out) (inl kept) = let less : x < z = kept.before in absurd (omega arith)
    shifted (inr out) (inl kept) = inl (record { before = omega arith; low = kept.low; lowest = moved_on kept.low out kept.lowest; even = kept.even })
    shifted (inl out) (inr turned) = inr (record { after = omega arith; low = turned.low; lowest = moved_back turned.low out turned.lowest; odd = turned.odd })
    shifted (inr out) (inr turned) = let less : z < x = turned.after in absurd (omega arith)

  other_than : (lo hi x z : ℕ) → lo ≤ x → x ≤ hi → (z < lo) ⊎ (hi < z) → x ≢ z
  other_than lo hi x z from to (inl out) e = absurd (omega arith)
  other_than lo hi x z from to (inr out) e = absurd (omega arith)

  shifted_to : (lo hi level x y z : ℕ) → OneLevel lo hi level → lo ≤ x → x ≤ hi → lo ≤ y → y ≤ hi → (z < lo) ⊎ (hi < z) → IsLeft levels z x → IsLeft levels z y
  shifted_to lo hi level x y z one x_from x_to y_from y_to out left =
      elim (one_way levels y z (other_than lo hi y z y_from y_to out)) [
        | inr fine ↦ fine
        | inl right ↦ absurd (not_both levels z x left (shifted lo hi level y x z one y_from y_to x_from x_to out right))
      ]

  -- ---- runs

  same_most : (level s count : ℕ) → same_len levels level s count ≤ count
  same_most level s zero = omega arith
  same_most level s (suc count) =
      let more : ℕ = suc (same_len levels level (s + 1) count) in
      elim (cases_Bool (level_at s == level)) [
        | inl on ↦ omega (arith, cond-true (level_at s == level) more zero on, same_most level (s + 1) count)
        | inr off ↦ omega (arith, cond-false (level_at s == level) more zero off)
      ]

  same_stops : (level s count : ℕ) → same_len levels level s count < count → level_at (s + same_len levels level s count) ≢ level
  same_stops level s zero short = absurd (omega arith)
  same_stops level s (suc count) short =
      let more : ℕ = suc (same_len levels level (s + 1) count) in
      elim (cases_Bool (level_at s == level)) [
        | inl on ↦
            let is : same_len levels level s (suc count) ≡ more = cond-true (level_at s == level) more zero on in
            let at : s + 1 + same_len levels level (s + 1) count ≡ s + same_len levels level s (suc count) = omega (arith, is) in
            λ e. same_stops level (s + 1) count (omega (arith, is)) (ap level_at at ∙ e)
        | inr off ↦
            let is : same_len levels level s (suc count) ≡ zero = cond-false (level_at s == level) more zero off in
            let at : s ≡ s + same_len levels level s (suc count) = omega (arith, is) in
            λ e. both_ways (level_at s == level) off (eq-eqb (level_at s) level (ap level_at at ∙ e))
      ]

  -- where the run that begins at s ends
  abbrev end_of : ℕ → ℕ
  end_of s = s + level_run_len levels s

  pub run_level : (s : ℕ) → OneLevel s (end_of s - 1) (level_at s)
  run_level s = record {
    same = λ k from to. elim (cases_eq k s) [
      | inl first ↦ ap level_at first
      | inr other ↦
          let at : s + 1 + (k - (s + 1)) ≡ k = omega arith in
          ap level_at (sym at) ∙ same_at levels (level_at s) (s + 1) (length levels - (s + 1)) (k - (s + 1)) (omega arith)
    ];
  }

  pub run_within : (s : ℕ) → s < length levels → end_of s ≤ length levels
  run_within s below = omega (arith, same_most (level_at s) (s + 1) (length levels - (s + 1)))

  pub run_stops : (s : ℕ) → end_of s < length levels → level_at (end_of s) ≢ level_at s
  run_stops s below =
      let at : s + 1 + same_len levels (level_at s) (s + 1) (length levels - (s + 1)) ≡ end_of s = omega arith in
      λ e. same_stops (level_at s) (s + 1) (length levels - (s + 1)) (omega arith) (ap level_at at ∙ e)

  -- the first character of a run is not at the level of the character before it
  pub begins_apart : (t k : ℕ) → begins_run levels t ≡ true → suc k ≡ t → level_at t ≡ level_at k → ⊥
  begins_apart zero k begins e same = absurd (omega arith)
  begins_apart (suc t) k begins e same =
      let k_is : k ≡ t = omega arith in
      both_ways (level_at (suc t) == level_at t) (not-true (level_at (suc t) == level_at t) begins) (eq-eqb (level_at (suc t)) (level_at t) (same ∙ ap level_at k_is))

  -- no other run begins inside a run
  out_of : (lo hi level t : ℕ) → OneLevel lo hi level → begins_run levels t ≡ true → t ≢ lo → (t < lo) ⊎ (hi < t)
  out_of lo hi level t one begins other =
      elim (cases_lt t lo) [
        | inl before ↦ inl before
        | inr from ↦
            elim (cases_lt hi t) [
              | inl after ↦ inr after
              | inr to ↦
                  let k : ℕ = t - 1 in
                  let e : suc k ≡ t = omega arith in
                  absurd (begins_apart t k begins e (one.same t from to ∙ sym (one.same k (omega arith) (omega arith))))
            ]
      ]

  -- the character at the right end of the run that begins at s
  abbrev pub IsLast : ℕ → ℕ → Type 0
  IsLast s last = ((is_odd (level_at s) ≡ true) × (last ≡ s)) ⊎ ((is_odd (level_at s) ≡ false) × (last + 1 ≡ end_of s))

  last_in : (s last : ℕ) → IsLast s last → (s ≤ last) × (last ≤ end_of s - 1)
  last_in s last (inl odd) = (omega (arith, odd.1), omega (arith, odd.1))
  last_in s last (inr even) = (omega (arith, even.1), omega (arith, even.1))

  all_left : (s last k : ℕ) → IsLast s last → s ≤ k → k ≤ end_of s - 1 → k ≢ last → IsLeft levels k last
  all_left s last k (inl odd) from to other =
      let one : OneLevel s (end_of s - 1) (level_at s) = run_level s in
      inr (record {
        after = omega (arith, odd.1, other);
        low = level_at s;
        lowest = record {
          all = λ m since until. let is : level_at m ≡ level_at s = one.same m (omega (arith, odd.1)) (omega arith) in omega (arith, is);
          at = s;
          from = omega (arith, odd.1);
          to = from;
          is = refl;
        };
        odd = odd.0;
      })
  all_left s last k (inr even) from to other =
      let one : OneLevel s (end_of s - 1) (level_at s) = run_level s in
      inl (record {
        before = omega (arith, even.1, other);
        low = level_at s;
        lowest = record {
          all = λ m since until. let is : level_at m ≡ level_at s = one.same m (omega arith) (omega (arith, even.1)) in omega (arith, is);
          at = k;
          from = omega arith;
          to = omega (arith, even.1);
          is = one.same k from to;
        };
        even = even.0;
      })

  -- a character to the right of a run's rightmost character is outside the run
  right_out : (s last q : ℕ) → IsLast s last → IsLeft levels last q → (q < s) ⊎ (end_of s - 1 < q)
  right_out s last q is right =
      elim (cases_lt q s) [
        | inl before ↦ inl before
        | inr from ↦
            elim (cases_lt (end_of s - 1) q) [
              | inl after ↦ inr after
              | inr to ↦
                  absurd (not_both levels last q right (all_left s last q is from to (λ e. not_itself levels last q right (sym e))))
            ]
      ]

  -- ---- where runs begin

  Has-from_get : (x : ℕ) (ys : List ℕ) (i : ℕ) → i < length ys → get_or ys i 0 ≡ x → Has x ys
  Has-from_get x [] i inside is = absurd (omega arith)
  Has-from_get x (y ∷ ys) zero inside is = inl is
  Has-from_get x (y ∷ ys) (suc i) inside is = inr (Has-from_get x ys i (omega arith) is)

  Has-filter : (test : ℕ → Bool) (x : ℕ) (ys : List ℕ) → test x ≡ true → Has x ys → Has x (filter test ys)
  Has-filter test x [] on has = has
  Has-filter test x (y ∷ ys) on (inl same) =
      subst (λ (zs : List ℕ). Has x zs) (sym (cond-true (test y) (y ∷ filter test ys) (filter test ys) (ap test same ∙ on))) (inl same)
  Has-filter test x (y ∷ ys) on (inr later) =
      elim (cases_Bool (test y)) [
        | inl here ↦
            subst (λ (zs : List ℕ). Has x zs) (sym (cond-true (test y) (y ∷ filter test ys) (filter test ys) here)) (inr (Has-filter test x ys on later))
        | inr off ↦
            subst (λ (zs : List ℕ). Has x zs) (sym (cond-false (test y) (y ∷ filter test ys) (filter test ys) off)) (Has-filter test x ys on later)
      ]

  has_start : (s : ℕ) → s < length levels → begins_run levels s ≡ true → Has s (run_starts levels)
  has_start s below begins =
      let are : ArePlaces (length levels) (order_of levels) = permuted_places (length levels) (order_of levels) (order_of_permutes levels) in
      let found = are.covers s below in
      Has-filter (begins_run levels) s (order_of levels) begins
      (Has-from_get s (order_of levels) found.0 (omega (arith, found.1, are.sizes)) found.2)

  starts_sorted : Sorted (IsLeft levels) (run_starts levels)
  starts_sorted = Sorted-filter (IsLeft levels) (begins_run levels) (order_of levels) (order_sorted levels)

  abbrev IsStart : ℕ → Type 0
  IsStart t = (t < length levels) × (begins_run levels t ≡ true)

  pub are_starts : EachOf IsStart (run_starts levels)
  are_starts = passing (order_of levels) below
    where
      below : EachOf (λ t. t < length levels) (order_of levels)
      below = EachOf-from_All (λ t. t < length levels) (order_of levels)
          (λ i d inside.
          let are : ArePlaces (length levels) (order_of levels) = permuted_places (length levels) (order_of levels) (order_of_permutes levels) in
          let here : get_or (order_of levels) i 0 < length levels = are.within i (omega (arith, inside, are.sizes)) in
          omega (arith, here, get_or_default (order_of levels) i d 0 inside))

      passing : (ys : List ℕ) → EachOf (λ t. t < length levels) ys → EachOf IsStart (filter (begins_run levels) ys)
      passing [] each = tt
      passing (y ∷ ys) each =
          elim (cases_Bool (begins_run levels y)) [
            | inl on ↦
                subst (λ (zs : List ℕ). EachOf IsStart zs) (sym (cond-true (begins_run levels y) (y ∷ filter (begins_run levels) ys) (filter (begins_run levels) ys) on))
                ((each.0, on), passing ys each.1)
            | inr off ↦
                subst (λ (zs : List ℕ). EachOf IsStart zs) (sym (cond-false (begins_run levels y) (y ∷ filter (begins_run levels) ys) (filter (begins_run levels) ys) off))
                (passing ys each.1)
          ]

  start_level : (q s : ℕ) → IsStartOf levels q s → OneLevel s q (level_at q)
  start_level q s w = record { same = w.level }

  -- ---- the next run

  module _ (s last : ℕ) (below : s < length levels) (begins : begins_run levels s ≡ true) (is : IsLast s last) where
    run_one : OneLevel s (end_of s - 1) (level_at s)
    run_one = run_level s

    last_from_s : s ≤ last
    last_from_s = (last_in s last is).0

    last_to : last ≤ end_of s - 1
    last_to = (last_in s last is).1

    s_to : s ≤ end_of s - 1
    s_to = omega arith

    pub run_last : IsNext levels last None → runs_left levels (Some s) ≡ run_from levels s ∷ runs_left levels None
    unfolding runs_left
    run_last none =
        ap (map (run_from levels)) (last_from s (run_starts levels) starts_sorted (has_start s below begins) (EachOf-map IsStart (λ t. t ≢ s → IsLeft levels t s) left (run_starts levels) are_starts))
      where
        left : (t : ℕ) → IsStart t → t ≢ s → IsLeft levels t s
        left t start other =
            let out : (t < s) ⊎ (end_of s - 1 < t) = out_of s (end_of s - 1) (level_at s) t run_one start.1 other in
            shifted_to s (end_of s - 1) (level_at s) last s t run_one last_from_s last_to (omega arith) s_to out
            (none t start.0 (λ e. other_than s (end_of s - 1) last t last_from_s last_to out (sym e)))

    pub run_next : (q next : ℕ) → IsNext levels last (Some q) → IsStartOf levels q next → runs_left levels (Some s) ≡ run_from levels s ∷ runs_left levels (Some next)
    unfolding runs_left
    run_next q next w start =
        ap (map (run_from levels))
        (next_from s next (run_starts levels) starts_sorted (has_start s below begins)
        (has_start next (omega (arith, start.to, w.within)) start.begins) right (EachOf-map IsStart (λ t. IsLeft levels s t → (t ≡ next) ⊎ IsLeft levels next t) first (run_starts levels) are_starts))
      where
        next_one : OneLevel next q (level_at q)
        next_one = start_level q next start

        q_out : (q < s) ⊎ (end_of s - 1 < q)
        q_out = right_out s last q is w.after

        s_right : IsLeft levels s q
        s_right = shifted s (end_of s - 1) (level_at s) last s q run_one last_from_s last_to (omega arith) s_to q_out w.after

        -- the run's start is not in the next run
        s_out : (s < next) ⊎ (q < s)
        s_out =
            out_of next q (level_at q) s next_one begins (λ e.
            let q_from : s ≤ q = omega (arith, e, start.to) in
            elim q_out [
              | inl before ↦ absurd (omega arith)
              | inr after ↦
                  let same : level_at (end_of s) ≡ level_at s = w_level e after in
                  absurd (run_stops s (omega (arith, after, w.within)) same)
            ])
          where
            w_level : s ≡ next → end_of s - 1 < q → level_at (end_of s) ≡ level_at s
            w_level e after =
                next_one.same (end_of s) (omega (arith, e)) (omega arith)
                ∙ sym (next_one.same s (omega (arith, e)) (omega (arith, e, start.to)))

        right : IsLeft levels s next
        right = shifted_to next q (level_at q) q next s next_one start.to (omega arith) (omega arith) start.to s_out s_right

        first : (t : ℕ) → IsStart t → IsLeft levels s t → (t ≡ next) ⊎ IsLeft levels next t
        first t begin after =
            let other : t ≢ s = λ e. not_itself levels s t after (sym e) in
            let out : (t < s) ⊎ (end_of s - 1 < t) = out_of s (end_of s - 1) (level_at s) t run_one begin.1 other in
            let beyond : IsLeft levels last t = shifted s (end_of s - 1) (level_at s) s last t run_one (omega arith) s_to last_from_s last_to out after in
            elim (cases_eq t next) [
              | inl same ↦ inl same
              | inr apart ↦
                  let away : (t < next) ⊎ (q < t) = out_of next q (level_at q) t next_one begin.1 apart in
                  let q_other : t ≢ q = λ e. other_than next q q t start.to (omega arith) away (sym e) in
                  inr (shifted next q (level_at q) q next t next_one start.to (omega arith) (omega arith) start.to away (w.first t begin.0 beyond q_other))
            ]

  -- ---- the first run

  pub run_first : (x s : ℕ) → IsLeftmostOn levels 0 0 x → IsStartOf levels x s → runs_left levels (Some s) ≡ runs_of levels
  unfolding runs_left runs_of
  run_first x s w start =
      ap (map (run_from levels)) (all_from s (run_starts levels) starts_sorted (has_start s (omega (arith, start.to, w.within)) start.begins)
      (EachOf-map IsStart (λ t. (t ≡ s) ⊎ IsLeft levels s t) first (run_starts levels) are_starts))
    where
      one : OneLevel s x (level_at x)
      one = start_level x s start

      first : (t : ℕ) → IsStart t → (t ≡ s) ⊎ IsLeft levels s t
      first t begin =
          elim (cases_eq t s) [
            | inl same ↦ inl same
            | inr apart ↦
                let away : (t < s) ⊎ (x < t) = out_of s x (level_at x) t one begin.1 apart in
                let other : t ≢ x = λ e. other_than s x x t start.to (omega arith) away (sym e) in
                inr (shifted s x (level_at x) x s t one start.to (omega arith) (omega arith) start.to away
                (w.leftmost t (omega arith) begin.0 (λ k from to. omega arith) other))
          ]

  pub run_none : length levels ≡ 0 → runs_left levels None ≡ runs_of levels
  unfolding runs_left runs_of
  run_none none = ap (map (run_from levels)) (nothing (run_starts levels) are_starts)
    where
      nothing : (ys : List ℕ) → EachOf IsStart ys → [] ≡ ys
      nothing [] each = refl
      nothing (y ∷ ys) each = absurd (omega (arith, each.0.0))
