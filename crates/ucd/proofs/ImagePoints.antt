-- The values that the pairs of an image assign to code points.
use Rattle.std.proofs.Common.{◌≡◌, ℕ, zero, suc, ◌+◌, ◌<◌, ◌≤◌, ◌==◌, Bool, true, List, Option, Some, is_some, IsSome, if◌then◌else◌, refl, sym, ◌∙◌, ap, subst, inl, inr, add-one, arith}
use Rattle.std.proofs.lemmas.Bool.{cases_Bool, cases_lt, cases_eq, false≢true}
use Rattle.std.proofs.lemmas.Bool.Decides.{nat_tests}
use Rattle.ucd.specs.Answers.{PropertyAnswers, answers_in}
use Rattle.ucd.specs.Images.{bits_at, point_at, point_value, found, IsPoint, ArePoints, AreFlags}

module _ {V : Type 0} (decode : ℕ → Option V) (bytes : List ℕ) (start : ℕ) where
  -- one more pair assigns its value to its code point, and does not change the values of other code points
  pub found_more : (k c : ℕ) → found decode bytes start (k + 1) c
      ≡ (if point_at decode bytes start k == c then point_value decode bytes start k else found decode bytes start k c)
  unfolding found
  found_more k c = rw add-one refl

  -- `IsPoint` holds for pair k if its number encodes a value and its code point is in range and above all
  -- earlier ones
  pub point_more : (k next : ℕ) (v : V) → ((j : ℕ) → j < k → point_at decode bytes start j < next) → next ≤ point_at decode bytes start k
      → point_at decode bytes start k < 1114112 → point_value decode bytes start k ≡ Some v → IsPoint decode bytes start k
  point_more k next v below least within is = record {
    within = within;
    ascending = λ j lt. omega (arith, below j lt);
    value = ap is_some is;
  }

  -- a code point has a value if and only if it is the code point of a pair
  pub pair_of : (count c : ℕ) → IsSome (found decode bytes start count c) → (k : ℕ) × (k < count) × (point_at decode bytes start k ≡ c)
  unfolding found
  pair_of zero c some = cc
  pair_of (suc n) c some = elim (cases_eq (point_at decode bytes start n) c) [
    | inl here ↦ (n, omega arith, here)
    | inr other ↦
        let rest : IsSome (found decode bytes start n c) = grind (arith, nat_tests) in
        let k = pair_of n c rest in
        (k.0, omega (arith, k.1), k.2)
  ]

  pub some_found : (count : ℕ) → ArePoints decode bytes start count → (k : ℕ) → k < count → IsSome (found decode bytes start count (point_at decode bytes start k))
  unfolding found
  some_found zero are k lt = absurd (omega arith)
  some_found (suc n) are k lt = elim (cases_eq (point_at decode bytes start n) (point_at decode bytes start k)) [
    | inl here ↦
        let value = (are n (omega arith)).value in
        grind (arith, nat_tests)
    | inr other ↦
        let below : k < n = elim (cases_lt k n) [ inl lt ↦ lt | inr ge ↦ (let same : k ≡ n = omega arith in absurd (other (ap (point_at decode bytes start) (sym same)))) ] in
        let rest = some_found n (λ j lt. are j (omega arith)) k below in
        grind (arith, nat_tests)
  ]

  -- Flags that are set for the code points of all pairs, and for no code points without a value, agree with the
  -- values.
  module _ (flag : PropertyAnswers → Bool) (count : ℕ) (answers : ℕ → PropertyAnswers)
      (same : (c : ℕ) → c < 1114112 → answers c ≡ answers_in (bits_at bytes c)) where
    pub flags_agree : ((c : ℕ) → c < 1114112 → flag (answers c) ≡ true → IsSome (found decode bytes start count c))
        → ((k : ℕ) → k < count → flag (answers (point_at decode bytes start k)) ≡ true)
        → AreFlags decode bytes start flag count
    flags_agree valued flagged c lt = ap flag (sym (same c lt)) ∙ elim (cases_Bool (is_some (found decode bytes start count c))) [
      | inl some ↦
          let pair = pair_of count c some in
          let set : flag (answers c) ≡ true = subst (λ x. flag (answers x) ≡ true) pair.2 (flagged pair.0 pair.1) in
          set ∙ sym some
      | inr none ↦ elim (cases_Bool (flag (answers c))) [
        | inl set ↦ absurd (false≢true (sym none ∙ valued c lt set))
        | inr clear ↦ clear ∙ sym none
      ]
    ]

    pub all_flagged : AreFlags decode bytes start flag count → ArePoints decode bytes start count
        → (k : ℕ) → k < count → flag (answers (point_at decode bytes start k)) ≡ true
    all_flagged agree are k lt =
        let within = (are k lt).within in
        ap flag (same (point_at decode bytes start k) within) ∙ agree (point_at decode bytes start k) within
        ∙ some_found count are k lt
