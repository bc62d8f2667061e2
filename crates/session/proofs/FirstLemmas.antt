-- The first and the last number of a range that pass a test.
use Rattle.std.proofs.Common.{◌≡◌, ℕ, zero, suc, ◌+◌, ◌-◌, ◌<◌, ◌≤◌, Bool, true, false, Option, Some, None, unwrap_or, sym, ap, subst, ◌∙◌, inl, inr, arith}
use Rattle.std.proofs.lemmas.Bool.{both_ways, cases_Bool, cases_eq, cases_lt, cond-true, cond-false}
use Rattle.std.proofs.lemmas.Option.{none-some, same_Some}
use Rattle.bidi.specs.Brackets.{greatest}
use Rattle.lines.specs.Clusters.{after}
use Rattle.ucd.specs.Least.{least}

-- the first number from `low` up to `end` that passes, or `end`
pub record IsFirst (test : ℕ → Bool) (low end b : ℕ) : Type 0 where
  pub from : low ≤ b
  pub to : b ≤ end
  pub passes : b < end → test b ≡ true
  pub fails : (c : ℕ) → low ≤ c → c < b → test c ≡ false

-- the last number below n that passes
pub record IsLast (test : ℕ → Bool) (n b : ℕ) : Type 0 where
  pub below : b < n
  pub passes : test b ≡ true
  pub fails : (c : ℕ) → b < c → c < n → test c ≡ false

module _ (test : ℕ → Bool) where
  -- the search for the first number that passes skips numbers that fail
  skipped : (a d m : ℕ) → ((c : ℕ) → a ≤ c → c < a + d → test c ≡ false) → least test a (d + m) ≡ least test (a + d) m
  skipped a zero m fails =
      let n : 0 + m ≡ m = omega arith in
      let at : a ≡ a + 0 = omega arith in
      ap (least test a) n ∙ ap (λ k. least test k m) at
  skipped a (suc d) m fails =
      let n : suc d + m ≡ suc (d + m) = omega arith in
      let at : suc a + d ≡ a + suc d = omega arith in
      ap (least test a) n ∙ cond-false (test a) (Some a) (least test (suc a) (d + m)) (fails a (omega arith) (omega arith))
      ∙ skipped (suc a) d m (λ c from to. fails c (omega arith) (omega arith))
      ∙ ap (λ k. least test k m) at

  pub least_over : (a b n : ℕ) → a ≤ b → b ≤ n → ((c : ℕ) → a ≤ c → c < b → test c ≡ false) → least test a (n - a) ≡ least test b (n - b)
  least_over a b n forward within fails =
      let count : n - a ≡ (b - a) + (n - b) = omega arith in
      let at : a + (b - a) ≡ b = omega arith in
      ap (least test a) count ∙ skipped a (b - a) (n - b) (λ c from to. fails c from (omega arith)) ∙ ap (λ k. least test k (n - b)) at

  pub least_none : (low count : ℕ) → ((c : ℕ) → low ≤ c → c < low + count → test c ≡ false) → least test low count ≡ None
  least_none low count fails =
      let n : count ≡ count + 0 = omega arith in
      ap (least test low) n ∙ skipped low count 0 fails

  pub least_some : (low count b : ℕ) → low ≤ b → b < low + count → test b ≡ true → ((c : ℕ) → low ≤ c → c < b → test c ≡ false) → least test low count ≡ Some b
  least_some low count b from to passes fails =
      let n : count ≡ (b - low) + suc (low + count - suc b) = omega arith in
      let at : low + (b - low) ≡ b = omega arith in
      ap (least test low) n ∙ skipped low (b - low) (suc (low + count - suc b)) (λ c above below. fails c above (omega arith))
      ∙ ap (λ k. least test k (suc (low + count - suc b))) at
      ∙ cond-true (test b) (Some b) (least test (suc b) (low + count - suc b)) passes

  pub first_is : (low count end : ℕ) → low + count ≡ end → IsFirst test low end (unwrap_or (least test low count) end)
  first_is low zero end e = record {
    from = omega arith;
    to = omega arith;
    passes = λ below. absurd (omega arith);
    fails = λ c from before. absurd (omega arith);
  }
  first_is low (suc count) end e =
      let rest : Option ℕ = least test (suc low) count in
      elim (cases_Bool (test low)) [
        | inl here ↦
            subst (λ (o : Option ℕ). IsFirst test low end (unwrap_or o end)) (sym (cond-true (test low) (Some low) rest here))
            (record { from = omega arith; to = omega arith; passes = λ below. here; fails = λ c from before. absurd (omega arith) })
        | inr here ↦
            let later : IsFirst test (suc low) end (unwrap_or rest end) = first_is (suc low) count end (omega arith) in
            subst (λ (o : Option ℕ). IsFirst test low end (unwrap_or o end)) (sym (cond-false (test low) (Some low) rest here))
            (record {
              from = omega (arith, later.from);
              to = later.to;
              passes = later.passes;
              fails = λ c from before. elim (cases_eq low c) [
                | inl same ↦ ap test (sym same) ∙ here
                | inr other ↦ later.fails c (omega arith) before
              ];
            })
      ]

  pub first_only : (low count end b : ℕ) → low + count ≡ end → IsFirst test low end b → unwrap_or (least test low count) end ≡ b
  first_only low count end b e is =
      let from : low ≤ b = is.from in
      let to : b ≤ end = is.to in
      elim (cases_lt b end) [
        | inl below ↦ ap (λ (o : Option ℕ). unwrap_or o end) (least_some low count b from (omega arith) (is.passes below) is.fails)
        | inr last ↦ ap (λ (o : Option ℕ). unwrap_or o end) (least_none low count (λ c above under. is.fails c above (omega arith))) ∙ omega arith
      ]

  -- the search for the last number that passes also skips numbers that fail
  pub greatest_over : (a d : ℕ) → ((c : ℕ) → a ≤ c → c < a + d → test c ≡ false) → greatest test (a + d) ≡ greatest test a
  greatest_over a zero fails = let n : a + 0 ≡ a = omega arith in ap (greatest test) n
  greatest_over a (suc d) fails =
      let n : a + suc d ≡ suc (a + d) = omega arith in
      ap (greatest test) n ∙ cond-false (test (a + d)) (Some (a + d)) (greatest test (a + d)) (fails (a + d) (omega arith) (omega arith))
      ∙ greatest_over a d (λ c from to. fails c from (omega arith))

  pub greatest_back : (a b : ℕ) → a ≤ b → ((c : ℕ) → a ≤ c → c < b → test c ≡ false) → greatest test b ≡ greatest test a
  greatest_back a b forward fails =
      let n : b ≡ a + (b - a) = omega arith in
      ap (greatest test) n ∙ greatest_over a (b - a) (λ c from to. fails c from (omega arith))

  pub greatest_is : (n b : ℕ) → IsLast test n b → greatest test n ≡ Some b
  greatest_is n b is =
      let below : b < n = is.below in
      let at : suc b + (n - suc b) ≡ n = omega arith in
      ap (greatest test) (sym at) ∙ greatest_over (suc b) (n - suc b) (λ c from to. is.fails c (omega arith) (omega arith))
      ∙ cond-true (test b) (Some b) (greatest test b) is.passes

  pub last_from : (n k : ℕ) → k < n → test k ≡ true → (b : ℕ) × (k ≤ b) × IsLast test n b
  last_from zero k below passes = absurd (omega arith)
  last_from (suc n) k below passes =
      elim (cases_Bool (test n)) [
        | inl here ↦ (n, omega arith, record { below = omega arith; passes = here; fails = λ c above under. absurd (omega arith) })
        | inr here ↦
            elim (cases_eq k n) [
              | inl same ↦ absurd (both_ways (test n) here (ap test (sym same) ∙ passes))
              | inr other ↦
                  let found = last_from n k (omega arith) passes in
                  let last : IsLast test n found.0 = found.2 in (
                    found.0,
                    found.1,
                    record {
                      below = omega (arith, last.below);
                      passes = last.passes;
                      fails = λ c above under. elim (cases_eq c n) [
                        | inl same ↦ ap test same ∙ here
                        | inr before ↦ last.fails c above (omega arith)
                      ];
                    },
                  )
            ]
      ]

  pub greatest_passes : (n b : ℕ) → greatest test n ≡ Some b → (b < n) × (test b ≡ true)
  greatest_passes zero b is = absurd (none-some b is)
  greatest_passes (suc n) b is =
      elim (cases_Bool (test n)) [
        | inl here ↦
            let same : n ≡ b = same_Some n b (sym (cond-true (test n) (Some n) (greatest test n) here) ∙ is) in
            (omega arith, ap test (sym same) ∙ here)
        | inr here ↦
            let before = greatest_passes n b (sym (cond-false (test n) (Some n) (greatest test n) here) ∙ is) in
            (omega (arith, before.0), before.1)
      ]

  -- the number after the last one below n that passes is at most n, and the numbers from there up to n fail
  pub begin_to : (n : ℕ) → after (greatest test n) 0 ≤ n
  begin_to zero = omega arith
  begin_to (suc n) =
      elim (cases_Bool (test n)) [
        | inl here ↦ omega (arith, ap (λ (o : Option ℕ). after o 0) (cond-true (test n) (Some n) (greatest test n) here))
        | inr here ↦ omega (arith, ap (λ (o : Option ℕ). after o 0) (cond-false (test n) (Some n) (greatest test n) here), begin_to n)
      ]

  pub begin_fails : (n c : ℕ) → after (greatest test n) 0 ≤ c → c < n → test c ≡ false
  begin_fails zero c from to = absurd (omega arith)
  begin_fails (suc n) c from to =
      elim (cases_Bool (test n)) [
        | inl here ↦ absurd (omega (arith, ap (λ (o : Option ℕ). after o 0) (cond-true (test n) (Some n) (greatest test n) here)))
        | inr here ↦
            elim (cases_eq c n) [
              | inl same ↦ ap test same ∙ here
              | inr other ↦
                  begin_fails n c (omega (arith, ap (λ (o : Option ℕ). after o 0) (cond-false (test n) (Some n) (greatest test n) here))) (omega arith)
            ]
      ]

  -- no number from `low` on passes before b - 1, the last number before b
  pub record EndsBy (low end b : ℕ) : Type 0 where
    pub above : low < b
    pub to : b ≤ end
    pub fails : (c : ℕ) → low ≤ c → c + 1 < b → test c ≡ false

  pub ends_by : (low count end : ℕ) → low + count ≡ end → low < end → EndsBy low end (after (least test low count) end)
  ends_by low zero end e some = absurd (omega arith)
  ends_by low (suc count) end e some =
      let rest : Option ℕ = least test (suc low) count in
      elim (cases_Bool (test low)) [
        | inl here ↦
            subst (λ (o : Option ℕ). EndsBy low end (after o end)) (sym (cond-true (test low) (Some low) rest here))
            (record { above = omega arith; to = omega arith; fails = λ c from before. absurd (omega arith) })
        | inr here ↦
            subst (λ (o : Option ℕ). EndsBy low end (after o end)) (sym (cond-false (test low) (Some low) rest here))
            (elim (cases_lt (suc low) end) [
              | inl more ↦
                  let later : EndsBy (suc low) end (after rest end) = ends_by (suc low) count end (omega arith) more in
                  record {
                    above = omega (arith, later.above);
                    to = later.to;
                    fails = λ c from before. elim (cases_eq low c) [
                      | inl same ↦ ap test (sym same) ∙ here
                      | inr other ↦ later.fails c (omega arith) before
                    ];
                  }
              | inr last ↦
                  let none : count ≡ 0 = omega arith in
                  let is : after rest end ≡ end = ap (λ n. after (least test (suc low) n) end) none in
                  record {
                    above = omega arith;
                    to = omega arith;
                    fails = λ c from before. absurd (omega arith);
                  }
            ])
      ]
