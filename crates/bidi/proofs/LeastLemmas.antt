-- The result of `least`: the first number of a range that passes a test, if there is one.
use Rattle.std.proofs.Common.{◌≡◌, ℕ, zero, suc, ◌+◌, ◌<◌, ◌≤◌, Bool, true, false, Some, None, unwrap_or, is_none, ◌==◌, refl, sym, ap, ◌∙◌, inl, inr, arith}
use Rattle.std.proofs.lemmas.Bool.{cond-true, cond-false, cases_Bool, cases_eq, cases_lt, eq-eqb, ne_eqb, lt-ltb, le-ltb, both_ways}
use Rattle.ucd.specs.Least.{least}
use Rattle.bidi.specs.Base.{is_before}

-- if k is the first number of the range that passes, the result is k
pub least_found : (p : ℕ → Bool) (low count k : ℕ) → low ≤ k → k < low + count → p k ≡ true → ((m : ℕ) → low ≤ m → m < k → p m ≡ false) → least p low count ≡ Some k
least_found p low zero k from to here before = absurd (omega arith)
least_found p low (suc count) k from to here before =
    elim (cases_eq low k) [
      | inl e ↦ cond-true (p low) (Some low) (least p (suc low) count) (ap p e ∙ here) ∙ ap Some e
      | inr ne ↦ cond-false (p low) (Some low) (least p (suc low) count) (before low (omega arith) (omega arith))
          ∙ least_found p (suc low) count k (omega arith) (omega arith) here (λ m above below. before m (omega arith) below)
    ]

-- the result is `None` if no number of the range passes
pub least_none : (p : ℕ → Bool) (low count : ℕ) → ((m : ℕ) → low ≤ m → m < low + count → p m ≡ false) → least p low count ≡ None
least_none p low zero fails = refl
least_none p low (suc count) fails =
    cond-false (p low) (Some low) (least p (suc low) count) (fails low (omega arith) (omega arith))
    ∙ least_none p (suc low) count (λ m above below. fails m (omega arith) (omega arith))

-- if a number that is at most k passes, the least number that passes is at most k
pub least_reaches : (p : ℕ → Bool) (low count j k : ℕ) → low ≤ j → j < low + count → p j ≡ true → j ≤ k → is_before k (least p low count) ≡ false
least_reaches p low zero j k from to here below = absurd (omega arith)
least_reaches p low (suc count) j k from to here below =
    elim (cases_Bool (p low)) [
      | inl passed ↦ ap (is_before k) (cond-true (p low) (Some low) (least p (suc low) count) passed) ∙ le-ltb k low (omega arith)
      | inr failed ↦ elim (cases_eq low j) [
        | inl e ↦ absurd (both_ways (p low) failed (ap p e ∙ here))
        | inr ne ↦ ap (is_before k) (cond-false (p low) (Some low) (least p (suc low) count) failed)
            ∙ least_reaches p (suc low) count j k (omega arith) (omega arith) here below
      ]
    ]

-- if no number of the range up to k passes, the least number that passes, if any, is above k
pub least_misses : (p : ℕ → Bool) (low count k : ℕ) → ((m : ℕ) → low ≤ m → m ≤ k → p m ≡ false) → is_before k (least p low count) ≡ true
least_misses p low zero k fails = refl
least_misses p low (suc count) k fails =
    elim (cases_Bool (p low)) [
      | inr failed ↦ ap (is_before k) (cond-false (p low) (Some low) (least p (suc low) count) failed)
          ∙ least_misses p (suc low) count k (λ m above below. fails m (omega arith) below)
      | inl passed ↦ ap (is_before k) (cond-true (p low) (Some low) (least p (suc low) count) passed)
          ∙ elim (cases_lt k low) [
            | inl above ↦ lt-ltb k low above
            | inr within ↦ absurd (both_ways (p low) (fails low (omega arith) within) passed)
          ]
    ]

-- No number of the range below the result passes. If the result is `None`, no number of the range passes.
pub least_before : (p : ℕ → Bool) (low count end m : ℕ) → low + count ≡ end → low ≤ m → m < unwrap_or (least p low count) end → p m ≡ false
least_before p low zero end m e from to = absurd (omega arith)
least_before p low (suc count) end m e from to =
    elim (cases_Bool (p low)) [
      | inl passed ↦ absurd (omega (arith, rw (cond-true (p low) (Some low) (least p (suc low) count) passed) at to))
      | inr failed ↦ elim (cases_eq low m) [
        | inl same ↦ rw (← same) failed
        | inr ne ↦ least_before p (suc low) count end m (omega arith) (omega arith) (rw (cond-false (p low) (Some low) (least p (suc low) count) failed) at to)
      ]
    ]

-- the result, if it is not `None`, is in the range and passes
pub least_passes : (p : ℕ → Bool) (low count end : ℕ) → low + count ≡ end → unwrap_or (least p low count) end < end
    → (low ≤ unwrap_or (least p low count) end) × (p (unwrap_or (least p low count) end) ≡ true)
least_passes p low zero end e inside = absurd (omega arith)
least_passes p low (suc count) end e inside =
    elim (cases_Bool (p low)) [
      | inl passed ↦ rw (cond-true (p low) (Some low) (least p (suc low) count) passed) (omega arith, passed)
      | inr failed ↦ let rest = least_passes p (suc low) count end (omega arith) (rw (cond-false (p low) (Some low) (least p (suc low) count) failed) at inside) in
          rw (cond-false (p low) (Some low) (least p (suc low) count) failed) (omega (arith, rest.0), rest.1)
    ]

pub least_within : (p : ℕ → Bool) (low count end : ℕ) → low + count ≡ end → unwrap_or (least p low count) end ≤ end
least_within p low zero end e = omega arith
least_within p low (suc count) end e =
    elim (cases_Bool (p low)) [
      | inl passed ↦ rw (cond-true (p low) (Some low) (least p (suc low) count) passed) (omega arith)
      | inr failed ↦ rw (cond-false (p low) (Some low) (least p (suc low) count) failed) (least_within p (suc low) count end (omega arith))
    ]

-- the result is `None` if and only if `unwrap_or`, with the end of the range as the default, returns that end
pub least_is_none : (p : ℕ → Bool) (low count end : ℕ) → low + count ≡ end → is_none (least p low count) ≡ (unwrap_or (least p low count) end == end)
least_is_none p low zero end e = sym (eq-eqb end end refl)
least_is_none p low (suc count) end e =
    elim (cases_Bool (p low)) [
      | inl passed ↦ rw (cond-true (p low) (Some low) (least p (suc low) count) passed) (sym (ne_eqb low end (omega arith)))
      | inr failed ↦ rw (cond-false (p low) (Some low) (least p (suc low) count) failed) (least_is_none p (suc low) count end (omega arith))
    ]
