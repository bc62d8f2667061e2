-- The columns of a line at each visual position.
use Rattle.std.proofs.Common.{◌≡◌, ℕ, suc, ◌+◌, ◌-◌, ◌<◌, ◌≤◌, min, length, get_or, sum_by, nat_lt, Some, None, if◌then◌else◌, sym, ap, ◌∙◌, inl, inr, arith}
use Rattle.std.proofs.lemmas.Bool.{cases_lt, cond-true, cond-false, lt-ltb, le-ltb}
use Rattle.std.proofs.lemmas.List.{take_all}
use Rattle.std.proofs.lemmas.List.Sums.{sum_by_more}
use Rattle.ucd.specs.Least.{least}
use Rattle.lines.specs.Columns.{columns_left, covering, width_at}
use Rattle.lines.specs.Visual.{Visual}

module _ (line : Visual) where
  pub left_more : (k : ℕ) → k < length line.vtol → columns_left line (k + 1) ≡ columns_left line k + width_at line (get_or line.vtol k 0)
  left_more k within = sum_by_more (width_at line) line.vtol k 0 within

  -- clipping a visual position to the length of the line does not change the columns to its left
  pub left_to : (place k : ℕ) → k ≡ min place (length line.vtol) → columns_left line k ≡ columns_left line place
  left_to place k is =
      elim (cases_lt place (length line.vtol)) [
        | inl within ↦ let e : k ≡ place = omega (arith, is, within) in ap (columns_left line) e
        | inr past ↦
            ap (sum_by (width_at line)) (take_all k line.vtol (omega (arith, is, past)) ∙ sym (take_all place line.vtol past))
      ]

  -- whether a search that starts at position k finds the position that covers the column
  abbrev pub IsLeft : ℕ → ℕ → Type 0
  IsLeft column k = covering line column ≡ least (λ place. nat_lt column (columns_left line (place + 1))) k (length line.vtol - k)

  module _ (column k : ℕ) (within : k < length line.vtol) (so_far : IsLeft column k) where
    one_more : covering line column
        ≡ (if nat_lt column (columns_left line (k + 1)) then Some k else least (λ place. nat_lt column (columns_left line (place + 1))) (k + 1) (length line.vtol - (k + 1)))
    one_more =
        let e : length line.vtol - k ≡ suc (length line.vtol - (k + 1)) = omega (arith, within) in
        let n : suc k ≡ k + 1 = omega arith in
        so_far ∙ ap (least (λ place. nat_lt column (columns_left line (place + 1))) k) e
        ∙ ap (λ j. if nat_lt column (columns_left line (k + 1)) then Some k else least (λ place. nat_lt column (columns_left line (place + 1))) j (length line.vtol - (k + 1))) n

    pub covers : column < columns_left line (k + 1) → Some k ≡ covering line column
    covers below = sym (one_more ∙ cond-true (nat_lt column (columns_left line (k + 1))) (Some k) _ (lt-ltb column (columns_left line (k + 1)) below))

    pub covers_not : columns_left line (k + 1) ≤ column → IsLeft column (k + 1)
    covers_not above = one_more ∙ cond-false (nat_lt column (columns_left line (k + 1))) (Some k) _ (le-ltb column (columns_left line (k + 1)) above)

  pub covers_none : (column k : ℕ) → length line.vtol ≤ k → IsLeft column k → None ≡ covering line column
  covers_none column k past so_far =
      let e : length line.vtol - k ≡ 0 = omega (arith, past) in
      sym (so_far ∙ ap (least (λ place. nat_lt column (columns_left line (place + 1))) k) e)
