-- The columns of a line's characters, and the character that covers a column.
use Rattle.std.proofs.Common.{◌≡◌, ℕ, zero, suc, ◌+◌, ◌-◌, ◌<◌, ◌≤◌, min, nat_lt, Bool, true, false, List, length, take, drop, get_or, sum, sum_by, Some, None, refl, ap, subst, ◌∙◌, inl, inr, arith}
use Rattle.std.proofs.lemmas.Bool.{both_ways, cases_eq, cases_lt, le-ltb, lt-ltb, ltb-true}
use Rattle.std.proofs.lemmas.List.{get_or-drop, length-drop, take-take}
use Rattle.std.proofs.lemmas.List.Sums.{sum_by_more, sum_by-take-le}
use Rattle.lines.proofs.ColumnLemmas.{left_more, left_to}
use Rattle.lines.proofs.WidthLemmas.{length-widths}
use Rattle.lines.specs.Columns.{columns_between, columns_left, covering, widths}
use Rattle.lines.specs.Ordered.{IsOrdered}
use Rattle.lines.specs.Visual.{Visual}
use Rattle.session.specs.Units.{takes_columns}
use Rattle.session.proofs.FirstLemmas.{least_none, least_some}

-- the columns of a line's characters in visual order
abbrev pub width_of : Visual → ℕ
width_of line = columns_left line (length line.vtol)

module _ (line : Visual) where
  -- the columns of a character
  abbrev pub width_at : ℕ → ℕ
  width_at k = get_or (widths line) k 0

  pub none_between : (j : ℕ) → columns_between line j j ≡ 0
  none_between j = let n : j - j ≡ 0 = omega arith in ap (λ k. sum (take k (drop j (widths line)))) n

  pub between_more : (j k : ℕ) → j ≤ k → k < length line.text → columns_between line j (suc k) ≡ columns_between line j k + width_at k
  between_more j k order within =
      let n : suc k - j ≡ (k - j) + 1 = omega arith in
      let at : j + (k - j) ≡ k = omega arith in
      let ws : List ℕ = widths line in
      ap (λ i. sum (take i (drop j ws))) n
      ∙ sum_by_more (λ x. x) (drop j ws) (k - j) 0 (omega (arith, length-drop j ws, length-widths line))
      ∙ ap (λ w. columns_between line j k + w) (get_or-drop j ws (k - j) 0 ∙ ap (λ i. get_or ws i 0) at)

  pub one_between : (k : ℕ) → k < length line.text → columns_between line k (suc k) ≡ width_at k
  one_between k within = omega (arith, between_more k k (omega arith) within, none_between k)

  -- a character that takes columns has a width above 0, and one that does not has width 0
  pub takes : (k : ℕ) → k < length line.text → takes_columns line k ≡ true → 0 < width_at k
  takes k within some = omega (arith, ltb-true 0 (columns_between line k (suc k)) some, one_between k within)

  pub takes_if : (k : ℕ) → k < length line.text → 0 < width_at k → takes_columns line k ≡ true
  takes_if k within some = lt-ltb 0 (columns_between line k (suc k)) (omega (arith, some, one_between k within))

  pub takes_none : (k : ℕ) → k < length line.text → takes_columns line k ≡ false → width_at k ≡ 0
  takes_none k within bare =
      elim (cases_eq (width_at k) 0) [
        | inl none ↦ none
        | inr some ↦ absurd (both_ways (takes_columns line k) bare (takes_if k within (omega (arith, some))))
      ]

  pub between_over : (j k d : ℕ) → j ≤ k → k + d ≤ length line.text → ((c : ℕ) → k ≤ c → c < k + d → takes_columns line c ≡ false)
      → columns_between line j (k + d) ≡ columns_between line j k
  between_over j k zero order within fails = let n : k + 0 ≡ k = omega arith in ap (columns_between line j) n
  between_over j k (suc d) order within fails =
      let n : k + suc d ≡ suc (k + d) = omega arith in
      ap (columns_between line j) n
      ∙ omega (
        arith,
        between_more j (k + d) (omega arith) (omega arith),
        takes_none (k + d) (omega arith) (fails (k + d) (omega arith) (omega arith)),
        between_over j k d order (omega arith) (λ c from to. fails c from (omega arith)),
      )

  pub between_same : (j k n : ℕ) → j ≤ k → k ≤ n → n ≤ length line.text → ((c : ℕ) → k ≤ c → c < n → takes_columns line c ≡ false)
      → columns_between line j n ≡ columns_between line j k
  between_same j k n order forward within fails =
      let at : n ≡ k + (n - k) = omega arith in
      ap (columns_between line j) at ∙ between_over j k (n - k) order (omega arith) (λ c from to. fails c from (omega arith))

  rise : (j k d : ℕ) → j ≤ k → k + d ≤ length line.text → columns_between line j k ≤ columns_between line j (k + d)
  rise j k zero order within = let n : k ≡ k + 0 = omega arith in subst (λ i. columns_between line j k ≤ columns_between line j i) n (omega arith)
  rise j k (suc d) order within =
      let n : suc (k + d) ≡ k + suc d = omega arith in
      subst (λ i. columns_between line j k ≤ columns_between line j i) n
      (omega (arith, between_more j (k + d) (omega arith) (omega arith), rise j k d order (omega arith)))

  pub between_rises : (j k n : ℕ) → j ≤ k → k ≤ n → n ≤ length line.text → columns_between line j k ≤ columns_between line j n
  between_rises j k n order forward within =
      let at : k + (n - k) ≡ n = omega arith in
      subst (λ i. columns_between line j k ≤ columns_between line j i) at (rise j k (n - k) order (omega arith))

  -- each column of a range of characters is covered by one of these characters
  pub between_at : (j d o : ℕ) → j + d ≤ length line.text → o < columns_between line j (j + d)
      → (k : ℕ) × (j ≤ k) × (k < j + d) × (columns_between line j k ≤ o) × (o < columns_between line j (suc k))
  between_at j zero o within below = absurd (omega (arith, below, none_between j, (let n : j + 0 ≡ j = omega arith in ap (columns_between line j) n)))
  between_at j (suc d) o within below =
      elim (cases_lt o (columns_between line j (j + d))) [
        | inl early ↦
            let found = between_at j d o (omega arith) early in
            (found.0, found.1, omega (arith, found.2), found.3, found.4)
        | inr here ↦
            let n : j + suc d ≡ suc (j + d) = omega arith in
            (j + d, omega arith, omega arith, here, subst (λ i. o < columns_between line j i) n below)
      ]

  pub left_rises : (p q : ℕ) → p ≤ q → columns_left line p ≤ columns_left line q
  left_rises p q order =
      omega (
        arith,
        ap (sum_by width_at) (take-take p q line.vtol order),
        sum_by-take-le width_at (take q line.vtol) p,
      )

  pub left_most : (p : ℕ) → columns_left line p ≤ width_of line
  left_most p = omega (arith, left_to line p (min p (length line.vtol)) refl, left_rises (min p (length line.vtol)) (length line.vtol) (omega arith))

  abbrev reaches : ℕ → ℕ → Bool
  reaches column place = nat_lt column (columns_left line (place + 1))

  -- `covering` returns the visual position that covers a column
  pub covering_is : (column p : ℕ) → p < length line.vtol → columns_left line p ≤ column → column < columns_left line (p + 1) → covering line column ≡ Some p
  covering_is column p within from to =
      least_some (reaches column) 0 (length line.vtol) p (omega arith) (omega arith) (lt-ltb column (columns_left line (p + 1)) to)
      (λ c above below. le-ltb column (columns_left line (c + 1)) (omega (arith, from, left_rises (c + 1) p (omega arith))))

  pub record CoveredBy (column p : ℕ) : Type 0 where
    pub is : covering line column ≡ Some p
    pub within : p < length line.vtol
    pub from : columns_left line p ≤ column
    pub to : column < columns_left line (p + 1)

  place_from : (column n : ℕ) → n ≤ length line.vtol → column < columns_left line n → (p : ℕ) × (p < n) × (columns_left line p ≤ column) × (column < columns_left line (p + 1))
  place_from column zero within below = absurd (omega (arith, below))
  place_from column (suc n) within below =
      elim (cases_lt column (columns_left line n)) [
        | inl early ↦ let found = place_from column n (omega arith) early in (found.0, omega (arith, found.1), found.2, found.3)
        | inr here ↦ let at : suc n ≡ n + 1 = omega arith in (n, omega arith, here, subst (λ i. column < columns_left line i) at below)
      ]

  pub covered : (column : ℕ) → column < width_of line → (p : ℕ) × CoveredBy column p
  covered column below =
      let found = place_from column (length line.vtol) (omega arith) below in
      (found.0, record { is = covering_is column found.0 found.1 found.2 found.3; within = found.1; from = found.2; to = found.3 })

  pub uncovered : (column : ℕ) → width_of line ≤ column → covering line column ≡ None
  uncovered column past =
      least_none (reaches column) 0 (length line.vtol)
      (λ c above below. le-ltb column (columns_left line (c + 1)) (omega (arith, past, left_rises (c + 1) (length line.vtol) (omega arith))))

  module _ (ordered : IsOrdered line) where
    -- the right edge of a shown character is its left edge plus its width
    pub left_next : (k : ℕ) → k < length line.levels → columns_left line (get_or line.ltov k 0 + 1) ≡ columns_left line (get_or line.ltov k 0) + width_at k
    left_next k within =
        let place : ℕ = get_or line.ltov k 0 in
        let inside : place < length line.vtol = omega (arith, ordered.inverse.ltov_within k within, ordered.vtol) in
        left_more line place inside ∙ ap (λ c. columns_left line place + width_at c) (ordered.inverse.at_ltov k within)
