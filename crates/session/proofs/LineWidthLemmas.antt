-- The width of a line is the sum of its characters' widths in visual order.
use Rattle.std.proofs.Common.{◌≡◌, ℕ, zero, suc, ◌+◌, ◌-◌, ◌<◌, ◌≤◌, List, length, take, get_or, sum, sum_by, refl, sym, ap, ◌∙◌, inl, inr, arith}
use Rattle.std.specs.List.{remove}
use Rattle.std.proofs.lemmas.Bool.{cases_eq, cases_lt}
use Rattle.std.proofs.lemmas.List.{take_all}
use Rattle.std.proofs.lemmas.List.Edits.{get_or-remove_above, get_or-remove_below, length-remove}
use Rattle.std.proofs.lemmas.List.Sums.{sum_by-remove, sum_by_more}
use Rattle.reorder.proofs.WholeRunLemmas.{are_runs}
use Rattle.reorder.specs.Runs.{runs_of}
use Rattle.lines.proofs.RunColumnLemmas.{runs_add_up}
use Rattle.lines.proofs.WidthLemmas.{length-widths}
use Rattle.lines.specs.Columns.{run_columns, widths}
use Rattle.lines.specs.Ordered.{IsOrdered}
use Rattle.lines.specs.Visual.{Visual}
use Rattle.session.proofs.CoveringLemmas.{width_of}

-- the sum of f k over all k below n
abbrev sum_below : (ℕ → ℕ) → ℕ → ℕ
sum_below f zero = 0
sum_below f (suc n) = sum_below f n + f n

-- whether a list contains each number below n
abbrev HasEach : List ℕ → ℕ → Type 0
HasEach xs n = (k : ℕ) → k < n → (i : ℕ) × (i < length xs) × (get_or xs i 0 ≡ k)

-- if n is removed, the list still contains each number below n
without : (xs : List ℕ) (n i : ℕ) → i < length xs → get_or xs i 0 ≡ n → HasEach xs n → HasEach (remove xs i) n
without xs n i within is each k below =
    let found = each k below in
    let j : ℕ = found.0 in
    let size = length-remove xs i within in
    elim (cases_lt j i) [
      | inl early ↦ (j, omega (arith, early, within, size), get_or-remove_below xs i 0 j early within ∙ found.2)
      | inr later ↦
          elim (cases_eq j i) [
            | inl same ↦ absurd (omega (arith, below, is, found.2, ap (λ m. get_or xs m 0) same))
            | inr other ↦
                let at : j - 1 + 1 ≡ j = omega (arith, later, other) in (
                  j - 1,
                  omega (arith, later, other, found.1, size),
                  get_or-remove_above xs i 0 (j - 1) (omega (arith, later, other)) within ∙ ap (λ m. get_or xs m 0) at ∙ found.2,
                )
          ]
    ]

at_least : (f : ℕ → ℕ) (n : ℕ) (xs : List ℕ) → HasEach xs n → sum_below f n ≤ sum_by f xs
at_least f zero xs each = omega arith
at_least f (suc n) xs each =
    let found = each n (omega arith) in
    let rest : sum_below f n ≤ sum_by f (remove xs found.0) = at_least f n (remove xs found.0) (without xs n found.0 found.1 found.2 (λ k below. each k (omega arith))) in
    omega (arith, rest, sum_by-remove f xs found.0 0 found.1, ap f found.2)

all_below : (f : ℕ → ℕ) (xs : List ℕ) (n : ℕ) → n ≤ length xs → sum_by f (take n xs) ≡ sum_below (λ k. f (get_or xs k 0)) n
all_below f xs zero within = refl
all_below f xs (suc n) within =
    let next : suc n ≡ n + 1 = omega arith in
    ap (λ m. sum_by f (take m xs)) next ∙ omega (arith, sum_by_more f xs n 0 (omega arith), all_below f xs n (omega arith))

whole : (f : ℕ → ℕ) (xs : List ℕ) → sum_by f xs ≡ sum_below (λ k. f (get_or xs k 0)) (length xs)
whole f xs = ap (sum_by f) (sym (take_all (length xs) xs (omega arith))) ∙ all_below f xs (length xs) (omega arith)

same_below : (f g : ℕ → ℕ) (n : ℕ) → ((k : ℕ) → k < n → f k ≡ g k) → sum_below f n ≡ sum_below g n
same_below f g zero same = refl
same_below f g (suc n) same = omega (arith, same n (omega arith), same_below f g n (λ k below. same k (omega arith)))

pub columns_fit : (line : Visual) → IsOrdered line → sum_by (run_columns line) (runs_of line.levels) ≡ line.columns → width_of line ≡ line.columns
columns_fit line ordered add_up =
    let of : ℕ → ℕ = λ k. get_or (widths line) k 0 in
    let text : line.columns ≡ sum (widths line) = sym add_up ∙ runs_add_up line (sym ordered.text) (runs_of line.levels) (are_runs line.levels) in
    let logical : sum (widths line) ≡ sum_below of (length line.text) =
    whole (λ x. x) (widths line) ∙ ap (sum_below of) (length-widths line) in
    let size : length line.vtol ≡ length line.text = ordered.vtol ∙ sym ordered.text in
    let each : HasEach line.vtol (length line.text) = λ k below. (
      get_or line.ltov k 0,
      omega (arith, size, ordered.text, ordered.inverse.ltov_within k (omega (arith, below, ordered.text))),
      ordered.inverse.at_ltov k (omega (arith, below, ordered.text)),
    ) in
    let each_place : HasEach line.ltov (length line.vtol) = λ p below. (
      get_or line.vtol p 0,
      omega (arith, ordered.ltov, ordered.vtol, ordered.inverse.vtol_within p (omega (arith, below, ordered.vtol))),
      ordered.inverse.at_vtol p (omega (arith, below, ordered.vtol)),
    ) in
    let placed : ℕ → ℕ = λ p. of (get_or line.vtol p 0) in
    let visual : sum_by of line.vtol ≡ width_of line =
    sym (ap (sum_by of) (take_all (length line.vtol) line.vtol (omega arith))) in
    let by_place : sum_by of line.vtol ≡ sum_below placed (length line.vtol) = whole of line.vtol in
    let by_char : sum_by placed line.ltov ≡ sum_below of (length line.text) =
    whole placed line.ltov
    ∙ same_below (λ k. placed (get_or line.ltov k 0)) of (length line.ltov) (λ k below. ap of (ordered.inverse.at_ltov k (omega (arith, below, ordered.ltov))))
    ∙ ap (sum_below of) (ordered.ltov ∙ sym ordered.text) in
    omega (arith, text, logical, visual, by_place, by_char, at_least of (length line.text) line.vtol each, at_least placed (length line.vtol) line.ltov each_place)
