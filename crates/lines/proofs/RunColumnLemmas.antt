-- The columns of a line's runs add up to those of its characters.
use Rattle.std.proofs.Common.{◌≡◌, ℕ, zero, suc, ◌+◌, ◌-◌, ◌≤◌, List, [], ◌∷◌, length, get_or, drop, take, refl, sym, ap, ◌∙◌, arith}
use Rattle.std.specs.Prelude.{sum, sum_by, All}
use Rattle.std.specs.List.{range_with_len}
use Rattle.std.proofs.lemmas.List.{drop_more, take_all}
use Rattle.std.proofs.lemmas.List.Elements.{All-head, All-tail}
use Rattle.std.proofs.lemmas.List.Sums.{sum_by-cons}
use Rattle.reorder.specs.Runs.{AreRuns, IsMaximal}
use Rattle.reorder.specs.declared.runs.Run.{Run}
use Rattle.lines.specs.Columns.{run_columns, widths}
use Rattle.lines.specs.Visual.{Visual}
use Rattle.lines.proofs.WidthLemmas.{length-widths}

module _ (ws : List ℕ) where
  abbrev at : ℕ → ℕ
  at k = get_or ws k 0

  -- the columns of the characters of a range add up to the sum of this part of the widths
  pub in_range : (a n : ℕ) → a + n ≤ length ws → sum_by at (range_with_len a n) ≡ sum (take n (drop a ws))
  in_range a zero within = refl
  in_range a (suc n) within =
      let parted : drop a ws ≡ get_or ws a 0 ∷ drop (a + 1) ws = drop_more ws a 0 (omega arith) in
      omega (
        arith,
        sum_by-cons at a (range_with_len (a + 1) n),
        in_range (a + 1) n (omega arith),
        ap (λ (xs : List ℕ). sum (take (suc n) xs)) parted,
        sum_by-cons (λ x. x) (get_or ws a 0) (take n (drop (a + 1) ws)),
      )

module _ (line : Visual) (size : length line.levels ≡ length line.text) where
  one_run : (run : Run) → IsMaximal line.levels run → sum_by (at (widths line)) (range_with_len run.start run.len) ≡ run_columns line run
  one_run run m =
      let n : run.start + run.len - run.start ≡ run.len = omega arith in
      in_range (widths line) run.start run.len (omega (arith, size, m.within, length-widths line))
      ∙ ap (λ k. sum (take k (drop run.start (widths line)))) (sym n)

  each_run : (runs : List Run) → All (IsMaximal line.levels) runs
      → sum_by (λ run. sum_by (at (widths line)) (range_with_len run.start run.len)) runs ≡ sum_by (run_columns line) runs
  each_run [] all = refl
  each_run (run ∷ runs) all =
      omega (
        arith,
        sum_by-cons (λ (r : Run). sum_by (at (widths line)) (range_with_len r.start r.len)) run runs,
        sum_by-cons (run_columns line) run runs,
        one_run run (All-head (IsMaximal line.levels) run runs all),
        each_run runs (All-tail (IsMaximal line.levels) run runs all),
      )

  pub runs_add_up : (runs : List Run) → AreRuns line.levels runs → sum_by (run_columns line) runs ≡ sum (widths line)
  runs_add_up runs are =
      let whole : length line.levels ≡ length (widths line) = size ∙ sym (length-widths line) in
      sym (each_run runs are.maximal)
      ∙ are.sums (at (widths line))
      ∙ ap (λ n. sum_by (at (widths line)) (range_with_len 0 n)) whole
      ∙ in_range (widths line) 0 (length (widths line)) (omega arith)
      ∙ ap sum (take_all (length (widths line)) (widths line) (omega arith))
