-- Lemmas about the number of directional runs.
use Rattle.std.proofs.Common.{◌≡◌, ℕ, ◌≤◌, List, length, sym, ap, ◌∙◌, arith}
use Rattle.std.proofs.lemmas.List.{length-map}
use Rattle.std.proofs.lemmas.List.Sums.{count_by-le-length, length-filter}
use Rattle.reorder.specs.Order.{order_of}
use Rattle.reorder.specs.Runs.{begins_run, run_from, run_starts, runs_of}
use Rattle.reorder.specs.declared.runs.Run.{Run}
use Rattle.reorder.proofs.OrderLemmas.{length-order}
use Rattle.hordguli_c.specs.Runs.{run_out, runs_out}

-- there are no more runs than characters
pub runs_few : (levels : List ℕ) → length (runs_out levels) ≤ length levels
unfolding runs_of
runs_few levels =
    omega (
      arith,
      length-map (runs_of levels) run_out,
      length-map (run_starts levels) (run_from levels),
      length-filter (begins_run levels) (order_of levels),
      count_by-le-length (begins_run levels) (order_of levels),
      length-order levels,
    )

-- `runs_out` has one item for each run that a new iterator yields
pub length-runs : (levels : List ℕ) (runs : List Run) → runs ≡ runs_of levels → length runs ≡ length (runs_out levels)
length-runs levels runs is = ap (λ (s : List Run). length s) is ∙ sym (length-map (runs_of levels) run_out)
