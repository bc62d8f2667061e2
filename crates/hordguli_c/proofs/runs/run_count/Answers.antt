use Rattle.std.proofs.Common.{ap, length, List, arith}
use Rattle.reorder.specs.declared.runs.Run.{Run}
use Rattle.hordguli_c.proofs.RunLemmas.{length-runs, runs_few}
use Rattle.hordguli_c.proofs.runs.run_count.Goals as goal

pub loop-run-init : goal.loop-run-init
loop-run-init c =
    let first = length-runs c.args.levels.now c.level_runs-run-items.result c.level_runs-run-items.ensures.runs in
    omega (arith, first, ap (λ (runs : List Run). length runs) c.into_iter-run-iterator.ensures.into_iter_gives)

pub loop-run-preserved : goal.loop-run-preserved
loop-run-preserved c = omega (arith, c.loop-run.invariant, ap (λ (runs : List Run). length runs) c.in-Some.ensures.steps)

pub overflow_add-count : goal.overflow_add-count
overflow_add-count c =
    omega (arith, runs_few c.args.levels.now, c.loop-run.invariant, ap (λ (runs : List Run). length runs) c.in-Some.ensures.steps)

pub returns : goal.returns
returns c = omega (arith, c.loop-run.invariant, ap (λ (runs : List Run). length runs) c.in-None.ensures.steps.0)
