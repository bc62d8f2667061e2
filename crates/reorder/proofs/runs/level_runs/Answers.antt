use Rattle.std.proofs.Common.{List, length, subst, sym, ◌∙◌}
use Rattle.std.proofs.lemmas.Bool.{eqb-true}
use Rattle.reorder.specs.Runs.{AreRuns}
use Rattle.reorder.specs.declared.runs.Run.{Run}
use Rattle.reorder.proofs.StartLemmas.{run_first, run_none}
use Rattle.reorder.proofs.WholeRunLemmas.{are_runs}
use Rattle.reorder.proofs.runs.level_runs.Goals as goal

pub returns-then-is_empty-clause-runs : goal.returns-then-is_empty-clause-runs
returns-then-is_empty-clause-runs c =
    run_none c.args.levels.now (eqb-true (length c.args.levels.now) 0 (sym c.is_empty.ensures ∙ c.if-is_empty.true))

pub returns-then-is_empty-clause-are : goal.returns-then-is_empty-clause-are
returns-then-is_empty-clause-are c =
    subst (λ (runs : List Run). AreRuns c.args.levels.now runs) (sym (returns-then-is_empty-clause-runs c)) (are_runs c.args.levels.now)

pub returns-clause-runs : goal.returns-clause-runs
returns-clause-runs c = run_first c.args.levels.now c.leftmost_on-first.result c.run_start.result c.leftmost_on-first.ensures c.run_start.ensures

pub returns-clause-are : goal.returns-clause-are
returns-clause-are c =
    subst (λ (runs : List Run). AreRuns c.args.levels.now runs) (sym (returns-clause-runs c)) (are_runs c.args.levels.now)
