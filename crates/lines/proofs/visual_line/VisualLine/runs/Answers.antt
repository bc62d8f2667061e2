use Rattle.std.proofs.Common.{ap, subst}
use Rattle.reorder.specs.Runs.{AreRuns}
use Rattle.lines.specs.Visual.{Visual}
use Rattle.lines.proofs.RunColumnLemmas.{runs_add_up}
use Rattle.lines.proofs.visual_line.VisualLine.runs.Goals as goal

pub returns-clause-columns : goal.returns-clause-columns
returns-clause-columns c size =
    runs_add_up c.args.self.now size c.level_runs.result
    (subst (λ levels. AreRuns levels c.level_runs.result) (ap (λ (v : Visual). v.levels) c.self.view_is) c.level_runs.ensures.are)
