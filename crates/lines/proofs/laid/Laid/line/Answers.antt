use Rattle.std.proofs.Common.{◌∙◌, rules}
use Rattle.lines.proofs.PageLemmas.{visual_at}
use Rattle.lines.proofs.laid.Laid.line.Goals as goal

pub returns-clause-line : goal.returns-clause-line
returns-clause-line c = search rules

pub returns-clause-nth : goal.returns-clause-nth
returns-clause-nth c = returns-clause-line c ∙ visual_at c.args.self.now c.args.n
