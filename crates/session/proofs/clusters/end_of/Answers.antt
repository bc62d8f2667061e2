use Rattle.std.proofs.Common.{◌∙◌}
use Rattle.lines.proofs.ShowLemmas.{end_last, end_next}
use Rattle.session.proofs.clusters.end_of.Goals as goal

pub returns-in-Some-clause-end : goal.returns-in-Some-clause-end
returns-in-Some-clause-end c =
    let next = c.in-Some.ensures.lookup.3 in
    next.1 0 ∙ end_next c.args.len c.args.starts.now c.args.k next.0

pub returns-in-None-clause-end : goal.returns-in-None-clause-end
returns-in-None-clause-end c = end_last c.args.len c.args.starts.now c.args.k c.in-None.ensures.lookup.3
