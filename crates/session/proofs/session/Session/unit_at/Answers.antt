use Rattle.std.proofs.Common.{sym, ◌∙◌}
use Rattle.session.proofs.EdgeLemmas.{unit_found}
use Rattle.session.proofs.session.Session.unit_at.Goals as goal

pub returns-in-Some-2-clause-ok : goal.returns-in-Some-2-clause-ok
returns-in-Some-2-clause-ok g c =
    unit_found c.args.self.now.kept c.args.line.now c.args.start c.args.column c.in-Some.place c.logical-k.result c.in-Some-2.cluster c.unit_of.result
    c.in-Some.ensures c.logical-k.ensures.value (sym c.in-Some-2.is ∙ c.in_ok-cluster.ensures.ok) c.unit_of.ensures.value
