use Rattle.std.proofs.Common.{◌≡◌, IfOk, subst, arith}
use Rattle.lines.specs.Engine.{rules_of}
use Rattle.session.proofs.EdgeLemmas.{after_is}
use Rattle.session.proofs.session.Session.edge_caret.Goals as goal

pub returns-else-edge-char_count-2-clause-ok : goal.returns-else-edge-char_count-2-clause-ok
returns-else-edge-char_count-2-clause-ok g c =
    let state = c.args.self.now in
    subst (λ found. IfOk c.caret_of-in-After.result (λ caret. caret ≡ found))
    (after_is (rules_of state.engine) state.kept c.args.edge c.in-After.is c.if-edge-eq0.false (omega (arith, c.if-edge-char_count-2.false, c.char_count-else-edge-eq0.ensures)))
    c.caret_of-in-After.ensures
