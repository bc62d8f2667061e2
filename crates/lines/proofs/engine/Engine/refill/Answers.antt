use Rattle.std.proofs.Common.{◌≡◌, ℕ, IfOk, List, Option, ap, subst, sym}
use Rattle.std.specs.Prelude.{option_map}
use Rattle.lines.specs.Engine.{rules_of}
use Rattle.lines.specs.Layouts.{fill_of, HaveRoom, IsLaidOut, Rules, with_advances}
use Rattle.lines.proofs.LayoutLemmas.{all_lines_by}
use Rattle.lines.proofs.engine.Engine.refill.Goals as goal

pub fill-requires-clause-laid : goal.fill-requires-clause-laid
fill-requires-clause-laid c = subst (λ (rules : Rules). IsLaidOut (with_advances rules c.args.laid.now.advances) c.args.laid.now) (sym (ap rules_of c.self.view_is)) c.requires.laid

pub returns-clause-ok : goal.returns-clause-ok
returns-clause-ok c =
    let given = option_map (λ list. list.now) c.advances.result in
    let own = subst (λ (rules : Rules). IfOk c.fill.result (λ fill. fill ≡ fill_of (with_advances rules given) c.args.width c.args.laid.now.text)) (ap rules_of c.self.view_is) c.fill.ensures.lines in
    subst (λ (advances : Option (List ℕ)). IfOk c.fill.result (λ fill. fill ≡ fill_of (with_advances (rules_of c.args.self.now) advances) c.args.width c.args.laid.now.text)) c.advances.ensures.advances own

pub fill-requires-clause-room : goal.fill-requires-clause-room
fill-requires-clause-room c = subst HaveRoom (sym c.advances.ensures.advances) c.advances.ensures.room

pub returns-clause-lines : goal.returns-clause-lines
returns-clause-lines c =
    all_lines_by (with_advances (rules_of c.args.self.now) c.args.laid.now.advances) _ c.args.width c.args.laid.now.text c.fill.result
    (ap (λ (rules : Rules). with_advances rules c.args.laid.now.advances) (ap rules_of c.self.view_is)) (returns-clause-ok c)
