use Rattle.std.proofs.Common.{◌≡◌, IfOk, ap, subst, sym}
use Rattle.lines.specs.Engine.{rules_of}
use Rattle.lines.specs.Extents.{extents_of}
use Rattle.lines.specs.Layouts.{IsLaidOut, Rules, with_advances}
use Rattle.lines.proofs.engine.Engine.extents.Goals as goal

pub extents-requires : goal.extents-requires
extents-requires c = subst (λ (rules : Rules). IsLaidOut (with_advances rules c.args.laid.now.advances) c.args.laid.now) (sym (ap rules_of c.self.view_is)) c.requires.laid

pub returns-clause-ok : goal.returns-clause-ok
returns-clause-ok c =
    subst (λ (rules : Rules). IfOk c.extents.result (λ extents. extents ≡ extents_of (with_advances rules c.args.laid.now.advances) c.args.width c.args.laid.now.text)) (ap rules_of c.self.view_is) c.extents.ensures.extents
