use Rattle.std.proofs.Common.{◌∙◌, ap}
use Rattle.lines.specs.Engine.{rules_of}
use Rattle.lines.specs.Extents.{reflowed}
use Rattle.lines.specs.Layouts.{Rules, with_advances}
use Rattle.lines.proofs.LayoutLemmas.{reflowed_laid_out}
use Rattle.lines.proofs.engine.Engine.reflow.Goals as goal

pub returns-clause-laid_out : goal.returns-clause-laid_out
returns-clause-laid_out c =
    reflowed_laid_out (with_advances (rules_of c.args.self.now) c.args.laid.now.advances) c.requires.extents.0 c.args.laid.now c.reflow.new.self c.args.extents.now c.requires.laid c.requires.extents.1
    (c.reflow.ensures.laid ∙ ap (λ (r : Rules). reflowed r c.args.laid.now c.args.extents.now) (ap rules_of c.self.view_is))
