use Rattle.std.proofs.Common.{arith}
use Rattle.lines.specs.Engine.{rules_of}
use Rattle.lines.specs.Layouts.{cut_by}
use Rattle.session.proofs.EditedTextLemmas.{still_one}
use Rattle.session.proofs.joined.is_still_one.Goals as goal

pub returns-in-None : goal.returns-in-None
returns-in-None c =
    λ yes. still_one c.paragraphs_are_pieces.ensures (cut_by (rules_of c.args.engine.now)) c.args.edited.now.kept.now.text c.args.text.now c.args.edited.now.edit c.requires.edit c.requires.some
    c.requires.paragraph.whole c.saturating_sub.result c.min.result (omega arith) (omega arith) c.in-None.ensures.paragraphs
