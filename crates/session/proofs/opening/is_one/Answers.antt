use Rattle.std.proofs.Common.{[], None, subst}
use Rattle.std.specs.Str.{chars}
use Rattle.bidi.specs.Cuts.{SplitsAt}
use Rattle.bidi.specs.TextCuts.{FindsEndAfter}
use Rattle.lines.specs.Engine.{rules_of}
use Rattle.lines.specs.Layouts.{cut_by}
use Rattle.session.proofs.JoinedLemmas.{text_some}
use Rattle.session.proofs.opening.is_one.Goals as goal

pub returns-in-None : goal.returns-in-None
returns-in-None c = λ _.
    let is_cut = cut_by (rules_of c.args.engine.now) in
    let text = c.args.text.now in
    let none : SplitsAt is_cut (chars text) None = subst (λ o. FindsEndAfter is_cut [] text o) c.in-None.is c.first_cut_in_text.ensures in
    none (text_some text _ c.utf8.text c.is_empty.ensures c.if-is_empty.false)
