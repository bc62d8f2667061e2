use Rattle.std.proofs.Common.{sym, ap, subst, ◌∙◌}
use Rattle.std.specs.List.{All}
use Rattle.lines.specs.Engine.{rules_of}
use Rattle.session.specs.Kept.{IsFresh}
use Rattle.session.proofs.WidthLemmas.{all_each, each_laid_out, values, HasRoom}
use Rattle.session.proofs.width.find_all.Goals as goal

pub find_each-requires-clause-laid : goal.find_each-requires-clause-laid
find_each-requires-clause-laid g c =
    let kept = g.S.ParagraphStore.items c.args.store.now in
    subst (All (IsFresh (rules_of c.args.engine.now))) (sym (ap values c.deref.ensures.value ∙ c.in_ok-list.ensures.ok))
    (all_each (IsFresh (rules_of c.args.engine.now)) kept (each_laid_out c.paragraphs_are_pieces.ensures c.args.engine.now c.requires.laid.0 c.requires.laid.1 kept c.requires.laid.2))

pub returns-clause-scratch : goal.returns-clause-scratch
returns-clause-scratch g c =
    rw c.in_ok-scratch.ensures.ok (subst (All (HasRoom c.longest.result)) (ap values c.deref-2.ensures.value ∙ c.in_ok-list.ensures.ok) c.longest.ensures.all)

pub returns-clause-least : goal.returns-clause-least
returns-clause-least g c = λ n all.
    let listed = subst (All (HasRoom n)) (sym (ap values c.deref-2.ensures.value ∙ c.in_ok-list.ensures.ok)) all in
    rw c.in_ok-scratch.ensures.ok (c.longest.ensures.least n listed)
