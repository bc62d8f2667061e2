use Rattle.std.proofs.Common.{[], ◌∷◌, take, None, sym, ap, subst, ◌∙◌, arith}
use Rattle.std.specs.Str.{chars}
use Rattle.std.proofs.lemmas.List.{length-take-le}
use Rattle.std.proofs.lemmas.Str.{chars-nil, IsCharBoundary-from_drop}
use Rattle.bidi.specs.Cuts.{paragraphs, SplitsAt}
use Rattle.bidi.specs.TextCuts.{EndsAfter, FindsEndAfter}
use Rattle.lines.specs.Engine.{rules_of}
use Rattle.lines.specs.Layouts.{cut_by}
use Rattle.session.proofs.JoinedLemmas.{some_chars, split_at_end}
use Rattle.session.proofs.RefusalSteps.{text_few}
use Rattle.session.proofs.opening.split_first.Goals as goal

pub split_at-requires : goal.split_at-requires
split_at-requires c = IsCharBoundary-from_drop c.args.text.now c.in-Some.end c.in-Some.ensures.within c.in-Some.ensures.rest

pub returns-in-Some-clause-shorter : goal.returns-in-Some-clause-shorter
returns-in-Some-clause-shorter c =
    let text = c.args.text.now in
    let ends : EndsAfter (cut_by (rules_of c.args.engine.now)) [] text c.in-Some.end = c.in-Some.ensures in
    omega (arith, c.split_at.ensures.back_len, ends.within, ends.splits.0, text_few (take c.in-Some.end text) ends.front, length-take-le c.in-Some.end text ends.within)

pub returns-in-Some-clause-paragraphs : goal.returns-in-Some-clause-paragraphs
returns-in-Some-clause-paragraphs c =
    let is_cut = cut_by (rules_of c.args.engine.now) in
    let ends : EndsAfter is_cut [] c.args.text.now c.in-Some.end = c.in-Some.ensures in
    split_at_end is_cut c.args.text.now _ _ c.in-Some.end ends c.split_at.ensures.front c.split_at.ensures.back

-- a text without a boundary is one paragraph, and no text follows it
pub returns-in-None-clause-paragraphs : goal.returns-in-None-clause-paragraphs
returns-in-None-clause-paragraphs c =
    let is_cut = cut_by (rules_of c.args.engine.now) in
    let text = c.args.text.now in
    let none : SplitsAt is_cut (chars text) None = subst (λ o. FindsEndAfter is_cut [] text o) c.in-None.is c.first_cut_in_text.ensures in
    none (some_chars text c.utf8.text c.requires) ∙ ap (λ t. chars text ∷ paragraphs is_cut t) (sym chars-nil)
