use Rattle.std.proofs.Common.{ap, ◌∙◌}
use Rattle.sequences.specs.StyledTexts.{style_of, styled_of, with_styles}
use Rattle.sequences.proofs.StyleLemmas.{on_err, push_is}
use Rattle.sequences.proofs.style.StyledText.push.Goals as goal

pub returns-in_err-push-clause-err : goal.returns-in_err-push-clause-err
unfolding styled_of
returns-in_err-push-clause-err c =
    let text = c.start_run.new.self in
    on_err c.from_residual-in_err-push.result
    (ap (with_styles text.links.items text.runs.items 0) c.in_err-push.ensures.items ∙ c.start_run.ensures.text)

pub returns-clause-ok : goal.returns-clause-ok
unfolding styled_of
returns-clause-ok c =
    let text = c.start_run.new.self in
    push_is text.links.items text.runs.items text.characters.items _ c.args.c _ _ c.in_ok-push.ensures.items
    (c.in_ok-start_run.ensures.style ∙ ap (λ links. style_of links c.args.look c.args.link) c.start_run.ensures.links) c.start_run.ensures.text
