use Rattle.std.proofs.Common.{ap, ◌∙◌}
use Rattle.sequences.specs.StyledTexts.{style_of, styled_of, with_styles}
use Rattle.sequences.proofs.StyleLemmas.{on_err, push_all_is}
use Rattle.sequences.proofs.style.StyledText.push_all.Goals as goal

pub returns-in_err-extend_from_slice-clause-err : goal.returns-in_err-extend_from_slice-clause-err
unfolding styled_of
returns-in_err-extend_from_slice-clause-err c =
    let text = c.start_run.new.self in
    on_err c.from_residual-in_err-extend_from_slice.result
    (ap (with_styles text.links.items text.runs.items 0) c.in_err-extend_from_slice.ensures.items ∙ c.start_run.ensures.text)

pub returns-clause-ok : goal.returns-clause-ok
unfolding styled_of
returns-clause-ok c =
    let text = c.start_run.new.self in
    push_all_is text.links.items text.runs.items text.characters.items c.args.characters.now _ _ _ c.in_ok-extend_from_slice.ensures.items text.starts
    (c.in_ok-start_run.ensures.style ∙ ap (λ links. style_of links c.args.look c.args.link) c.start_run.ensures.links) c.start_run.ensures.text
