use Rattle.std.proofs.Common.{◌≤◌, ◌+◌, length, ap, ◌∙◌, arith}
use Rattle.sequences.specs.Styled.{DEFAULT}
use Rattle.sequences.specs.StyledTexts.{style_at, styled_of, with_styles}
use Rattle.sequences.specs.declared.style.StyleRun.{StyleRun}
use Rattle.sequences.proofs.StyleLemmas.{style_at-from, with_styles-run}
use Rattle.sequences.proofs.style.StyledText.start_run.Goals as goal

pub returns-in_err-push-clause-text : goal.returns-in_err-push-clause-text
unfolding styled_of
returns-in_err-push-clause-text c =
    let text = c.args.self.now in
    ap (λ runs. with_styles text.links.items runs 0 text.characters.items) c.in_err-push.ensures.items

pub returns-clause-style : goal.returns-clause-style
returns-clause-style c =
    let text = c.args.self.now in
    let run : StyleRun = record { start = c.len.result; look = c.args.look; link = c.args.link } in
    ap (λ runs. style_at text.links.items DEFAULT runs (length text.characters.items)) c.in_ok-push.ensures.items
    ∙ style_at-from text.links.items text.runs.items run _ (omega arith)

pub returns-clause-text : goal.returns-clause-text
unfolding styled_of
returns-clause-text c =
    let text = c.args.self.now in
    let run : StyleRun = record { start = c.len.result; look = c.args.look; link = c.args.link } in
    let end : 0 + length text.characters.items ≤ c.len.result = omega arith in
    ap (λ runs. with_styles text.links.items runs 0 text.characters.items) c.in_ok-push.ensures.items
    ∙ with_styles-run text.links.items text.runs.items run 0 text.characters.items end
