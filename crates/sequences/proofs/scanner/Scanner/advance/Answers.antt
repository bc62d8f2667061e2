use Rattle.std.proofs.Common.{ℕ, List, ◌++◌, map, ap, ◌∙◌}
use Rattle.sequences.specs.PlainRuns.{plain_pen}
use Rattle.sequences.specs.Scanners.{pen_of}
use Rattle.sequences.specs.StyledTexts.{styled_of}
use Rattle.sequences.proofs.StepLemmas.{plain_step_pen, plain_step_text, step_pen, step_text}
use Rattle.sequences.proofs.scanner.Scanner.advance.Goals as goal

pub returns-then-len-gt0-clause-text : goal.returns-then-len-gt0-clause-text
returns-then-len-gt0-clause-text c =
    let pen = pen_of c.args.self.now in
    plain_step_text pen _ (styled_of c.args.self.now.text) _ c.args.text.now c.plain_len-len.result c.plain_len-len.ensures.kept
    (c.plain_len-len.ensures.alone c.if-len-gt0.true)
    (c.in_ok-push_plain.ensures.text ∙ ap (λ (run : List ℕ). styled_of c.args.self.now.text ++ map (λ d. (d, pen.style)) run) c.split_at.ensures.front)
    (c.in_ok-push_plain.ensures.pen ∙ ap (plain_pen pen) c.split_at.ensures.front)

pub returns-then-len-gt0-clause-pen : goal.returns-then-len-gt0-clause-pen
returns-then-len-gt0-clause-pen c =
    let pen = pen_of c.args.self.now in
    plain_step_pen pen _ c.args.text.now c.plain_len-len.result c.plain_len-len.ensures.kept (c.plain_len-len.ensures.alone c.if-len-gt0.true)
    (c.in_ok-push_plain.ensures.pen ∙ ap (plain_pen pen) c.split_at.ensures.front)

pub returns-clause-text : goal.returns-clause-text
returns-clause-text c =
    step_text (pen_of c.args.self.now) _ _ _ c.in-Some.first.now c.in-Some.rest.now c.args.text.now _ c.in-Some.ensures.cases.0
    c.in_ok-len-in-Some.ensures.len c.in_ok-len-in-Some.ensures.text c.in_ok-len-in-Some.ensures.pen

pub returns-clause-pen : goal.returns-clause-pen
returns-clause-pen c =
    step_pen (pen_of c.args.self.now) _ c.in-Some.first.now c.in-Some.rest.now c.args.text.now _ c.in-Some.ensures.cases.0
    c.in_ok-len-in-Some.ensures.len c.in_ok-len-in-Some.ensures.pen
