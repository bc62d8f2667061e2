use Rattle.std.proofs.Common.{◌≡◌, ◌∙◌, ◌++◌, ap}
use Rattle.lines.specs.Engine.{rules_of}
use Rattle.sequences.specs.Styled.{DEFAULT}
use Rattle.terminal.specs.Forms.{print_of, width_of}
use Rattle.terminal.specs.Lines.{in_style}
use Rattle.terminal.specs.Paragraphs.{styled_paragraph}
use Rattle.terminal.proofs.LayoutLemmas.{on_ok}
use Rattle.terminal.proofs.ParagraphLemmas.{plain_part}
use Rattle.terminal.proofs.paragraph.push_whole.Goals as goal

pub returns-then-is_plain-clause-ok : goal.returns-then-is_plain-clause-ok
returns-then-is_plain-clause-ok c =
    let rules = rules_of c.args.engine.now in
    let form = c.args.form.now in
    let part = c.args.part.now in
    let page = c.args.page.now.bytes.items in
    on_ok c.push_plain.result
    (λ (e : c.push_plain.new.page.bytes.items ≡ page ++ styled_paragraph rules (width_of form) (print_of form) (in_style DEFAULT part.characters.now)).
    e ∙ ap (λ xs. page ++ xs) (plain_part rules (width_of form) (print_of form) part c.requires.len (c.is_plain.ensures.0 c.if-is_plain.true)))
    c.push_plain.ensures.ok
