use Rattle.std.proofs.Common.{◌∙◌, ◌++◌, ap, ap₂, refl, sym}
use Rattle.lines.specs.Engine.{rules_of}
use Rattle.lines.specs.Pages.{paragraph_bytes}
use Rattle.lines.specs.declared.printing.print.Print.{Print}
use Rattle.terminal.specs.Forms.{print_of, width_of}
use Rattle.terminal.proofs.PlainLemmas.{plain_paragraph}
use Rattle.terminal.proofs.paragraph.push_plain.Goals as goal

pub returns-in-Ok-clause-ok : goal.returns-in-Ok-clause-ok
returns-in-Ok-clause-ok c =
    let rules = rules_of c.args.engine.now in
    let form = c.args.form.now in
    let text = c.args.paragraph.now in
    c.in-Ok.ensures.ok.0.bytes
    ∙ ap (λ xs. c.args.page.now.bytes.items ++ xs)
    (ap₂ (λ width (print : Print). paragraph_bytes rules width print text) c.columns.ensures.width c.print-print.ensures
    ∙ sym (plain_paragraph rules (width_of form) (print_of form) text (record { visual = refl; ltov = refl; vtol = refl; levels = refl })))
