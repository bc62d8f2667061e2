use Rattle.std.proofs.Common.{ap, sym, ◌∙◌, ◌++◌}
use Rattle.std.proofs.lemmas.List.{append-nil}
use Rattle.sequences.specs.Output.{between}
use Rattle.terminal.specs.Numbers.{numbered}
use Rattle.terminal.proofs.SameStyles.{between_same}
use Rattle.terminal.proofs.line.push_change.Goals as goal

pub returns-then-before-number : goal.returns-then-before-number
returns-then-before-number c =
    let text = c.args.text.now in
    let style = numbered text.links.items text.runs.items in
    let out = c.args.out.now.items in
    sym (append-nil out) ∙ ap (λ xs. out ++ xs) (sym (between_same (style c.args.before)) ∙ ap (λ n. between (style c.args.before) (style n)) c.if-before-number.true)
