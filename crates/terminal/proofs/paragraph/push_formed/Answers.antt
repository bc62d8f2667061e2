use Rattle.std.proofs.Common.{◌≡◌, ◌∙◌, ◌++◌, None, ap, sym}
use Rattle.lines.specs.Engine.{rules_of}
use Rattle.terminal.specs.Forms.{print_of, width_of}
use Rattle.terminal.specs.Paragraphs.{styled_bytes}
use Rattle.terminal.specs.Parts.{styles_in}
use Rattle.terminal.specs.Prefixes.{prefixed_bytes}
use Rattle.terminal.proofs.LayoutLemmas.{on_ok}
use Rattle.terminal.proofs.paragraph.push_formed.Goals as goal

pub returns-then-len-eq0-clause-ok : goal.returns-then-len-eq0-clause-ok
returns-then-len-eq0-clause-ok c =
    let rules = rules_of c.args.engine.now in
    let form = c.args.form.now in
    let text = c.args.part.now.characters.now in
    let styles = styles_in c.args.part.now in
    let page = c.args.page.now.bytes.items in
    on_ok c.push_whole.result
    (λ (e : c.push_whole.new.page.bytes.items ≡ page ++ styled_bytes None rules (width_of form) (print_of form) text styles).
    e ∙ ap (λ n. page ++ prefixed_bytes rules form text styles n) (sym c.if-len-eq0.true ∙ c.in_ok-len.ensures.value))
    c.push_whole.ensures.ok

pub returns-clause-ok : goal.returns-clause-ok
returns-clause-ok c =
    let rules = rules_of c.args.engine.now in
    let form = c.args.form.now in
    let text = c.args.part.now.characters.now in
    let styles = styles_in c.args.part.now in
    let page = c.args.page.now.bytes.items in
    on_ok c.push_split.result
    (λ (e : c.push_split.new.page.bytes.items ≡ page ++ prefixed_bytes rules form text styles c.in_ok-len.len).
    e ∙ ap (λ n. page ++ prefixed_bytes rules form text styles n) c.in_ok-len.ensures.value)
    c.push_split.ensures.ok
