use Rattle.lines.specs.Engine.{rules_of}
use Rattle.terminal.specs.Parts.{styles_in}
use Rattle.terminal.proofs.LayoutLemmas.{on_ok}
use Rattle.terminal.proofs.PrefixLemmas.{printed_is, rules_unlimited, rules_wide}
use Rattle.terminal.proofs.paragraph.push_paragraph.Goals as goal

pub returns-then-form-gt0-clause-ok : goal.returns-then-form-gt0-clause-ok
returns-then-form-gt0-clause-ok c =
    let rules = rules_of c.args.engine.now in
    let form = c.args.form.now in
    let part = c.args.part.now in
    let page = c.args.page.now.bytes.items in
    on_ok c.push_formed.result
    (printed_is rules rules form part.characters.now (styles_in part) page c.push_formed.new.page.bytes.items (rules_wide rules form c.if-form-gt0.true))
    c.push_formed.ensures.ok

pub returns-clause-ok : goal.returns-clause-ok
returns-clause-ok c =
    let rules = rules_of c.args.engine.now in
    let now = rules_of c.set_options.new.self in
    let form = c.args.form.now in
    let part = c.args.part.now in
    let page = c.args.page.now.bytes.items in
    on_ok c.push_formed-result.result
    (printed_is rules now form part.characters.now (styles_in part) page c.push_formed-result.new.page.bytes.items
    (rules_unlimited rules now form c.options-options.result c.if-form-gt0.false c.options-options.ensures.rules c.set_options.ensures.rules))
    c.push_formed-result.ensures.ok
