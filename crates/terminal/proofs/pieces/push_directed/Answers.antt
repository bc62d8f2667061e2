use Rattle.std.proofs.Common.{◌≡◌, ◌∙◌, ◌++◌, drop, ap, sym, subst}
use Rattle.std.specs.Prelude.{OnOk}
use Rattle.lines.specs.Engine.{rules_of}
use Rattle.lines.specs.Layouts.{Rules}
use Rattle.lines.specs.declared.options.Options.{Options}
use Rattle.terminal.specs.Forms.{with_options}
use Rattle.terminal.specs.Pieces.{IsWhole, directed, in_direction, printed_each}
use Rattle.terminal.proofs.PrefixLemmas.{options_are, set_rules}
use Rattle.terminal.proofs.pieces.push_directed.Goals as goal

pub push_rest-result-requires-clause-whole : goal.push_rest-result-requires-clause-whole
push_rest-result-requires-clause-whole c =
    let rules = rules_of c.args.engine.now in
    let own = c.options-own.result in
    subst (λ (r : Rules). IsWhole r c.args.part.now.characters.now)
    (sym (set_rules rules own c.options-own.ensures.rules (rules_of c.set_options.new.self) c.directed.result c.set_options.ensures.rules)) c.requires.whole

pub returns-clause-ok : goal.returns-clause-ok
returns-clause-ok c = λ shown same styles.
    let rules = rules_of c.args.engine.now in
    let own = c.options-own.result in
    let is : rules_of c.set_options.new.self ≡ in_direction rules c.args.base =
    set_rules rules own c.options-own.ensures.rules (rules_of c.set_options.new.self) c.directed.result c.set_options.ensures.rules
    ∙ ap (with_options rules) (c.directed.ensures ∙ ap (λ (o : Options). directed o c.args.base) (sym (options_are rules own c.options-own.ensures.rules))) in
    subst (λ (r : Rules). OnOk c.push_rest-result.result (c.push_rest-result.new.page.bytes.items
    ≡ c.args.page.now.bytes.items ++ printed_each r c.args.form.now (drop 1048576 shown))) is (c.push_rest-result.ensures.ok shown same styles)
