use Rattle.std.proofs.Common.{◌≡◌, ◌∙◌, ap, sym}
use Rattle.lines.specs.Engine.{rules_of}
use Rattle.lines.specs.Layouts.{Layout, Rules, layout_of}
use Rattle.lines.specs.declared.options.Options.{Options}
use Rattle.terminal.specs.Forms.{UNLIMITED, with_options}
use Rattle.terminal.specs.Prefixes.{prefix_options}
use Rattle.terminal.proofs.LayoutLemmas.{if_ok}
use Rattle.terminal.proofs.PrefixLemmas.{options_are, set_rules}
use Rattle.terminal.proofs.prefix.lay_out_prefix.Goals as goal

pub returns-clause-laid : goal.returns-clause-laid
returns-clause-laid c =
    let rules = rules_of c.args.engine.now in
    let now = rules_of c.set_options.new.self in
    let own = c.options-own.result in
    let base = c.args.base in
    let text = c.args.text.now in
    let is : now ≡ with_options rules (prefix_options rules.options base) =
    set_rules rules own c.options-own.ensures.rules now c.prefix_options.result c.set_options.ensures.rules
    ∙ ap (with_options rules) (c.prefix_options.ensures ∙ ap (λ (o : Options). prefix_options o base) (sym (options_are rules own c.options-own.ensures.rules))) in
    if_ok c.lay_out-laid.result (λ (laid : Layout) (e : laid ≡ layout_of now UNLIMITED text). e ∙ ap (λ (r : Rules). layout_of r UNLIMITED text) is)
    c.lay_out-laid.ensures.laid
