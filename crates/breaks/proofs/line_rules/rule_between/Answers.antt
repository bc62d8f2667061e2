use Rattle.std.proofs.Common.{map, unwrap_or, sym, ap, ◌∙◌}
use Rattle.breaks.specs.Reasons.{first_by, names}
use Rattle.breaks.specs.Rules.{rules}
use Rattle.breaks.specs.Seen.{base_in}
use Rattle.breaks.specs.declared.line_rule.LineRule.TheVariants.{LB31}
use Rattle.breaks.proofs.line_rules.rule_between.Goals as goal

pub returns-in-V15_0 : goal.returns-in-V15_0
returns-in-V15_0 c =
    c.unwrap_or.ensures
    ∙ ap (λ rule. unwrap_or rule LB31) c.rule_15.ensures
    ∙ ap (λ v. unwrap_or (first_by (names v c.args.whole_numbers) (rules v c.args.whole_numbers) c.args.before.now (map base_in c.args.after.now)) LB31) (sym c.in-V15_0.is)

pub returns-in-V17_0 : goal.returns-in-V17_0
returns-in-V17_0 c =
    c.unwrap_or-in-V17_0.ensures
    ∙ ap (λ rule. unwrap_or rule LB31) (c.rule_17.ensures c.args.whole_numbers)
    ∙ ap (λ v. unwrap_or (first_by (names v c.args.whole_numbers) (rules v c.args.whole_numbers) c.args.before.now (map base_in c.args.after.now)) LB31) (sym c.in-V17_0.is)
