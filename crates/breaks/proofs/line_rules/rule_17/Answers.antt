use Rattle.std.proofs.Common.{List, false, [], ◌∷◌, map, refl, ap₂, ◌∙◌}
use Rattle.std.specs.Option.{option_or}
use Rattle.ucd.specs.declared.version.Version.TheVariants.{V17_0}
use Rattle.breaks.specs.Reasons.{names, names_LB26_to_LB28, names_LB28a, names_LB29_to_LB30b, names_before_numbers, names_of_numbers}
use Rattle.breaks.specs.Rules.{LB26_to_LB28, LB28a, LB29_to_LB30b, rows_after_numbers, rows_before_numbers, rows_of_numbers, rules}
use Rattle.breaks.specs.Seen.{base_in}
use Rattle.breaks.proofs.ReasonLemmas.{Part, first_tried, named_rows}
use Rattle.breaks.proofs.line_rules.rule_17.Goals as goal

pub returns : goal.returns
unfolding names rules rows_after_numbers rows_before_numbers rows_of_numbers
returns c whole_numbers =
    let parts : List Part =
    named_rows (names_of_numbers V17_0 false) (rows_of_numbers V17_0) ∷ named_rows names_LB26_to_LB28 LB26_to_LB28
    ∷ named_rows (names_LB28a V17_0) (LB28a V17_0) ∷ named_rows names_LB29_to_LB30b LB29_to_LB30b ∷ [] in
    (c.or-4.ensures ∙ ap₂ option_or (c.or-3.ensures ∙ ap₂ option_or (c.or-2.ensures ∙ ap₂ option_or (c.or.ensures ∙ ap₂ option_or c.before_numbers_17.ensures c.lb25_17.ensures) c.lb26_to_lb28.ensures) c.lb28a.ensures) c.lb29_to_lb30b.ensures)
    ∙ first_tried c.args.before.now (map base_in c.args.after.now) (named_rows (names_before_numbers V17_0) (rows_before_numbers V17_0)) parts
    (refl, (refl, (refl, (refl, (refl, tt)))))
