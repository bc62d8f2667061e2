use Rattle.std.proofs.Common.{◌≡◌, Bool, true, false, List, [], ◌∷◌, length, map, refl, ap₂, ◌∙◌}
use Rattle.std.specs.Option.{option_or}
use Rattle.ucd.specs.declared.version.Version.TheVariants.{V15_0}
use Rattle.breaks.specs.Reasons.{names, names_LB26_to_LB28, names_LB29_to_LB30b, names_before_numbers, names_of_numbers}
use Rattle.breaks.specs.Rules.{LB26_to_LB28, LB29_to_LB30b, numbers, rows_after_numbers, rows_before_numbers, rows_of_numbers, rules}
use Rattle.breaks.specs.Seen.{base_in}
use Rattle.breaks.proofs.ReasonLemmas.{Part, first_tried, named_rows}
use Rattle.breaks.proofs.line_rules.rule_15.Goals as goal

are_named : (whole_numbers : Bool) → length (names_of_numbers V15_0 whole_numbers) ≡ length (numbers V15_0 whole_numbers)
unfolding rows_of_numbers
are_named true = refl
are_named false = refl

pub returns : goal.returns
unfolding names rules rows_after_numbers rows_before_numbers
returns c =
    let part : Part = record { names = names_of_numbers V15_0 c.args.whole_numbers; rules = numbers V15_0 c.args.whole_numbers } in
    let parts : List Part = part ∷ named_rows names_LB26_to_LB28 LB26_to_LB28 ∷ named_rows names_LB29_to_LB30b LB29_to_LB30b ∷ [] in
    (c.or-3.ensures ∙ ap₂ option_or (c.or-2.ensures ∙ ap₂ option_or (c.or.ensures ∙ ap₂ option_or c.before_numbers.ensures c.numbers.ensures) c.lb26_to_lb28.ensures) c.lb29_to_lb30b.ensures)
    ∙ first_tried c.args.before.now (map base_in c.args.after.now) (named_rows (names_before_numbers V15_0) (rows_before_numbers V15_0)) parts
    (refl, (are_named c.args.whole_numbers, (refl, (refl, tt))))
