use Rattle.std.proofs.Common.{List, [], ◌∷◌, ◌++◌, map, refl, ap₂, ◌∙◌}
use Rattle.std.specs.Option.{option_or}
use Rattle.ucd.specs.declared.version.Version.TheVariants.{V15_0}
use Rattle.breaks.specs.Reasons as names
use Rattle.breaks.specs.Rules as rows
use Rattle.breaks.specs.Rules.{rows_before_numbers}
use Rattle.breaks.specs.Seen.{base_in}
use Rattle.breaks.proofs.ReasonLemmas.{Part, first_tried, named_rows}
use Rattle.breaks.proofs.line_rules.before_numbers.Goals as goal

pub returns : goal.returns
unfolding rows_before_numbers
returns c =
    let parts : List Part =
    named_rows names.names_LB12a_to_LB14 (rows.LB12a V15_0 ++ (rows.LB13 V15_0 ++ rows.LB14)) ∷
    named_rows (names.names_LB15 V15_0) (rows.LB15 V15_0) ∷
    named_rows names.names_LB16_to_LB18 rows.LB16_to_LB18 ∷
    named_rows (names.names_LB19 V15_0) (rows.LB19 V15_0) ∷
    named_rows names.names_LB20 rows.LB20 ∷
    named_rows (names.names_LB20a V15_0 ++ names.names_LB21_and_LB21a) (rows.LB20a V15_0 ++ (rows.LB21 V15_0 ++ rows.LB21a V15_0)) ∷
    named_rows names.names_LB21b_to_LB24 rows.LB21b_to_LB24 ∷ [] in
    (c.or-7.ensures ∙ ap₂ option_or (c.or-6.ensures ∙ ap₂ option_or (c.or-5.ensures ∙ ap₂ option_or (c.or-4.ensures ∙ ap₂ option_or (c.or-3.ensures ∙ ap₂ option_or (c.or-2.ensures ∙ ap₂ option_or (c.or.ensures ∙ ap₂ option_or c.lb3_to_lb12.ensures c.lb12a_to_lb14.ensures) c.lb15.ensures) c.lb16_to_lb18.ensures) c.lb19.ensures) c.lb20.ensures) c.lb21_and_lb21a.ensures) c.lb21b_to_lb24.ensures)
    ∙ first_tried c.args.before.now (map base_in c.args.after.now) (named_rows names.names_LB3_to_LB12 rows.LB3_to_LB12) parts (refl, (refl, (refl, (refl, (refl, (refl, (refl, (refl, tt))))))))
