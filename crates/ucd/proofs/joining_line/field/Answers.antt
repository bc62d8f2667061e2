use Rattle.std.proofs.Common.{[], option_map, ◌∙◌}
use Rattle.std.specs.List.{slice_split}
use Rattle.ucd.specs.Grammar.{is_delimiter}
use Rattle.ucd.proofs.FieldLemmas.{fields_left, first_field}
use Rattle.ucd.proofs.FileLines.{at_drop}
use Rattle.ucd.proofs.joining_line.field.Goals as goal

pub loop-preserved : goal.loop-preserved
loop-preserved c =
    let rest = option_map (λ rest. rest.now) c.cut_near.result.1 in
    let left = first_field c.in-Some.text.now c.cut_near.result.0.now rest c.cut_near.ensures.parts in
    (at_drop (slice_split (is_delimiter 59) c.args.content.now) c.loop.counter [] c.cut_near.result.0.now (fields_left rest)
    (rw c.in-Some.is at c.loop.invariant ∙ left)).2
