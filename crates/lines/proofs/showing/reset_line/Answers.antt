use Rattle.std.proofs.Common.{map, ap, sym, ◌∙◌}
use Rattle.std.proofs.lemmas.List.{length-map}
use Rattle.ucd.specs.Classes.{class_in}
use Rattle.reorder.specs.Spaces.{line_levels}
use Rattle.reorder.proofs.SpaceLemmas.{line_of_zeros}
use Rattle.lines.proofs.showing.reset_line.Goals as goal

pub returns-then-are_zero-clause-levels : goal.returns-then-are_zero-clause-levels
returns-then-are_zero-clause-levels c =
    let classes = map class_in c.args.properties.now in
    sym (ap (λ b. line_levels b classes c.args.levels.now) c.if-base-eq0.true
    ∙ line_of_zeros classes c.args.levels.now (length-map c.args.properties.now class_in ∙ c.requires) (c.are_zero.ensures c.if-are_zero.true))
