use Rattle.std.proofs.Common.{drop, ap, ◌∙◌}
use Rattle.std.proofs.lemmas.List.{drop-drop}
use Rattle.sequences.specs.Parts.{parts_after}
use Rattle.sequences.proofs.parts.without_parts.Goals as goal

pub loop-preserved : goal.loop-preserved
loop-preserved c =
    c.after_part-rest.ensures.rest ∙ ap (drop 1) c.loop.invariant ∙ drop-drop 1 c.loop.counter (parts_after c.args.separator c.args.text.now)
