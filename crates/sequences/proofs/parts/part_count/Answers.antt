use Rattle.std.proofs.Common.{length, ◌+◌, sym, ap, ◌∙◌}
use Rattle.sequences.specs.Parts.{parts_after}
use Rattle.sequences.proofs.PartLemmas.{part_count}
use Rattle.sequences.proofs.parts.part_count.Goals as goal

pub returns-in-Some : goal.returns-in-Some
returns-in-Some c =
    ap (λ n. n + 1) c.separator_count.ensures ∙ sym (part_count c.args.separator c.in-Some.field-0-0.now c.in-Some.rest.now)
    ∙ ap (λ text. length (parts_after c.args.separator text)) (sym c.in-Some.ensures.cases.0)
