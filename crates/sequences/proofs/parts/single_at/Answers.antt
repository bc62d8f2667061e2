use Rattle.std.proofs.Common.{sym, ap, ◌∙◌}
use Rattle.sequences.specs.Looks.{single}
use Rattle.sequences.specs.Parts.{fields_after}
use Rattle.sequences.proofs.PartLemmas.{first_fields, single_at}
use Rattle.sequences.proofs.parts.single_at.Goals as goal

pub returns-clause-value : goal.returns-clause-value
returns-clause-value c =
    c.single.ensures.value ∙ ap (λ text. single (fields_after text)) c.split_part.ensures.first
    ∙ sym (first_fields c.without_parts-rest.result.now) ∙ sym (single_at _ _ c.args.k c.without_parts-rest.ensures)
