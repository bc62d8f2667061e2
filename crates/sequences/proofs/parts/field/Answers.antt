use Rattle.std.proofs.Common.{sym, ◌∙◌}
use Rattle.sequences.specs.Parameters.{number}
use Rattle.sequences.proofs.PartLemmas.{value_at}
use Rattle.sequences.proofs.parts.field.Goals as goal

pub returns-clause-value : goal.returns-clause-value
returns-clause-value c = c.first_field.ensures.value ∙ sym (value_at number _ _ c.args.k c.without_parts-rest.ensures)
