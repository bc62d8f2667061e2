use Rattle.std.proofs.Common.{take, sym, ap, ◌∙◌}
use Rattle.sequences.specs.Looks.{value}
use Rattle.sequences.specs.Parameters.{number}
use Rattle.sequences.specs.Parts.{fields_after}
use Rattle.sequences.proofs.PartLemmas.{first_number}
use Rattle.sequences.proofs.parts.first_field.Goals as goal

pub returns-in-Some-clause-value : goal.returns-in-Some-clause-value
returns-in-Some-clause-value c =
    let rest = c.in-Some.rest.now in
    c.number.ensures.value ∙ ap number c.split_at.ensures.front ∙ ap (λ n. number (take n rest)) c.part_end.ensures.end
    ∙ sym (first_number c.in-Some.field-0-0.now rest) ∙ ap (λ text. value (fields_after text) 0) (sym c.in-Some.ensures.cases.0)
