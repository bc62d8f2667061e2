use Rattle.std.proofs.Common.{ap, ◌∙◌}
use Rattle.std.proofs.lemmas.List.{with_items_is}
use Rattle.bidi.specs.Brackets.{brackets}
use Rattle.bidi.proofs.sequence_steps.pair.Goals as goal

pub returns-clause-types : goal.returns-clause-types
returns-clause-types c look text are =
    let sides = c.args.sides in
    let explicit = c.args.explicit.now in
    with_items_is c.in_ok-paired.paired c.resolve.new.types (c.resolve.auto.types ∙ c.deref_mut.ensures.len)
    ∙ c.in_ok-resolve.ensures look text are
    ∙ ap (brackets look c.direction.result sides.sos text explicit) (c.deref_mut.ensures.value ∙ c.in_ok-paired.ensures.items)
    ∙ ap (λ e. brackets look e sides.sos text explicit c.args.types.now) c.direction.ensures.direction
