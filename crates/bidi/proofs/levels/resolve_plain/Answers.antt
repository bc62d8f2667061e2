use Rattle.std.proofs.Common.{◌≡◌, length, sym, ap, ◌∙◌}
use Rattle.std.proofs.lemmas.List.{with_items_is}
use Rattle.bidi.specs.Paragraphs.{AreBracketsOf}
use Rattle.bidi.specs.Levels.{sequence_levels}
use Rattle.bidi.specs.Sequences.{direction}
use Rattle.bidi.proofs.PlainLemmas.{plain_levels}
use Rattle.bidi.proofs.levels.resolve_plain.Goals as goal

pub resolve_types-requires-clause-brackets : goal.resolve_types-requires-clause-brackets
resolve_types-requires-clause-brackets c = λ any.
    c.requires.brackets any ∙ sym (ap length (c.deref_mut.ensures.value ∙ c.in_ok-copy_types.ensures))

pub returns : goal.returns
returns c look text are =
    let p = c.args.paragraph.now in
    let classes = p.classes.now in
    let base = p.base in
    let written = c.resolve_types.new.levels in
    let copied = c.deref_mut.result.now in
    let types : copied ≡ classes = c.deref_mut.ensures.value ∙ c.in_ok-copy_types.ensures in
    let same : AreBracketsOf p.brackets (length copied) look text = record {
      size = are.size ∙ sym (ap length types);
      types = are.types;
      none = are.none;
    } in
    let made : written ≡ sequence_levels look base c.direction-side.result c.direction-side.result text copied = c.in_ok-resolve_types.ensures look text same in
    let is : written ≡ sequence_levels look base (direction base) (direction base) text classes =
    made ∙ ap (λ d. sequence_levels look base d d text copied) c.direction-side.ensures.direction ∙ ap (sequence_levels look base (direction base) (direction base) text) types in
    let kept = c.resolve_types.auto.levels ∙ c.deref_mut-2.ensures.len in
    let size : length written ≡ length classes = kept ∙ c.in_ok-resize.ensures.len in
    with_items_is c.resize.new.self written kept ∙ is
    ∙ sym (plain_levels look text classes base c.requires.plain are.size (sym (ap length is) ∙ size))
