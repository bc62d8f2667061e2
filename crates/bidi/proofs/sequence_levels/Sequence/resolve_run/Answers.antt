use Rattle.std.proofs.Common.{◌≡◌, None, ◌++◌, ◌-◌, max, length, take, drop, slice_index, sym, ap, ◌∙◌, arith}
use Rattle.std.proofs.lemmas.List.{drop-drop, length-drop, length-take}
use Rattle.bidi.specs.Levels.{levels_in, put, sequence_levels}
use Rattle.bidi.specs.Paragraphs.{AreBracketsOf, AreSidesBetween}
use Rattle.bidi.specs.Sequences.{direction, level_before, level_after}
use Rattle.std.proofs.lemmas.List.Elements.{All-take, All-drop}
use Rattle.bidi.proofs.BracketTypeLemmas.{types-part}
use Rattle.bidi.proofs.AloneLemmas.{written_alone}
use Rattle.bidi.proofs.sequence_levels.Sequence.resolve_run.Goals as goal

pub part-brackets-requires-clause-within : goal.part-brackets-requires-clause-within
part-brackets-requires-clause-within c = λ any. omega (arith, c.requires.run.1, c.requires.paragraph.brackets any)

pub resolve_types-requires-clause-brackets : goal.resolve_types-requires-clause-brackets
resolve_types-requires-clause-brackets c = λ any.
    let p = c.args.paragraph.now in
    let types = p.retained.now.types.items in
    let start = c.args.start in
    let n = c.args.end - start in
    let there = sym c.part-brackets.ensures.same ∙ any in
    let own : c.deref_mut.result.now ≡ take n (drop start types) =
    c.deref_mut.ensures.value ∙ c.in_ok-copy_types.ensures ∙ ap (λ xs. take n (drop start xs)) c.deref.ensures.value in
    omega (
      arith,
      ap length own,
      ap length (c.part-brackets.ensures.types there),
      length-take n (drop start types),
      length-drop start types,
      length-take n (drop start p.brackets.types.now),
      length-drop start p.brackets.types.now,
      c.requires.run.0,
      c.requires.run.1,
      c.requires.paragraph.brackets there,
      c.requires.paragraph.retained.types,
    )

pub returns : goal.returns
returns c look text are =
    let p = c.args.paragraph.now in
    let levels = p.retained.now.levels.items in
    let classes = p.retained.now.classes.items in
    let types = p.retained.now.types.items in
    let start = c.args.start in
    let end = c.args.end in
    let n = end - start in
    let done = c.args.resolved.now in
    let values = c.resolve_types.new.levels in
    let sides = c.sides_between.result in
    let are_sides : AreSidesBetween p start (end - 1) sides = c.sides_between.ensures.sides in
    let part : c.deref.result.now ≡ types = c.deref.ensures.value in
    let own : c.deref_mut.result.now ≡ take n (drop start types) =
    c.deref_mut.ensures.value ∙ c.in_ok-copy_types.ensures ∙ ap (λ xs. take n (drop start xs)) part in
    let sized : length text ≡ length levels = are.size in
    let inside = take n (drop start text) in
    let parts : AreBracketsOf c.part-brackets.result (length c.deref_mut.result.now) look inside = record {
      size = omega (arith, ap length own, length-take n (drop start text), length-drop start text, length-take n (drop start types), length-drop start types, c.requires.run.0, c.requires.run.1, sized, c.requires.paragraph.retained.types);
      types = λ any. c.part-brackets.ensures.types (sym c.part-brackets.ensures.same ∙ any) ∙ ap (λ xs. take n (drop start xs)) (are.types (sym c.part-brackets.ensures.same ∙ any))
          ∙ sym (types-part look text start n);
      none = λ none. All-take (λ b. look b ≡ None) n (drop start text) (All-drop (λ b. look b ≡ None) start text (are.none (sym c.part-brackets.ensures.same ∙ none)));
    } in
    let made : values ≡ sequence_levels look sides.level sides.sos sides.eos inside c.deref_mut.result.now = c.in_ok-resolve_types.ensures look inside parts in
    let values_are : values ≡ sequence_levels look (slice_index levels start)
    (direction (max (slice_index levels start) (level_before p.base levels start)))
    (direction (max (slice_index levels (end - 1)) (level_after p.base classes levels (end - 1))))
    (take n (drop start text)) (take n (drop start types)) =
    rw (own, are_sides.level_is, are_sides.sos_is, are_sides.eos_is) at made in
    let count : length values ≡ n = c.resolve_types.auto.levels
    ∙ omega (arith, length-take n (drop start done), length-drop start done, c.requires.run.0, c.requires.run.1, c.requires.resolved) in
    let written = written_alone look p.base text classes levels types start end c.requires.run.0 c.requires.run.1 sized c.requires.paragraph.retained.types
    done values c.requires.resolved count values_are in
    ap (λ xs. take start done ++ (values ++ xs)) (drop-drop n start done)
    ∙ written ∙ ap (λ places. put done places (levels_in look p.base text classes levels types places)) (sym c.requires.alone)
