use Rattle.std.proofs.Common.{◌≡◌, ℕ, None, length, map, slice_index, sym, ap, subst, ◌∙◌}
use Rattle.std.proofs.lemmas.List.{length-map, with_items_is}
use Rattle.bidi.specs.BracketTypes.{bracket_at}
use Rattle.ucd.specs.Within.{AreWithin}
use Rattle.ucd.specs.Classes.{class_at}
use Rattle.bidi.specs.Levels.{put, sequence_levels}
use Rattle.bidi.specs.Paragraphs.{AreBracketsOf, AreSides, Takes, sequence_in}
use Rattle.bidi.specs.Sequences.{eos, first_of, sos}
use Rattle.bidi.proofs.BracketTypeLemmas.{types-places}
use Rattle.bidi.proofs.PartLemmas.{All-places}
use Rattle.bidi.proofs.sequence_levels.Sequence.resolve_gathered.Goals as goal

pub resolve_types-requires-clause-brackets : goal.resolve_types-requires-clause-brackets
resolve_types-requires-clause-brackets c = λ any.
    let p = c.args.paragraph.now in
    let taken : Takes p c.args.start c.take.new.self = c.in_ok-take.ensures in
    let types : c.deref_mut.result.now ≡ map (class_at p.retained.now.types.items) c.take.new.self.places.items = c.deref_mut.ensures.value ∙ taken.types_are ∙ taken.explicit_are in
    ap length (c.deref-2.ensures.value ∙ taken.brackets_are any) ∙ length-map c.take.new.self.places.items (bracket_at p.brackets.types.now)
    ∙ sym (ap length types ∙ length-map c.take.new.self.places.items (class_at p.retained.now.types.items))

pub returns : goal.returns
returns c look text are =
    let p = c.args.paragraph.now in
    let levels = p.retained.now.levels.items in
    let classes = p.retained.now.classes.items in
    let explicit = p.retained.now.types.items in
    let sequence = sequence_in p c.args.start in
    let sides = c.sides_of-sides.result in
    let taken : Takes p c.args.start c.take.new.self = c.in_ok-take.ensures in
    let found_places = c.take.new.self.places.items in
    let sized : length text ≡ length levels = are.size in
    let within : AreWithin (length text) found_places = subst (λ (n : ℕ). AreWithin n found_places) (sym sized) taken.within in
    let part = map (slice_index text) found_places in
    let own_types : c.deref_mut.result.now ≡ map (class_at explicit) found_places = c.deref_mut.ensures.value ∙ taken.types_are ∙ taken.explicit_are in
    let parts : AreBracketsOf (record { types = c.deref-2.result; has_any = p.brackets.has_any }) (length c.deref_mut.result.now) look part = record {
      size = length-map found_places (slice_index text) ∙ sym (ap length own_types ∙ length-map found_places (class_at explicit));
      types = λ any. c.deref-2.ensures.value ∙ taken.brackets_are any
          ∙ ap (λ types. map (bracket_at types) found_places) (are.types any) ∙ sym (types-places look text found_places within);
      none = λ none. All-places (λ b. look b ≡ None) text found_places (are.none none) within;
    } in
    let are_sides : AreSides p c.deref.result.now sides = c.sides_of-sides.ensures.sides in
    let here : c.deref.result.now ≡ sequence = c.deref.ensures.value ∙ taken.places_are in
    let level : sides.level ≡ slice_index levels (first_of sequence) = are_sides.level_is ∙ ap (λ xs. slice_index levels (first_of xs)) here in
    let before : sides.sos ≡ sos p.base levels sequence = are_sides.sos_is ∙ ap (sos p.base levels) here in
    let after : sides.eos ≡ eos p.base classes levels sequence = are_sides.eos_is ∙ ap (eos p.base classes levels) here in
    let places : c.deref-4.result.now ≡ sequence = c.deref-4.ensures.value ∙ taken.places_are in
    let characters : part ≡ map (slice_index text) sequence = ap (map (slice_index text)) taken.places_are in
    let found : c.take.new.self.explicit.items ≡ map (class_at explicit) sequence = taken.explicit_are ∙ ap (map (class_at explicit)) taken.places_are in
    let types : c.deref_mut.result.now ≡ map (class_at explicit) sequence = c.deref_mut.ensures.value ∙ taken.types_are ∙ found in
    let made : c.resolve_types.new.levels ≡ sequence_levels look sides.level sides.sos sides.eos part c.deref_mut.result.now =
    c.in_ok-resolve_types.ensures look part parts in
    let kept : length c.resolve_types.new.levels ≡ length c.deref_mut-2.result.now = c.resolve_types.auto.levels in
    let found_levels : c.deref-5.result.now ≡ c.resolve_types.new.levels =
    c.deref-5.ensures.value ∙ with_items_is c.resize.new.self c.resolve_types.new.levels (kept ∙ c.deref_mut-2.ensures.len) in
    let written : c.put_levels.new.levels ≡ put c.args.resolved.now c.deref-4.result.now c.deref-5.result.now = c.put_levels.ensures in
    rw (found_levels, made, places, characters, types, level, before, after) at written
