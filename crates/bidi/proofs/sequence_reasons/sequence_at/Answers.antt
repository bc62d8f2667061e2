use Rattle.std.proofs.Common.{◌≡◌, ℕ, List, length, map, slice_index, sym, ap, ap₂, subst, ◌∙◌}
use Rattle.ucd.specs.declared.bidi_class.BidiClass.{BidiClass}
use Rattle.ucd.specs.Within.{AreWithin}
use Rattle.ucd.specs.Classes.{class_at}
use Rattle.bidi.specs.BracketTypes.{bracket_at, bracket_types}
use Rattle.bidi.specs.Paragraphs.{AreSides, sequence_in}
use Rattle.bidi.specs.Reasons.{Sequence, sequence_steps}
use Rattle.bidi.specs.Runs.{sequence_at}
use Rattle.bidi.specs.Sequences.{eos, first_of, sos}
use Rattle.bidi.specs.declared.sequence_steps.SequenceStep.{SequenceStep}
use Rattle.bidi.proofs.BracketTypeLemmas.{types-places}
use Rattle.bidi.proofs.sequence_reasons.sequence_at.Goals as goal

abbrev made : List ℕ → ℕ → BidiClass → BidiClass → List SequenceStep → Sequence
made places level sos eos steps = record { places = places; level = level; sos = sos; eos = eos; steps = steps }

pub returns : goal.returns
returns c look text are =
    let p = c.args.paragraph.now in
    let levels = p.retained.now.levels.items in
    let classes = p.retained.now.classes.items in
    let explicit = p.retained.now.types.items in
    let sequence = sequence_in p c.args.start in
    let sides = c.sides_of-sides.result in
    let found = c.gather.new.places.items in
    let places : found ≡ sequence = c.in_ok-gather.ensures.places ∙ ap₂ (λ cs ls. sequence_at cs ls c.args.start) c.deref.ensures.value c.deref-2.ensures.value in
    let sized : length c.deref-2.result.now ≡ length text = ap length c.deref-2.ensures.value ∙ sym are.size in
    let within : AreWithin (length text) found = subst (λ (n : ℕ). AreWithin n found) sized c.in_ok-gather.ensures.within in
    let part = map (slice_index text) found in
    let kinds : c.deref-7.result.now ≡ bracket_types look part =
    c.deref-7.ensures.value ∙ c.in_ok-fill_brackets.ensures ∙ ap (map (bracket_at p.brackets.types.now)) c.deref-3.ensures.value
    ∙ ap (λ types. map (bracket_at types) found) (are.types c.requires.any) ∙ sym (types-places look text found within) in
    let types : c.deref-8.result.now ≡ map (class_at explicit) found =
    c.deref-8.ensures.value ∙ c.in_ok-fill_types.ensures ∙ ap₂ (λ all ps. map (class_at all) ps) c.deref-4.ensures.value c.deref-5.ensures.value in
    let are_sides : AreSides p c.deref-6.result.now sides = c.sides_of-sides.ensures.sides in
    let here : c.deref-6.result.now ≡ sequence = c.deref-6.ensures.value ∙ places in
    let level : sides.level ≡ slice_index levels (first_of sequence) = are_sides.level_is ∙ ap (λ xs. slice_index levels (first_of xs)) here in
    let before : sides.sos ≡ sos p.base levels sequence = are_sides.sos_is ∙ ap (sos p.base levels) here in
    let after : sides.eos ≡ eos p.base classes levels sequence = are_sides.eos_is ∙ ap (eos p.base classes levels) here in
    let steps : c.in_ok-steps.steps.items ≡ sequence_steps look sides.level sides.sos sides.eos (map (slice_index text) sequence) (map (class_at explicit) sequence) =
    c.in_ok-steps.ensures.steps look part kinds ∙ ap (sequence_steps look sides.level sides.sos sides.eos part) types
    ∙ ap (λ ps. sequence_steps look sides.level sides.sos sides.eos (map (slice_index text) ps) (map (class_at explicit) ps)) places in
    ap₂ (λ ps ss. made ps sides.level sides.sos sides.eos ss) places steps
    ∙ ap (λ l. made sequence l sides.sos sides.eos (sequence_steps look l sides.sos sides.eos (map (slice_index text) sequence) (map (class_at explicit) sequence))) level
    ∙ ap (λ b. made sequence (slice_index levels (first_of sequence)) b sides.eos
    (sequence_steps look (slice_index levels (first_of sequence)) b sides.eos (map (slice_index text) sequence) (map (class_at explicit) sequence))) before
    ∙ ap (λ e. made sequence (slice_index levels (first_of sequence)) (sos p.base levels sequence) e
    (sequence_steps look (slice_index levels (first_of sequence)) (sos p.base levels sequence) e (map (slice_index text) sequence) (map (class_at explicit) sequence))) after
