use Rattle.std.proofs.Common.{◌≡◌, ℕ, List, map, sym, ap, ap₂, ◌∙◌}
use Rattle.std.proofs.lemmas.Simd.{map-map}
use Rattle.bidi.specs.Paragraphs.{sequence_in}
use Rattle.bidi.specs.Reasons.{Sequence, sequence_reasons}
use Rattle.bidi.specs.Runs.{sequence_at}
use Rattle.bidi.specs.Sequences.{sequences}
use Rattle.bidi.proofs.sequence_reasons.all_sequences.Goals as goal

pub returns : goal.returns
returns c look text are =
    let p = c.args.paragraph.now in
    let levels = p.retained.now.levels.items in
    let classes = p.retained.now.classes.items in
    let each : List ℕ → Sequence = sequence_reasons look p.base text classes levels p.retained.now.types.items in
    let starts = c.in_ok-starts.starts.items in
    let found : map (sequence_at classes levels) starts ≡ sequences classes levels =
    ap₂ (λ cs ls. map (sequence_at cs ls) starts) (sym c.deref.ensures.value) (sym c.deref-2.ensures.value) ∙ c.in_ok-starts.ensures.sequences
    ∙ ap₂ (λ cs ls. sequences cs ls) c.deref.ensures.value c.deref-2.ensures.value in
    c.in_ok-list.ensures look text are
    ∙ ap (map (λ start. each (sequence_in p start))) c.deref-3.ensures.value
    ∙ sym (map-map each (sequence_at classes levels) starts)
    ∙ ap (map each) found
