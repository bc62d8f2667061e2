use Rattle.std.proofs.Common.{length, sym, ap, ◌∙◌}
use Rattle.bidi.proofs.LengthLemmas.{length-directed}
use Rattle.bidi.proofs.paragraph_reasons.with_steps.Goals as goal

pub sequences_by-requires-clause-kinds : goal.sequences_by-requires-clause-kinds
sequences_by-requires-clause-kinds c =
    c.requires.kinds ∙ sym (ap length (c.deref-3.ensures.value ∙ c.in_ok-_is_found.ensures.acting) ∙ length-directed c.args.classes.now)
