use Rattle.std.proofs.Common.{◌≡◌, length, sym, ap, ◌∙◌}
use Rattle.bidi.specs.Explicit.{directed}
use Rattle.bidi.specs.Levels.{levels_by}
use Rattle.bidi.specs.Paragraphs.{AreBracketsOf}
use Rattle.bidi.proofs.BracketTypeLemmas.{ok_then}
use Rattle.bidi.proofs.LengthLemmas.{length-directed}
use Rattle.bidi.proofs.levels.resolve_classes.Goals as goal

pub resolve_acting-requires-clause-brackets : goal.resolve_acting-requires-clause-brackets
resolve_acting-requires-clause-brackets c = λ any.
    c.requires.brackets any ∙ sym (ap length (c.deref.ensures.value ∙ c.in_ok-is_found.ensures.acting) ∙ length-directed c.args.paragraph.now.classes.now)

pub returns : goal.returns
returns c = ok_then c.resolve_acting.result c.resolve_acting.ensures (λ all look text are.
    let p = c.args.paragraph.now in
    let acting : c.deref.result.now ≡ directed p.classes.now = c.deref.ensures.value ∙ c.in_ok-is_found.ensures.acting in
    let same : AreBracketsOf p.brackets (length c.deref.result.now) look text = record {
      size = are.size ∙ sym (ap length acting ∙ length-directed p.classes.now);
      types = are.types;
      none = are.none;
    } in
    all look text same ∙ ap (λ cs. levels_by look text cs p.base) acting)
