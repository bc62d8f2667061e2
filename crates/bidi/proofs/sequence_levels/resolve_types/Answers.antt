use Rattle.std.proofs.Common.{◌≡◌, length, map, sym, ap, ◌∙◌}
use Rattle.bidi.specs.Brackets.{brackets}
use Rattle.bidi.specs.Neutral.{implicit_level, neutral}
use Rattle.bidi.specs.Sequences.{direction}
use Rattle.bidi.specs.Weak.{weak}
use Rattle.bidi.proofs.NoBracketLemmas.{brackets-none}
use Rattle.bidi.proofs.sequence_levels.resolve_types.Goals as goal
use Rattle.bidi.proofs.sequence_levels.resolve_types.Goals.{then-brackets+in_ok-resolve, else-brackets}

pub returns : goal.returns
returns c look text are =
    let sides = c.args.sides in
    let old = c.args.types.now in
    let embedding = direction sides.level in
    let paired : c.if-brackets.types ≡ brackets look embedding sides.sos text old (weak sides.sos old) =
    elim c.if-brackets.branch [
      | then-brackets+in_ok-resolve w ↦ w.types-is
          ∙ rw (w.direction-embedding.ensures.direction, c.requires.explicit, c.resolve_weak.ensures) at w.in_ok-resolve.ensures look text (are.types w.if-brackets.true)
      | else-brackets w ↦ w.types-is ∙ c.resolve_weak.ensures
          ∙ sym (brackets-none look text (weak sides.sos old) (are.none w.if-brackets.false) embedding sides.sos old
          (are.size ∙ sym c.resolve_weak.auto.types ∙ ap length c.resolve_weak.ensures))
    ] in
    c.resolve_neutral.ensures ∙ ap (λ types. map (implicit_level sides.level) (neutral embedding sides.sos sides.eos types)) paired
