use Rattle.std.proofs.Common.{◌∷◌, [], ◌++◌, sym, ap, ◌∙◌, arith}
use Rattle.std.proofs.lemmas.List.{get_or_default}
use Rattle.ucd.specs.declared.bidi_class.BidiClass.TheVariants.{L, ON}
use Rattle.bidi.specs.BracketTypes.{bracket_at}
use Rattle.ucd.specs.Classes.{is_removed}
use Rattle.bidi.proofs.ExplicitLemmas.{stays, goes}
use Rattle.bidi.proofs.levels.retained_brackets.Goals as goal
use Rattle.bidi.proofs.levels.retained_brackets.Goals.{then-not-is_removed+in_ok-push, else-not-is_removed}

pub loop-at-preserved : goal.loop-at-preserved
loop-at-preserved c =
    let k = c.loop-at.at in
    let classes = c.args.classes.now in
    let all = c.args.all.now in
    let at = get_or_default classes k ON L (omega (arith, c.requires)) in
    elim c.if-not-is_removed.branch [
      | then-not-is_removed+in_ok-push w ↦
          ap (λ v. v.items) w.brackets-is ∙ w.in_ok-push.ensures.items
          ∙ ap (λ xs. xs ++ bracket_at all k ∷ []) c.loop-at.invariant
          ∙ sym (stays (bracket_at all) classes k (ap is_removed at ∙ sym c.is_removed.ensures ∙ w.if-not-is_removed.true))
      | else-not-is_removed w ↦
          ap (λ v. v.items) w.brackets-is ∙ c.loop-at.invariant
          ∙ sym (goes (bracket_at all) classes k (ap is_removed at ∙ sym c.is_removed.ensures ∙ w.if-not-is_removed.false))
    ]
