use Rattle.std.proofs.Common.{sym, ap, ◌∙◌}
use Rattle.std.proofs.lemmas.List.{get_or_default}
use Rattle.ucd.specs.Classes.{is_removed}
use Rattle.ucd.specs.declared.bidi_class.BidiClass.TheVariants.{L, ON}
use Rattle.bidi.proofs.ExplicitLemmas.{kept_more, kept_same}
use Rattle.bidi.proofs.paragraph_reasons.kept_indices.Goals as goal
use Rattle.bidi.proofs.paragraph_reasons.kept_indices.Goals.{then-not-is_removed+in_ok-push as stays, else-not-is_removed as goes}

pub loop-k-preserved : goal.loop-k-preserved
loop-k-preserved c =
    let at = get_or_default c.args.classes.now c.loop-k.k L ON c.loop-k-test.true in
    elim c.if-not-is_removed.branch [
      | stays w ↦ ap (λ l. l.items) w.list-is ∙ w.in_ok-push.ensures.items
          ∙ kept_more c.args.classes.now c.loop-k.k c.loop-k.list.items c.loop-k.invariant (sym (ap is_removed at) ∙ sym c.is_removed.ensures ∙ w.if-not-is_removed.true)
      | goes w ↦ ap (λ l. l.items) w.list-is
          ∙ kept_same c.args.classes.now c.loop-k.k c.loop-k.list.items c.loop-k.invariant (sym (ap is_removed at) ∙ sym c.is_removed.ensures ∙ w.if-not-is_removed.false)
    ]
