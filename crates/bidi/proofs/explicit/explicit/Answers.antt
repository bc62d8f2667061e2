use Rattle.std.proofs.Common.{sym, ◌∙◌, arith}
use Rattle.std.proofs.lemmas.List.{get_or_default}
use Rattle.ucd.specs.declared.bidi_class.BidiClass.TheVariants.{L, ON}
use Rattle.bidi.proofs.ExplicitLemmas.{IsWalked-reached, IsWalked-removed, IsWalked-retained, AreOpeners-walked, AreOpeners-reached}
use Rattle.bidi.proofs.explicit.explicit.Goals as goal
use Rattle.bidi.proofs.explicit.explicit.Goals.{then-not-is_removed+in_ok-push_character as stays, else-not-is_removed as goes}

pub reach-requires : goal.reach-requires
reach-requires c =
    let at = get_or_default c.args.classes.now c.loop-class.class-index L ON c.loop-class-test.true in
    AreOpeners-walked c.loop-class.invariant c.loop-class-test.true at c.requires (omega arith)

pub status-requires : goal.status-requires
status-requires c =
    let at = get_or_default c.args.classes.now c.loop-class.class-index L ON c.loop-class-test.true in
    AreOpeners-reached c.loop-class.invariant c.loop-class-test.true at _ c.requires (omega arith)
    (IsWalked-reached c.loop-class.invariant c.loop-class-test.true at _ c.reach.ensures)

pub pass-requires : goal.pass-requires
pass-requires c =
    let at = get_or_default c.args.classes.now c.loop-class.class-index L ON c.loop-class-test.true in
    AreOpeners-reached c.loop-class.invariant c.loop-class-test.true at _ c.requires (omega arith)
    (IsWalked-reached c.loop-class.invariant c.loop-class-test.true at _ c.reach.ensures)

pub loop-class-preserved : goal.loop-class-preserved
loop-class-preserved c =
    let at = get_or_default c.args.classes.now c.loop-class.class-index L ON c.loop-class-test.true in
    let holds = IsWalked-reached c.loop-class.invariant c.loop-class-test.true at _ c.reach.ensures in
    elim c.if-not-is_removed.branch [
      | stays w ↦ rw w.retained-is
          (IsWalked-retained c.loop-class.invariant c.loop-class-test.true at _ _ holds c.pass.ensures (sym c.is_removed.ensures ∙ w.if-not-is_removed.true)
          w.status.result (w.status.ensures _ _ holds) _ w.in_ok-push_character.ensures.classes w.in_ok-push_character.ensures.levels w.in_ok-push_character.ensures.types)
      | goes w ↦ rw w.retained-is
          (IsWalked-removed c.loop-class.invariant c.loop-class-test.true at _ _ holds c.pass.ensures (sym c.is_removed.ensures ∙ w.if-not-is_removed.false))
    ]
