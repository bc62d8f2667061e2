use Rattle.std.proofs.Common.{◌-◌, ◌==◌, length, slice_index, Some, None, if◌then◌else◌, ap, ◌∙◌, arith}
use Rattle.std.proofs.lemmas.List.{get_or_default}
use Rattle.ucd.specs.declared.bidi_class.BidiClass.TheVariants.{L, ON}
use Rattle.bidi.proofs.DepthLemmas.{no_indices}
use Rattle.bidi.proofs.ExplicitStepLemmas.{are_openers, are_passed, are_reached, more_steps, passed_indices, passed_is, reached_indices, reached_is}
use Rattle.bidi.proofs.OpenerLemmas.{opener_applies}
use Rattle.bidi.proofs.explicit_steps.explicit_steps.Goals as goal

pub loop-k-init : goal.loop-k-init
loop-k-init c = record {
  holds = c.new-openers.ensures;
  indices_are = rw c.new-indices.ensures.items (no_indices c.args.base c.args.classes.now);
  steps_are = c.in_ok-list.ensures.items;
}

pub reach-requires : goal.reach-requires
reach-requires c =
    let at = get_or_default c.args.classes.now c.loop-k.k L ON c.loop-k-test.true in
    are_openers c.loop-k.invariant c.loop-k-test.true at c.requires (omega arith)

pub depth-requires : goal.depth-requires
depth-requires c =
    let at = get_or_default c.args.classes.now c.loop-k.k L ON c.loop-k-test.true in
    are_reached c.loop-k.invariant c.loop-k-test.true at _ c.requires (omega arith)
    (reached_is c.loop-k.invariant c.loop-k-test.true at _ c.reach.ensures)

pub status-requires : goal.status-requires
status-requires c =
    let at = get_or_default c.args.classes.now c.loop-k.k L ON c.loop-k-test.true in
    are_reached c.loop-k.invariant c.loop-k-test.true at _ c.requires (omega arith)
    (reached_is c.loop-k.invariant c.loop-k-test.true at _ c.reach.ensures)

pub pass-requires : goal.pass-requires
pass-requires c =
    let at = get_or_default c.args.classes.now c.loop-k.k L ON c.loop-k-test.true in
    are_reached c.loop-k.invariant c.loop-k-test.true at _ c.requires (omega arith)
    (reached_is c.loop-k.invariant c.loop-k-test.true at _ c.reach.ensures)

pub depth-requires-in-loop-k : goal.depth-requires-in-loop-k
depth-requires-in-loop-k c =
    let at = get_or_default c.args.classes.now c.loop-k.k L ON c.loop-k-test.true in
    let reached = reached_is c.loop-k.invariant c.loop-k-test.true at _ c.reach.ensures in
    are_passed c.loop-k.invariant c.loop-k-test.true at _ c.requires (omega arith)
    (passed_is c.loop-k.invariant c.loop-k-test.true at _ _ reached c.pass.ensures)

pub loop-k-preserved : goal.loop-k-preserved
loop-k-preserved c =
    let at = get_or_default c.args.classes.now c.loop-k.k L ON c.loop-k-test.true in
    let reached = reached_is c.loop-k.invariant c.loop-k-test.true at _ c.reach.ensures in
    let passed = passed_is c.loop-k.invariant c.loop-k-test.true at _ _ reached c.pass.ensures in
    let here = rw (← c.in_ok-update.ensures) at (reached_indices c.loop-k.invariant c.loop-k-test.true at _ _ reached c.depth.ensures) in
    let after = passed_indices c.loop-k.invariant c.loop-k-test.true at _ _ _ here passed c.depth-in-loop-k.ensures in
    rw (c.in_ok-push.ensures.items, c.in_ok-update-2.ensures)
    (more_steps c.loop-k.invariant c.loop-k-test.true at _ _ _ passed here after c.status.result (c.status.ensures _ _ reached) c.step_in.result
    c.step_in.ensures.level c.step_in.ensures.class c.step_in.ensures.overriding (c.step_in.ensures.opener ∙ c.last.ensures
    ∙ ap (λ l. if length l == 0 then None else Some (slice_index l (length l - 1))) c.deref.ensures.value))

pub returns-clause-openers : goal.returns-clause-openers
returns-clause-openers c = opener_applies c.args.base c.args.classes.now
