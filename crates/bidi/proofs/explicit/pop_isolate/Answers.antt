use Rattle.std.proofs.Common.{◌≡◌, ◌<◌, length, sym, arith}
use Rattle.std.proofs.lemmas.Bool.{true≢false}
use Rattle.bidi.proofs.OpenersLemmas.{popped_isolate, popped_other, popped_none}
use Rattle.bidi.proofs.explicit.pop_isolate.Goals as goal

pub returns-then-status : goal.returns-then-status
returns-then-status c front h = popped_isolate front _ _ c.in-Some.status (c.loop-status.invariant front h) c.in-Some.ensures.items c.if-status.true

pub loop-status-preserved : goal.loop-status-preserved
loop-status-preserved c front h = popped_other front _ _ c.in-Some.status (c.loop-status.invariant front h) c.in-Some.ensures.items c.if-status.false

pub returns : goal.returns
returns c front h =
    let some_not : 0 < length c.loop-status.statuses.items → ⊥ = λ h. true≢false (sym (c.in_default.ensures.variant.1 h)) in
    let none : length c.loop-status.statuses.items ≡ 0 = omega arith in
    absurd (popped_none front _ (c.loop-status.invariant front h) none)
