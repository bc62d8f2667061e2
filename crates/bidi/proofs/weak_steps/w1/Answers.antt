use Rattle.std.proofs.Common.{refl, sym, ◌∙◌}
use Rattle.bidi.proofs.WeakStepLemmas.{finished, marked, w1_carried}
use Rattle.bidi.proofs.weak_steps.w1.Goals as goal

pub returns : goal.returns
returns c =
    finished (marked c.loop-k.before) refl c.loop-k.list.items (marked c.args.sos c.args.types.now) c.args.types.now c.loop-k.k c.loop-k-test.false c.loop-k.invariant
    ∙ sym (w1_carried c.args.sos c.args.types.now)
