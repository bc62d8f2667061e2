use Rattle.std.proofs.Common.{refl, sym, ◌∙◌}
use Rattle.bidi.proofs.WeakStepLemmas.{finished, lefts, w7_carried}
use Rattle.bidi.proofs.weak_steps.w7.Goals as goal

pub returns : goal.returns
returns c =
    finished (lefts c.loop-k.strong) refl c.loop-k.list.items (lefts c.args.sos c.args.types.now) c.args.types.now c.loop-k.k c.loop-k-test.false c.loop-k.invariant
    ∙ sym (w7_carried c.args.sos c.args.types.now)
