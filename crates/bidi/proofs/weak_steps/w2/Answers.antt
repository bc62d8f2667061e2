use Rattle.std.proofs.Common.{refl, sym, ◌∙◌}
use Rattle.bidi.proofs.WeakStepLemmas.{finished, turned, w2_carried}
use Rattle.bidi.proofs.weak_steps.w2.Goals as goal

pub returns : goal.returns
returns c =
    finished (turned c.loop-k.strong) refl c.loop-k.list.items (turned c.args.sos c.args.types.now) c.args.types.now c.loop-k.k c.loop-k-test.false c.loop-k.invariant
    ∙ sym (w2_carried c.args.sos c.args.types.now)
