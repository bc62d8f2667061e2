use Rattle.std.proofs.Common.{None, refl, sym, ◌∙◌}
use Rattle.bidi.proofs.NeutralStepLemmas.{steps_are, steps_from}
use Rattle.bidi.proofs.WeakStepLemmas.{finished}
use Rattle.bidi.proofs.neutral_steps.neutral_steps.Goals as goal

pub returns : goal.returns
returns c =
    finished (steps_from c.args.embedding c.args.eos c.loop-k.before.class c.loop-k.before.index c.loop-k.k) refl c.loop-k.list.items
    (steps_from c.args.embedding c.args.eos c.args.sos None 0 c.args.types.now) c.args.types.now c.loop-k.k c.loop-k-test.false c.loop-k.invariant.0
    ∙ sym (steps_are c.args.embedding c.args.eos c.args.sos c.args.types.now)
