use Rattle.std.proofs.Common.{refl, sym, ◌∙◌}
use Rattle.ucd.specs.declared.bidi_class.BidiClass.TheVariants.{ON}
use Rattle.bidi.proofs.WeakStepLemmas.{finished, joined, w4_carried}
use Rattle.bidi.proofs.weak_steps.w4.Goals as goal

pub returns : goal.returns
returns c =
    finished (joined c.loop-k.before) refl c.loop-k.list.items (joined ON c.args.types.now) c.args.types.now c.loop-k.k c.loop-k-test.false c.loop-k.invariant
    ∙ sym (w4_carried c.args.types.now)
