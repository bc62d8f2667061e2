use Rattle.std.proofs.Common.{refl, sym, ◌∙◌}
use Rattle.ucd.specs.declared.bidi_class.BidiClass.TheVariants.{ON}
use Rattle.bidi.proofs.WeakStepLemmas.{finished, ended, w5_carried}
use Rattle.bidi.proofs.weak_steps.w5.Goals as goal

pub returns : goal.returns
returns c =
    finished (ended c.loop-k.before) refl c.loop-k.list.items (ended ON c.args.types.now) c.args.types.now c.loop-k.k c.loop-k-test.false c.loop-k.invariant.0
    ∙ sym (w5_carried c.args.types.now)
