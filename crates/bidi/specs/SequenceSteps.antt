-- The lists of types after each of the weak rules.
use Rattle.std.specs.Prelude.{◌≡◌, List}
use Rattle.ucd.specs.declared.bidi_class.BidiClass.{BidiClass}
use Rattle.bidi.specs.Weak.{w1, w2, w3, w4, w5, w6, weak}
use Rattle.bidi.specs.declared.sequence_steps.WeakSteps.{WeakSteps}

-- `steps` holds the types after each weak rule
pub record AreWeakSteps (sos : BidiClass) (types : List BidiClass) (steps : WeakSteps) : Type 0 where
  pub w1_is : steps.w1.items ≡ w1 sos types
  pub w2_is : steps.w2.items ≡ w2 sos (w1 sos types)
  pub w3_is : steps.w3.items ≡ w3 (w2 sos (w1 sos types))
  pub w4_is : steps.w4.items ≡ w4 (w3 (w2 sos (w1 sos types)))
  pub w5_is : steps.w5.items ≡ w5 (w4 (w3 (w2 sos (w1 sos types))))
  pub w6_is : steps.w6.items ≡ w6 (w5 (w4 (w3 (w2 sos (w1 sos types)))))
  pub w7_is : steps.w7.items ≡ weak sos types
