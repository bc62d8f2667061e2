-- Properties that the checks of separators, brackets and mirrors skip, a whole page at a time.
use Rattle.std.specs.Prelude.{◌≡◌, ◌≢◌, Bool, false}
use Rattle.ucd.specs.Answers.{PropertyAnswers}
use Rattle.ucd.specs.declared.bidi_class.BidiClass.TheVariants.{B}

-- the character is neither a paragraph separator nor a bracket, and has no mirror
pub record IsOrdinary (a : PropertyAnswers) : Type 0 where
  pub separator : a.bidi_class ≢ B
  pub bracket : a.has_bracket ≡ false
  pub mirror : a.has_mirror ≡ false

-- the flag is never set in ordinary properties
abbrev pub IsFlag : (PropertyAnswers → Bool) → Type 0
IsFlag flag = (a : PropertyAnswers) → IsOrdinary a → flag a ≡ false
