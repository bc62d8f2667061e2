-- The code points that may be paragraph separators in Unicode's files.
use Rattle.std.specs.Prelude.{◌≡◌, ◌≢◌, ℕ, ◌==◌, ◌||◌, nat_lt, Bool, false}
use Rattle.ucd.specs.Answers.{PropertyAnswers}
use Rattle.ucd.specs.declared.bidi_class.BidiClass.TheVariants.{B}

-- U+0000 to U+001F, U+0085 and U+2029: all code points of class B in Unicode's files, and the other controls
-- below U+0020
abbrev pub may_separate : ℕ → Bool
may_separate c = nat_lt c 32 || (c == 133 || c == 8233)

-- the code point has class B only if it may be a separator
abbrev pub IsUsual : ℕ → PropertyAnswers → Type 0
IsUsual c answers = may_separate c ≡ false → answers.bidi_class ≢ B
