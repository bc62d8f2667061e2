-- The characters of each class.
use Rattle.std.specs.Prelude.{ℕ, Bool, not}
use Rattle.sequences.specs.Characters.{is_dropped, is_inline}
use Rattle.sequences.specs.Parameters.{is_sgr}
use Rattle.sequences.specs.Sequences.{is_intermediate, is_parameter}
use Rattle.sequences.specs.declared.characters.Class.{Class}
use Rattle.sequences.specs.declared.characters.Class.TheVariants.{Parameter, Intermediate, Inline, Sgr, Remaining}

abbrev pub is_in : Class → ℕ → Bool
is_in Parameter c = is_parameter c
is_in Intermediate c = is_intermediate c
is_in Inline c = is_inline c
is_in Sgr c = is_sgr c
is_in Remaining c = not (is_dropped c)
