-- `clap` matches these options exactly.
use Rattle.std.proofs.Common.{◌≡◌, Bool, true, false, refl}
use Rattle.clap.specs.Words.{is_simple, is_simple_and_free}
use Rattle.terminal_options.specs.Program.{program}

pub program_is_simple : (files : Bool) → is_simple (program files) ≡ true
unfolding program
program_is_simple true = refl
program_is_simple false = refl

pub program_is_free : (files : Bool) → is_simple_and_free (program files) ≡ true
unfolding program
program_is_free true = refl
program_is_free false = refl
