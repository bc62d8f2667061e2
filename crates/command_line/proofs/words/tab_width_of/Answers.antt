use Rattle.std.proofs.Common.{◌∙◌}
use Rattle.std.specs.Str.Parse.{ParsesUnsigned, ExplainsUnsignedError, HasUnsignedDigitsIfOk}
use Rattle.clap.specs.Words.{found_of}
use Rattle.command_line.proofs.TabLemmas.{tabs_read}
use Rattle.command_line.proofs.words.tab_width_of.Goals as goal

pub returns : goal.returns
returns c =
    c.unwrap_or.ensures
    ∙ tabs_read _ (λ t r. ParsesUnsigned 8 10 t r × ExplainsUnsignedError 10 t r × HasUnsignedDigitsIfOk t r) (λ t r gives. gives.0) (found_of c.args.matches.now) c.get_one.result c.requires
    c.get_one.ensures.none c.get_one.ensures.value
