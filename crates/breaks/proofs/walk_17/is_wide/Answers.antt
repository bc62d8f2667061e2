use Rattle.ucd.specs.declared.version.Version.TheVariants.{V17_0}
use Rattle.breaks.specs.Symbols.{character_by}
use Rattle.breaks.proofs.SymbolLemmas17.{wide_by_symbol}
use Rattle.breaks.proofs.walk_17.is_wide.Goals as goal

pub returns : goal.returns
returns c = wide_by_symbol (character_by V17_0 c.args.first) _ _ c.requires.below c.requires.shown c.is_wide.ensures
