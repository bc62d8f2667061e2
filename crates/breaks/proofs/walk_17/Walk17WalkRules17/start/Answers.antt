use Rattle.std.proofs.Common.{◌+◌, ◌<◌, arith}
use Rattle.ucd.specs.declared.version.Version.TheVariants.{V17_0}
use Rattle.breaks.specs.Symbols.{character_by}
use Rattle.breaks.specs.declared.table_17.TheConstants.{ENTRY_COUNT}
use Rattle.breaks.proofs.PassLemmas17.{starts_17, row_within_17}
use Rattle.breaks.proofs.walk_17.Walk17WalkRules17.start.Goals as goal

pub returns-clause-stands : goal.returns-clause-stands
returns-clause-stands c =
    λ rules. starts_17 _ _ _ _ (character_by V17_0 c.args.first) c.symbol_17-symbol.ensures.below c.symbol_17-symbol.ensures.shown c.next_row.ensures
    c.is_future_pictograph.ensures c.is_wide.ensures

pub returns-clause-within : goal.returns-clause-within
returns-clause-within c =
    let below : 0 + c.symbol_17-symbol.result < ENTRY_COUNT = omega arith in
    row_within_17 _ _ below c.next_row.ensures
