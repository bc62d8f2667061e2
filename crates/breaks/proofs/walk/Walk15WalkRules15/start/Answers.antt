use Rattle.std.proofs.Common.{◌+◌, ◌<◌, arith}
use Rattle.ucd.specs.declared.version.Version.TheVariants.{V15_0}
use Rattle.breaks.specs.Symbols.{character_by}
use Rattle.breaks.proofs.PassLemmas.{starts, row_within}
use Rattle.breaks.proofs.walk.Walk15WalkRules15.start.Goals as goal
use Rattle.breaks.specs.declared.table.TheConstants.{ENTRY_COUNT}

pub returns-clause-stands : goal.returns-clause-stands
returns-clause-stands c =
    λ rules. rw c.is_future_pictograph.ensures (starts _ _ (character_by V15_0 c.args.first) c.symbol_of-symbol.ensures.below c.symbol_of-symbol.ensures.shown c.next_row.ensures rules.whole_numbers)

pub returns-clause-within : goal.returns-clause-within
returns-clause-within c =
    let below : 0 + c.symbol_of-symbol.result < ENTRY_COUNT = omega arith in
    row_within _ _ below c.next_row.ensures
