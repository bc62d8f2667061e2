use Rattle.std.proofs.Common.{◌+◌, ◌<◌, arith}
use Rattle.breaks.specs.declared.table_17.TheConstants.{ENTRY_COUNT}
use Rattle.breaks.proofs.NarrowLemmas.{starts_narrow}
use Rattle.breaks.proofs.PassLemmas17.{row_within_17}
use Rattle.breaks.proofs.walk_17.NarrowWalk17WalkRules17.start.Goals as goal

pub returns-clause-stands : goal.returns-clause-stands
returns-clause-stands c = λ rules. starts_narrow _ _ c.args.first c.symbol_17.ensures.below c.symbol_17.ensures.shown c.next_row.ensures c.requires

pub returns-clause-within : goal.returns-clause-within
returns-clause-within c =
    let below : 0 + c.symbol_17.result < ENTRY_COUNT = omega arith in
    row_within_17 _ _ below c.next_row.ensures
