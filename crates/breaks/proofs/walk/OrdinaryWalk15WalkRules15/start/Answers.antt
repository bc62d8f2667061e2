use Rattle.std.proofs.Common.{◌+◌, ◌<◌, arith}
use Rattle.breaks.proofs.OrdinaryLemmas.{starts_ordinary}
use Rattle.breaks.proofs.PassLemmas.{row_within}
use Rattle.breaks.proofs.walk.OrdinaryWalk15WalkRules15.start.Goals as goal
use Rattle.breaks.specs.declared.table.TheConstants.{ENTRY_COUNT}

pub returns-clause-stands : goal.returns-clause-stands
returns-clause-stands c =
    λ rules. starts_ordinary _ _ c.args.first c.symbol_of.ensures.below c.symbol_of.ensures.shown c.next_row.ensures c.requires rules.whole_numbers

pub returns-clause-within : goal.returns-clause-within
returns-clause-within c =
    let below : 0 + c.symbol_of.result < ENTRY_COUNT = omega arith in
    row_within _ _ below c.next_row.ensures
