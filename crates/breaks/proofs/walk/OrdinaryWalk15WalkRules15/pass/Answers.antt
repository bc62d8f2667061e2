use Rattle.std.proofs.Common.{◌+◌, ◌<◌, arith}
use Rattle.breaks.proofs.OrdinaryLemmas.{passes_ordinary}
use Rattle.breaks.proofs.PassLemmas.{row_within}
use Rattle.breaks.proofs.walk.OrdinaryWalk15WalkRules15.pass.Goals as goal
use Rattle.breaks.specs.declared.table.TheConstants.{ENTRY_COUNT}

pub returns-clause-passes : goal.returns-clause-passes
returns-clause-passes c =
    λ rules. passes_ordinary c.args.self.now.row _ _ _ c.args.next c.symbol_of-symbol.ensures.below c.symbol_of-symbol.ensures.shown c.next_row-self.ensures c.outcome.ensures.outcome c.requires.next rules.whole_numbers

pub returns-clause-within : goal.returns-clause-within
returns-clause-within c =
    let below : c.args.self.now.row + c.symbol_of-symbol.result < ENTRY_COUNT = omega arith in
    row_within _ _ below c.next_row-self.ensures
