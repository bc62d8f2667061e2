use Rattle.std.proofs.Common.{◌+◌, ◌<◌, arith}
use Rattle.breaks.specs.declared.table_17.TheConstants.{ENTRY_COUNT}
use Rattle.breaks.proofs.NarrowLemmas.{passes_narrow}
use Rattle.breaks.proofs.PassLemmas17.{row_within_17}
use Rattle.breaks.proofs.walk_17.NarrowWalk17WalkRules17.pass.Goals as goal

pub returns-clause-within : goal.returns-clause-within
returns-clause-within c =
    let below : c.args.self.now.row + c.symbol_17-symbol.result < ENTRY_COUNT = omega arith in
    row_within_17 _ _ below c.next_row-self.ensures

pub returns-clause-passes : goal.returns-clause-passes
returns-clause-passes c =
    λ rules last others stands. rw c.decided_narrow.ensures.decided (passes_narrow c.args.self.now.row _ _ _ c.args.next c.symbol_17-symbol.ensures.below c.symbol_17-symbol.ensures.shown
    c.next_row-self.ensures c.outcome.ensures.outcome c.requires.next last others stands)
