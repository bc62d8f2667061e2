use Rattle.std.proofs.Common.{◌+◌, ◌<◌, arith, sym}
use Rattle.ucd.specs.declared.version.Version.TheVariants.{V15_0}
use Rattle.breaks.specs.Symbols.{character_by}
use Rattle.breaks.proofs.PassLemmas.{passes_as, row_within}
use Rattle.breaks.proofs.walk.Walk15WalkRules15.pass.Goals as goal
use Rattle.breaks.specs.declared.table.TheConstants.{ENTRY_COUNT}

pub returns-clause-passes : goal.returns-clause-passes
returns-clause-passes c =
    λ rules. passes_as c.args.self.now _ _ _ (character_by V15_0 c.args.next) _ _ c.symbol_of-symbol.ensures.below c.symbol_of-symbol.ensures.shown c.next_row-self.ensures c.outcome-outcome.ensures.outcome
    (sym (rw c.is_future_pictograph-is_pictograph.ensures at c.is_now_pictograph-self.ensures)) c.decide-decided.ensures.decided rules.whole_numbers

pub returns-clause-within : goal.returns-clause-within
returns-clause-within c =
    let below : c.args.self.now.row + c.symbol_of-symbol.result < ENTRY_COUNT = omega arith in
    row_within _ _ below c.next_row-self.ensures
