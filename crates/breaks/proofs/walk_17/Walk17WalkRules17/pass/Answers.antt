use Rattle.std.proofs.Common.{◌+◌, ◌<◌, arith}
use Rattle.ucd.specs.declared.version.Version.TheVariants.{V17_0}
use Rattle.breaks.specs.Symbols.{character_by}
use Rattle.breaks.specs.declared.table_17.TheConstants.{ENTRY_COUNT}
use Rattle.breaks.proofs.BoolLemmas.{equal_is, different_is}
use Rattle.breaks.proofs.PassLemmas17.{passes_begin_17, passes_stay_17, row_within_17}
use Rattle.breaks.proofs.walk_17.Walk17WalkRules17.pass.Goals as goal

pub returns-then-outcome-eq-STAYS-clause-passes : goal.returns-then-outcome-eq-STAYS-clause-passes
returns-then-outcome-eq-STAYS-clause-passes c =
    λ rules. passes_stay_17 c.args.self.now _ _ _ (character_by V17_0 c.args.next) c.symbol_17-symbol.ensures.below c.symbol_17-symbol.ensures.shown c.next_row-row.ensures
    c.outcome-outcome.ensures.outcome (equal_is _ _ c.if-outcome-eq-STAYS.true)

pub returns-then-outcome-eq-STAYS-clause-within : goal.returns-then-outcome-eq-STAYS-clause-within
returns-then-outcome-eq-STAYS-clause-within c =
    let below : c.args.self.now.row + c.symbol_17-symbol.result < ENTRY_COUNT = omega arith in
    row_within_17 _ _ below c.next_row-row.ensures

pub returns-clause-passes : goal.returns-clause-passes
returns-clause-passes c =
    λ rules. passes_begin_17 c.args.self.now _ _ _ _ _ _ (character_by V17_0 c.args.next) c.symbol_17-symbol.ensures.below c.symbol_17-symbol.ensures.shown
    c.next_row-row.ensures c.outcome-outcome.ensures.outcome (different_is _ _ c.if-outcome-eq-STAYS.false) c.is_future_pictograph.ensures
    c.is_wide-next_is_wide.ensures c.decide-decided.ensures.decided

pub returns-clause-within : goal.returns-clause-within
returns-clause-within c =
    let below : c.args.self.now.row + c.symbol_17-symbol.result < ENTRY_COUNT = omega arith in
    row_within_17 _ _ below c.next_row-row.ensures
