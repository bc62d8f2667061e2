use Rattle.std.proofs.Common.{◌+◌, ◌<◌, ◌≤◌, arith}
use Rattle.breaks.specs.declared.table_17.TheConstants.{ENTRY_COUNT, LAST_ROW, STAYS}
use Rattle.breaks.proofs.BoolLemmas.{equal_is, different_is}
use Rattle.breaks.proofs.OrdinaryLemmas17.{begun_ordinary_17, stays_ordinary_17}
use Rattle.breaks.proofs.PassLemmas17.{row_within_17}
use Rattle.breaks.proofs.ordinary_17.OrdinaryWalk17WalkRules17.pass.Goals as goal

-- the outcome is a mark, so the character begins a base
pub returns-then-outcome-le-MUST-clause-passes : goal.returns-then-outcome-le-MUST-clause-passes
returns-then-outcome-le-MUST-clause-passes c =
    λ rules. begun_ordinary_17 c.args.self.now c.begin.new.self _ _ _ _ c.args.next c.symbol_17-symbol.ensures.below c.symbol_17-symbol.ensures.shown c.next_row-self.ensures
    c.outcome-outcome.ensures.outcome (different_is c.outcome-outcome.result STAYS (λ e. omega (arith, e))) c.requires.next c.begin.ensures.decided
    c.begin.ensures.row c.begin.ensures.last c.begin.ensures.before

pub returns-then-outcome-le-MUST-clause-within : goal.returns-then-outcome-le-MUST-clause-within
returns-then-outcome-le-MUST-clause-within c =
    let below : c.args.self.now.row + c.symbol_17-symbol.result < ENTRY_COUNT = omega arith in
    let within : c.next_row-self.result ≤ LAST_ROW = row_within_17 _ _ below c.next_row-self.ensures in
    omega (arith, c.begin.ensures.row, within)

pub returns-then-outcome-eq-STAYS-clause-passes : goal.returns-then-outcome-eq-STAYS-clause-passes
returns-then-outcome-eq-STAYS-clause-passes c =
    λ rules. stays_ordinary_17 c.args.self.now _ _ _ c.args.next c.symbol_17-symbol.ensures.below c.symbol_17-symbol.ensures.shown c.next_row-self.ensures
    c.outcome-outcome.ensures.outcome (equal_is _ _ c.if-outcome-eq-STAYS.true) c.requires.next

pub returns-then-outcome-eq-STAYS-clause-within : goal.returns-then-outcome-eq-STAYS-clause-within
returns-then-outcome-eq-STAYS-clause-within c =
    let below : c.args.self.now.row + c.symbol_17-symbol.result < ENTRY_COUNT = omega arith in
    row_within_17 _ _ below c.next_row-self.ensures

pub returns-clause-passes : goal.returns-clause-passes
returns-clause-passes c =
    λ rules. begun_ordinary_17 c.args.self.now c.begin-2.new.self _ _ _ _ c.args.next c.symbol_17-symbol.ensures.below c.symbol_17-symbol.ensures.shown c.next_row-self.ensures
    c.outcome-outcome.ensures.outcome (different_is _ _ c.if-outcome-eq-STAYS.false) c.requires.next c.begin-2.ensures.decided
    c.begin-2.ensures.row c.begin-2.ensures.last c.begin-2.ensures.before

pub returns-clause-within : goal.returns-clause-within
returns-clause-within c =
    let below : c.args.self.now.row + c.symbol_17-symbol.result < ENTRY_COUNT = omega arith in
    let within : c.next_row-self.result ≤ LAST_ROW = row_within_17 _ _ below c.next_row-self.ensures in
    omega (arith, c.begin-2.ensures.row, within)
