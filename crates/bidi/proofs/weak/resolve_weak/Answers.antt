use Rattle.std.proofs.Common.{◌+◌, ◌/◌, sym, ◌∙◌}
use Rattle.bidi.specs.WeakTable.{pending, run_at, strong_at}
use Rattle.bidi.proofs.WaitingLemmas.{types-end}
use Rattle.bidi.proofs.WeakStateLemmas.{simple-at}
use Rattle.bidi.proofs.weak.resolve_weak.Goals as goal

pub read_simple-state-requires-clause-simple : goal.read_simple-state-requires-clause-simple
read_simple-state-requires-clause-simple c k d from below =
    simple-at c.loop-at.types c.loop-at.at (c.loop-at.at + 8) k d (sym c.are_simple.ensures ∙ c.if-are_simple.true) from below c.if-at-types.true

pub returns : goal.returns
returns c =
    let state = c.loop-at.state in
    let at = c.loop-at.at in
    types-end c.args.sos c.args.types.now c.loop-at.types state.before (strong_at (state.row / 32)) (run_at (state.row / 32))
    (pending (state.row / 32) state.start at) at c.loop-at.invariant.read c.loop-at-test.false
