use Rattle.std.proofs.Common.{get_or, ◌+◌, ◌-◌, ◌≤◌, ◌≡◌, ◌∙◌, length, take, drop, refl, arith}
use Rattle.std.proofs.lemmas.List.{length-drop, length-take-le}
use Rattle.reorder.proofs.RunLemmas.{RunsLaid-end, RunsLaid-next, RunsLaid-start, run_fits, is_run_shown}
use Rattle.reorder.proofs.order.lay_runs.Goals as goal

pub loop-left-init : goal.loop-left-init
loop-left-init c = RunsLaid-start c.args.levels.now c.args.items.now c.args.count c.requires.count c.requires.whole

pub overflow_sub-end : goal.overflow_sub-end
overflow_sub-end c = (run_fits _ _ _ _ _ _ (c.loop-left.left - 1) _ _ c.loop-left.invariant (omega (arith, c.loop-left-test.true)) refl c.level_run_len-len.ensures.len).0

pub overflow_sub-end-in-loop-left : goal.overflow_sub-end-in-loop-left
overflow_sub-end-in-loop-left c =
    (run_fits _ _ _ _ _ _ (c.loop-left.left - 1) _ _ c.loop-left.invariant (omega (arith, c.loop-left-test.true)) refl c.level_run_len-len.ensures.len).0

pub loop-left-preserved : goal.loop-left-preserved
loop-left-preserved c =
    let w = c.loop-left.invariant in
    let len = c.level_run_len-len.result in
    let fits = run_fits _ _ _ _ _ _ (c.loop-left.left - 1) _ _ w (omega (arith, c.loop-left-test.true)) refl c.level_run_len-len.ensures.len in
    let from = c.loop-left.«end» - len in
    let within : from + (c.loop-left.«end» - from) ≤ length c.loop-left.items = omega (arith, fits.0, w.within) in
    let part : length (take (c.loop-left.«end» - from) (drop from c.loop-left.items)) ≡ len =
    length-take-le (c.loop-left.«end» - from) (drop from c.loop-left.items) (omega (arith, length-drop from c.loop-left.items, within)) ∙ omega (arith, fits.0) in
    RunsLaid-next _ _ _ _ _ _ (c.loop-left.left - 1) _ _ w (omega (arith, c.loop-left-test.true)) refl c.level_run_len-len.ensures.len
    (c.loop-left.«end» - (c.loop-left.«end» - len)) c.lay_run.new.items (omega (arith, fits.0))
    (is_run_shown c.args.levels.now c.lay_run.new.items (get_or c.loop-left.items (c.loop-left.left - 1) 0) _ _ part c.level_run_len-len.ensures.len c.lay_run.ensures)

pub returns : goal.returns
returns c = RunsLaid-end _ _ _ _ _ _ c.loop-left.invariant (omega (arith, c.loop-left-test.false))
