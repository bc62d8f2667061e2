use Rattle.std.proofs.Common.{◌≡◌, max, get_or, rules, arith}
use Rattle.reorder.proofs.LevelLemmas.{Extremes-end, Extremes-start}
use Rattle.reorder.proofs.RunLemmas.{Extremes-run, RunsFound-end, RunsFound-next, RunsFound-start}
use Rattle.reorder.proofs.WholeRunLemmas.{RunsCounted-end, RunsCounted-next, RunsCounted-start}
use Rattle.reorder.proofs.order.find_runs.Goals as goal

pub loop-start-init : goal.loop-start-init
loop-start-init c = record {
  found = RunsFound-start c.args.levels.now c.args.items.now c.requires.len;
  counted = RunsCounted-start c.args.levels.now;
  extremes = Extremes-start c.args.levels.now;
}

pub loop-start-preserved : goal.loop-start-preserved
loop-start-preserved c =
    let run = c.level_run_len-start.ensures in
    let most : c.max-highest.result ≡ max c.loop-start.highest (get_or c.args.levels.now c.loop-start.start 0) = search rules in
    record {
      found = RunsFound-next _ _ _ _ _ c.loop-start.invariant.found c.loop-start-test.true run.len run.within.1;
      counted = RunsCounted-next _ _ _ _ c.loop-start.invariant.counted c.loop-start-test.true run.len;
      extremes = Extremes-run c.args.levels.now c.loop-start.start _ _ _ _ _ c.loop-start.invariant.extremes run.len run.within.1 most c.lower_odd-lowest.ensures;
    }

pub returns : goal.returns
returns c =
    let w = c.loop-start.invariant in
    let extremes = Extremes-end _ _ _ _ w.extremes c.loop-start-test.false in
    record {
      runs = RunsFound-end _ _ _ _ w.found c.loop-start-test.false;
      within = w.found.places_within;
      few = omega (arith, w.found.few, w.found.within, w.found.sizes);
      count = RunsCounted-end _ _ _ w.counted (omega (arith, w.found.within, c.loop-start-test.false));
      highest = extremes.top_is;
      lowest = extremes.lowest_is;
      ordered = extremes.ordered;
    }
