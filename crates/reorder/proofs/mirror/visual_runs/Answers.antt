use Rattle.std.proofs.Common.{◌≡◌, ◌∙◌, ◌+◌, ◌-◌, ap, get_or, take, drop, refl, arith}
use Rattle.std.proofs.lemmas.List.{drop-map, take-map}
use Rattle.ucd.specs.Properties.{properties_of}
use Rattle.reorder.proofs.RunLemmas.{run_chars, run_inside, RunsWritten-end, RunsWritten-next, RunsWritten-start}
use Rattle.reorder.proofs.mirror.visual_runs.Goals as goal

pub loop-k-init : goal.loop-k-init
loop-k-init c = RunsWritten-start _ _ _ _ _ c.requires.chars

pub slice_bounds-visual_run-end-in-loop-k-2 : goal.slice_bounds-visual_run-end-in-loop-k-2
slice_bounds-visual_run-end-in-loop-k-2 c = run_inside _ _ _ _ _ _ _ _ _ c.loop-k.invariant c.loop-k-test.true refl c.level_run_len-len.ensures.len

pub visual_run-requires-clause-properties : goal.visual_run-requires-clause-properties
visual_run-requires-clause-properties c =
    let f = properties_of c.args.tables.now in
    let start = get_or c.args.runs.now c.loop-k.k 0 in
    let len = start + c.level_run_len-len.result - start in
    ap (λ ps. take len (drop start ps)) c.requires.properties ∙ ap (take len) (drop-map f start c.args.line.now) ∙ take-map f len (drop start c.args.line.now)

pub loop-k-preserved : goal.loop-k-preserved
loop-k-preserved c =
    let len = c.level_run_len-len.ensures.len in
    let within = c.level_run_len-len.ensures.within.1 in
    let start = get_or c.args.runs.now c.loop-k.k 0 in
    let n = c.level_run_len-len.result in
    let short : start + n - start ≡ n = omega arith in
    let there : c.loop-k.at + n - c.loop-k.at ≡ n = omega arith in
    RunsWritten-next _ _ _ _ _ _ _ _ _ c.loop-k.invariant c.loop-k-test.true refl len (c.loop-k.at + n - c.loop-k.at) c.visual_run.new.chars there
    (run_chars c.args.tables.now c.args.levels.now c.args.line.now start n (start + n - start) c.visual_run.new.chars short len (omega (arith, within, c.requires.levels)) c.visual_run.ensures)

pub returns : goal.returns
returns c = RunsWritten-end _ _ _ _ _ _ _ c.loop-k.invariant c.loop-k-test.false
