use Rattle.std.proofs.Common.{List, length, ap, arith}
use Rattle.reorder.specs.declared.runs.Run.{Run}
use Rattle.tool.proofs.ListingLemmas.{runs_few}
use Rattle.tool.proofs.listings.run_count.Goals as goal

pub overflow_add-count : goal.overflow_add-count
overflow_add-count c =
    omega (arith, runs_few c.args.line.now.levels, c.shown_len-chars.ensures.value, c.shown_len-chars.ensures.fits, c.loop-run.invariant, ap (λ (runs : List Run). length runs) c.in-Some.ensures.steps)
