use Rattle.std.proofs.Common.{◌+◌, ◌<◌, ◌∷◌, ℕ, List, length, map, subst, sym}
use Rattle.std.proofs.Math.ListN.{set}
use Rattle.reorder.specs.declared.runs.Run.{Run}
use Rattle.hordguli_c.specs.Runs.{run_out, runs_out}
use Rattle.hordguli_c.proofs.SpanLemmas.{IsPut, put_next, put_within}
use Rattle.hordguli_c.proofs.runs.put_each_run.Goals as goal

pub loop-run-preserved : goal.loop-run-preserved
loop-run-preserved c =
    let all = runs_out c.args.levels.now in
    let rest = map run_out c.next.new.self in
    let run = c.in-Some.run' in
    let here : IsPut all c.args.array.now (run_out run ∷ rest) c.loop-run.array c.loop-run.k =
    subst (λ (runs : List Run). IsPut all c.args.array.now (map run_out runs) c.loop-run.array c.loop-run.k) c.in-Some.ensures.steps c.loop-run.invariant in
    let within : c.loop-run.k < length c.args.array.now = put_within all c.args.array.now c.loop-run.array rest (run_out run) c.loop-run.k c.requires here in
    subst (λ (level : ℕ). IsPut all c.args.array.now rest (set c.loop-run.array c.loop-run.k (record { start = run.start; length = run.len; level = level; zero = 0 })) (c.loop-run.k + 1))
    (sym c.from.ensures) (put_next all c.args.array.now c.loop-run.array rest (run_out run) c.loop-run.k within here)
