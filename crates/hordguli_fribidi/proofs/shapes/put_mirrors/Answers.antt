use Rattle.std.proofs.Common.{ℕ, ◌%◌, ◌==◌, List, get_or, cond, ap, ◌∙◌, arith}
use Rattle.hordguli_fribidi.specs.Shapes.{mirror_of, mirrored_at}
use Rattle.hordguli_fribidi.proofs.InPlaceLemmas.{more_written, unwritten}
use Rattle.hordguli_fribidi.proofs.shapes.put_mirrors.Goals as goal

pub loop-k-preserved : goal.loop-k-preserved
unfolding mirrored_at
loop-k-preserved c =
    let k : ℕ = c.loop-k.k in
    let old : List ℕ = c.args.string.now in
    let f : ℕ → ℕ = mirrored_at c.args.index.now c.args.pages.now c.args.numbers.now c.args.levels.now old in
    more_written f old c.loop-k.string k _ c.loop-k.invariant (omega (arith, c.loop-k-test.true, c.loop-k.invariant.len))
    (c.mirrored.ensures
    ∙ ap (λ x. cond (get_or c.args.levels.now k 0 % 2 == 1) (mirror_of c.args.index.now c.args.pages.now c.args.numbers.now x) x)
    (unwritten f old c.loop-k.string k k c.loop-k.invariant (omega arith)))
