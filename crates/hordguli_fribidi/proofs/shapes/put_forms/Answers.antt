use Rattle.std.proofs.Common.{ℕ, List, get_or, ap, ◌∙◌, arith}
use Rattle.hordguli_fribidi.specs.Shapes.{form_at, form_of}
use Rattle.hordguli_fribidi.proofs.InPlaceLemmas.{more_written, unwritten}
use Rattle.hordguli_fribidi.proofs.shapes.put_forms.Goals as goal

pub loop-k-preserved : goal.loop-k-preserved
unfolding form_at
loop-k-preserved c =
    let k : ℕ = c.loop-k.k in
    let old : List ℕ = c.args.string.now in
    let f : ℕ → ℕ = form_at c.args.forms.now c.args.properties.now old in
    more_written f old c.loop-k.string k _ c.loop-k.invariant (omega (arith, c.loop-k-test.true, c.loop-k.invariant.len))
    (c.form_of.ensures ∙ ap (form_of c.args.forms.now (get_or c.args.properties.now k 0)) (unwritten f old c.loop-k.string k k c.loop-k.invariant (omega arith)))
