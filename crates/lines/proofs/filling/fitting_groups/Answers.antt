use Rattle.std.proofs.Common.{◌||◌, ◌+◌, nat_lt, arith, refl, sym, ◌∙◌}
use Rattle.std.proofs.lemmas.Bool.{ltb-false, or_parts}
use Rattle.lines.specs.CharInfos.{sized}
use Rattle.lines.proofs.FillingLemmas.{fits_group, fits_none}
use Rattle.lines.proofs.WidthLemmas.{length-sized}
use Rattle.lines.proofs.filling.fitting_groups.Goals as goal

pub loop-k-init : goal.loop-k-init
loop-k-init g c = fits_none _ _

pub loop-k-preserved : goal.loop-k-preserved
loop-k-preserved g c =
    let width = c.args.ruler.width in
    let given = g.S.Sizes.given c.args.ruler.sizes in
    let k = c.loop-k.k in
    let group = c.in-Some.group in
    let tests = or_parts group.has_tab (group.has_must || nat_lt width (c.loop-k.columns + group.columns)) c.if-group-next.false in
    let others = or_parts group.has_must (nat_lt width (c.loop-k.columns + group.columns)) tests.1 in
    fits_group width (sized given c.args.rest.now) k (k + 8) c.loop-k.columns group.columns _ c.loop-k.invariant (omega arith)
    (omega (arith, c.loop-k-test.true, length-sized given c.args.rest.now)) refl
    (c.in-Some.ensures.columns tests.0 c.loop-k.columns) (omega arith) (ltb-false width (c.loop-k.columns + group.columns) others.1) (sym c.in-Some.ensures.must ∙ others.0)

pub overflow_add-k : goal.overflow_add-k
overflow_add-k g c = omega (arith, c.loop-k.invariant.within, length-sized (g.S.Sizes.given c.args.ruler.sizes) c.args.rest.now, c.requires)
