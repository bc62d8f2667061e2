use Rattle.std.proofs.Common.{◌-◌, set, sym, arith}
use Rattle.std.proofs.lemmas.Bool.{cond-true, cond-false}
use Rattle.reorder.proofs.SpaceLemmas.{Walked-start, Walked-next, Walked-skip, Walked-end}
use Rattle.reorder.proofs.spaces.reset_levels.Goals as goal

pub loop-at-init : goal.loop-at-init
loop-at-init g c = Walked-start _ _ _ _ c.len-at.ensures c.requires

pub loop-at-preserved-then-resets : goal.loop-at-preserved-then-resets
loop-at-preserved-then-resets g c =
    let classes = g.C.Classes.all c.args.line.now in
    Walked-next classes _ _ _ _ _ c.changed_end-end.result _ _ _
    (Walked-skip classes _ _ _ _ c.loop-at.at c.changed_end-end.result c.loop-at.invariant c.requires c.changed_end-end.ensures.within c.changed_end-end.ensures.resets c.changed_end-end.ensures.passed)
    (omega arith) c.requires
    c.class_at.ensures c.is_reset-resets.ensures
    (sym (cond-true _ _ c.loop-at.levels c.if-resets.true))

pub loop-at-preserved : goal.loop-at-preserved
loop-at-preserved g c =
    let classes = g.C.Classes.all c.args.line.now in
    Walked-next classes _ _ _ _ _ c.changed_end-end.result _ _ _
    (Walked-skip classes _ _ _ _ c.loop-at.at c.changed_end-end.result c.loop-at.invariant c.requires c.changed_end-end.ensures.within c.changed_end-end.ensures.resets c.changed_end-end.ensures.passed)
    (omega arith) c.requires
    c.class_at.ensures c.is_reset-resets.ensures
    (sym (cond-false _ (set c.loop-at.levels (c.changed_end-end.result - 1) c.args.base) _ c.if-resets.false))

pub returns : goal.returns
returns g c = Walked-end _ _ _ _ _ _ c.loop-at.invariant (omega arith)

-- no other character is reset
pub returns-then-end-eq0 : goal.returns-then-end-eq0
returns-then-end-eq0 g c =
    Walked-end _ _ _ _ _ _
    (Walked-skip (g.C.Classes.all c.args.line.now) _ _ _ _ c.loop-at.at c.changed_end-end.result c.loop-at.invariant c.requires c.changed_end-end.ensures.within c.changed_end-end.ensures.resets c.changed_end-end.ensures.passed)
    (omega arith)
