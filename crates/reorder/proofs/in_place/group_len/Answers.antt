use Rattle.std.proofs.Common.{ap, sym, ◌∙◌, arith}
use Rattle.std.proofs.lemmas.Bool.{eq-eqb}
use Rattle.ucd.specs.Classes.{is_nonspacing_mark}
use Rattle.reorder.proofs.ChunkLemmas.{MarksSoFar-start, group_is}
use Rattle.reorder.proofs.in_place.group_len.Goals as goal

pub loop-len-init : goal.loop-len-init
loop-len-init g c = MarksSoFar-start _ _ _ c.requires.start

pub returns-clause-next : goal.returns-clause-next
returns-clause-next g c =
    (group_is (g.C.Classes.all c.args.line.now) c.args.levels.now c.args.start c.loop-len.len c.loop-len.invariant (sym c.is_nonspacing_mark_of.ensures ∙ c.loop-len-test.false)
    (eq-eqb _ 1 (omega (arith, c.if-level-eq0.false)))
    (ap is_nonspacing_mark (sym c.class_at.ensures) ∙ sym c.is_nonspacing_mark.ensures ∙ c.if-is_nonspacing_mark.false)).1
