use Rattle.std.proofs.Common.{refl, sym, ap, ◌∙◌, arith}
use Rattle.std.specs.Prelude.{nat_le}
use Rattle.std.specs.List.{prefix_len}
use Rattle.std.proofs.lemmas.Bool.{lt-leb}
use Rattle.std.proofs.lemmas.List.{take_rest}
use Rattle.reorder.proofs.InPlaceLemmas.{Flagged-start, Flagged-next, Flagged-skip, Flagged-end}
use Rattle.reorder.proofs.in_place.reverse_runs.Goals as goal

pub loop-start-init : goal.loop-start-init
loop-start-init c = Flagged-start _ _ _

pub loop-start-preserved-then-levels-start : goal.loop-start-preserved-then-levels-start
loop-start-preserved-then-levels-start c =
    Flagged-skip _ _ _ _ _ _ c.loop-start.invariant (sym c.requires) c.loop-start-test.true (lt-leb _ _ c.if-levels-start.true) refl

pub loop-start-preserved : goal.loop-start-preserved
loop-start-preserved c =
    Flagged-next (nat_le c.args.level) c.args.levels.now _ _ _ _ c.run_len-len.result _ _ c.loop-start.invariant (sym c.requires) (omega arith)
    (c.run_len-len.ensures.len ∙ ap (prefix_len (nat_le c.args.level)) (take_rest c.args.levels.now c.loop-start.start))
    (omega arith) c.reverse.ensures.after refl

pub returns : goal.returns
returns c = Flagged-end _ _ _ _ _ c.loop-start.invariant (sym c.requires) (omega (arith, c.requires, c.loop-start-test.false))
