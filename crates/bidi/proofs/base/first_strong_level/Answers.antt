use Rattle.std.proofs.Common.{sym, ◌∙◌, arith}
use Rattle.std.proofs.lemmas.Bool.{both_ways}
use Rattle.ucd.specs.Classes.{is_strong}
use Rattle.bidi.proofs.BaseLemmas.{is_some-level, settled, stepped}
use Rattle.bidi.proofs.IsolateLemmas.{Reached-end}
use Rattle.bidi.proofs.base.first_strong_level.Goals as goal
use Rattle.bidi.proofs.base.first_strong_level.Goals.{else-depth-eq0-via-then-depth-eq0+else-is_some, else-depth-eq0-via-else-depth-eq0}

pub returns-then-is_some : goal.returns-then-is_some
returns-then-is_some g c =
    settled _ _ _ _ _
    (omega (arith, c.len-k-end.ensures)) c.loop-k.invariant c.if-depth-eq0.true
    c.class_at-class.ensures
    c.strong_level-level.ensures (sym c.is_some.ensures ∙ c.if-is_some.true)

pub loop-k-preserved : goal.loop-k-preserved
loop-k-preserved g c =
    stepped _ _ _ _ _
    (omega (arith, c.len-k-end.ensures)) c.loop-k.invariant
    (λ strong. elim c.else-depth-eq0.branch [
      | else-depth-eq0-via-then-depth-eq0+else-is_some w ↦ absurd (both_ways (is_strong c.class_at-class.result)
          (sym (is_some-level _ _ c.strong_level-level.ensures) ∙ sym w.is_some.ensures ∙ w.if-is_some.false) strong)
      | else-depth-eq0-via-else-depth-eq0 w ↦ omega arith
    ])
    c.class_at-class.ensures
    c.depth_after-depth.ensures

pub returns : goal.returns
returns g c = sym (Reached-end _ _ _ (omega (arith, c.len-k-end.ensures)) c.loop-k.invariant)
