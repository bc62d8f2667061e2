use Rattle.std.proofs.Common.{◌≡◌, ◌∙◌, ◌+◌, ◌-◌, false, drop, get_or, ap, subst, inl, inr, arith}
use Rattle.std.proofs.lemmas.Bool.{cases_lt}
use Rattle.std.proofs.lemmas.List.{get_or-drop, get_or-take}
use Rattle.ucd.specs.declared.properties.Properties.{Properties}
use Rattle.reorder.proofs.mirror.next_mirror.Goals as goal

pub loop-at-preserved : goal.loop-at-preserved
loop-at-preserved c =
    let at = c.loop-at.at in
    let items = c.args.properties.now in
    record {
      reached = omega (arith, c.loop-at.invariant.reached);
      within = omega (arith, c.loop-at-test.true, c.loop-at.invariant.within);
      passed = λ m e from below. elim (cases_lt m at) [
        | inl before ↦ c.loop-at.invariant.passed m e from before
        | inr after ↦
            subst (λ (item : Properties). item.has_mirror ≡ false)
            (get_or-take (at + 8 - at) (drop at items) (m - at) e (omega (arith, after, below)) ∙ get_or-drop at items (m - at) e ∙ ap (λ k. get_or items k e) (omega (arith, after)))
            (c.have_mirror.ensures c.if-not-have_mirror.true (m - at) e (omega (arith, after, below)))
      ];
    }
