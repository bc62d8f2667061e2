use Rattle.std.proofs.Common.{◌≡◌, ◌∙◌, ◌+◌, ◌-◌, false, drop, get_or, ap, subst, inl, inr, arith}
use Rattle.std.proofs.lemmas.Bool.{cases_lt}
use Rattle.std.proofs.lemmas.List.{get_or-drop, get_or-take}
use Rattle.bidi.proofs.bracket_type.after_groups.Goals as goal

pub loop-at-preserved : goal.loop-at-preserved
loop-at-preserved g c =
    let at = c.loop-at.at in
    let items = c.args.items.now in
    record {
      reached = omega (arith, c.loop-at.invariant.reached);
      within = omega (arith, c.loop-at-test.true, c.loop-at.invariant.within);
      passed = λ m e from below. elim (cases_lt m at) [
        | inl before ↦ c.loop-at.invariant.passed m e from before
        | inr after ↦
            subst (λ item. g.T.MaybeBracket.is_one item ≡ false)
            (get_or-take (at + 8 - at) (drop at items) (m - at) e (omega (arith, after, below)) ∙ get_or-drop at items (m - at) e ∙ ap (λ k. get_or items k e) (omega (arith, after)))
            (c.has_bracket.ensures c.if-not-has_bracket.true (m - at) e (omega (arith, after, below)))
      ];
    }
