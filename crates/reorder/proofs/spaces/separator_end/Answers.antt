use Rattle.std.proofs.Common.{◌≡◌, ◌∙◌, ◌-◌, false, inl, inr, sym, subst, ap, arith}
use Rattle.std.proofs.lemmas.Bool.{cases_lt}
use Rattle.ucd.specs.declared.bidi_class.BidiClass.{BidiClass}
use Rattle.ucd.specs.Classes.{class_at}
use Rattle.reorder.specs.Spaces.{ends_segment}
use Rattle.reorder.proofs.spaces.separator_end.Goals as goal

-- none of the characters that are tested together is a separator
pub loop-at-preserved : goal.loop-at-preserved
loop-at-preserved g c =
    let at = c.loop-at.at in
    record {
      within = omega (arith, c.loop-at.invariant.within);
      passed = λ k from to. elim (cases_lt k at) [
        | inl below ↦ c.has_separator.ensures c.if-not-has_separator.true k from below
        | inr above ↦ c.loop-at.invariant.passed k above to
      ];
    }

pub loop-at-2-preserved : goal.loop-at-2-preserved
loop-at-2-preserved g c =
    let at = c.loop-at-2.at in
    let classes = g.C.Classes.all c.args.line.now in
    record {
      within = omega (arith, c.loop-at-2.invariant.within);
      passed = λ k from to. elim (cases_lt k at) [
        | inl below ↦
            let here : at - 1 ≡ k = omega arith in
            subst (λ (x : BidiClass). ends_segment x ≡ false) (c.class_at.ensures ∙ ap (class_at classes) here)
            (sym c.ends_segment.ensures ∙ c.if-not-ends_segment.true)
        | inr above ↦ c.loop-at-2.invariant.passed k above to
      ];
    }
