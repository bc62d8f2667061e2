use Rattle.std.proofs.Common.{◌≡◌, ℕ, ◌+◌, ◌++◌, ◌∷◌, [], false, if◌then◌else◌, Some, None, suc, map, length, get_or, sym, ap, ◌∙◌, arith}
use Rattle.std.specs.List.{range_with_len}
use Rattle.std.proofs.lemmas.List.{get_or-map}
use Rattle.std.proofs.lemmas.List.FromFn.{get_or-map-range_with_len, map-range_with_len_more}
use Rattle.ucd.specs.Classes.{is_nonspacing_mark}
use Rattle.ucd.specs.declared.bidi_class.BidiClass.TheVariants.{L}
use Rattle.bidi.specs.BracketPasses.{case_by, holder, step_by, step_given}
use Rattle.bidi.specs.BracketSteps.{has_direction}
use Rattle.bidi.specs.declared.bracket_steps.BracketStep.{BracketStep}
use Rattle.bidi.proofs.BracketStepLemmas.{case_of_step}
use Rattle.bidi.proofs.bracket_steps.gather_steps.Goals as goal

pub loop-k-preserved : goal.loop-k-preserved
loop-k-preserved c decision case decisions cases =
    let partners = c.args.partners.now in
    let explicit = c.args.explicit.now in
    let marks = map is_nonspacing_mark explicit in
    let k = c.loop-k.k in
    let now = c.loop-k.invariant decision case decisions cases in
    let sets = λ (p : ℕ). has_direction (case_by partners decision case marks p) in
    let e : k + 1 ≡ suc k = omega arith in
    let mark : is_nonspacing_mark (get_or explicit k L) ≡ get_or marks k false = sym (get_or-map is_nonspacing_mark explicit k L false (omega (arith, c.loop-k-test.true, c.requires.explicit))) in
    let unpaired : get_or c.args.unpaired.now k None ≡ case k =
    ap (λ l. get_or l k None) cases ∙ get_or-map-range_with_len case 0 (length partners) k k None c.loop-k-test.true (omega arith) in
    let step : c.step_at-step.result ≡ step_by partners decision case marks k =
    c.step_at-step.ensures decision decisions
    ∙ ap (λ u. step_given partners decision u (is_nonspacing_mark (get_or explicit k L)) c.loop-k.held k) unpaired
    ∙ ap (λ m. step_given partners decision (case k) m c.loop-k.held k) mark
    ∙ ap (λ h. step_given partners decision (case k) (get_or marks k false) h k) now.1 in (
      c.in_ok-push.ensures.items ∙ ap (λ l. l ++ c.step_at-step.result ∷ []) now.0
          ∙ ap (λ s. map (step_by partners decision case marks) (range_with_len 0 k) ++ s ∷ []) step
          ∙ sym (map-range_with_len_more (step_by partners decision case marks) 0 k k (omega arith)),
      c.held_after-held.ensures
          ∙ ap (λ o. if has_direction o then Some k else (if is_nonspacing_mark (get_or explicit k L) then c.loop-k.held else None))
          (ap (λ (s : BracketStep). s.case) step ∙ case_of_step partners decision case marks k)
          ∙ ap (λ m. if sets k then Some k else (if m then c.loop-k.held else None)) mark
          ∙ ap (λ h. if sets k then Some k else (if get_or marks k false then h else None)) now.1
          ∙ ap (holder sets marks) (sym e),
    )
