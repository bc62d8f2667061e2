use Rattle.std.proofs.Common.{ℕ, ◌++◌, ◌∷◌, [], map, sym, ap, ◌∙◌, arith}
use Rattle.std.specs.List.{range_with_len}
use Rattle.std.proofs.lemmas.List.FromFn.{map-range_with_len_more}
use Rattle.ucd.specs.Classes.{is_nonspacing_mark}
use Rattle.bidi.specs.BracketPasses.{closer_by, decision_by}
use Rattle.bidi.specs.BracketSteps.{resolved_before}
use Rattle.bidi.specs.Brackets.{pair_step}
use Rattle.bidi.specs.Weak.{is_left}
use Rattle.bidi.specs.declared.bracket_steps.Decision.{Decision}
use Rattle.bidi.proofs.BracketStepLemmas.{resolved-more}
use Rattle.bidi.proofs.bracket_steps.resolve_all.Goals as goal

pub loop-k-preserved : goal.loop-k-preserved
loop-k-preserved c =
    let embedding = c.args.embedding in
    let sos = c.args.sos in
    let marks = map is_nonspacing_mark c.args.explicit.now in
    let closer : ℕ → _ = closer_by c.args.partners.now in
    let old = c.args.types.now in
    let k = c.loop-k.k in
    let decision : ℕ → Decision = λ a. decision_by (is_left embedding) sos (resolved_before embedding sos marks closer old a) a (closer a) in
    record {
      types = c.resolve_at.ensures.types ∙ ap (λ ts. pair_step embedding sos marks ts k (closer k)) c.loop-k.invariant.types ∙ sym (resolved-more embedding sos marks closer old k);
      list = c.in_ok-push.ensures.items
          ∙ ap (λ l. l ++ c.resolve_at.result ∷ []) c.loop-k.invariant.list
          ∙ ap (λ d. map decision (range_with_len 0 k) ++ d ∷ []) (c.resolve_at.ensures.decision ∙ ap (λ ts. decision_by (is_left embedding) sos ts k (closer k)) c.loop-k.invariant.types)
          ∙ sym (map-range_with_len_more decision 0 k k (omega arith));
    }
