use Rattle.std.proofs.Common.{◌≡◌, ◌∙◌, ◌+◌, ◌<◌, ℕ, true, drop, get_or, length, ap₂, sym, subst, arith}
use Rattle.lines.specs.Engine.{rules_of}
use Rattle.lines.specs.Layouts.{cut_by}
use Rattle.terminal.specs.Ends.{IsFirst, knows_next}
use Rattle.terminal.specs.Texts.{ends_block}
use Rattle.terminal.specs.declared.known_ends.FirstEnd.TheVariants.{At}
use Rattle.terminal.proofs.EndLemmas.{read_front}
use Rattle.terminal.proofs.KnownEndLemmas.{first_is, no_end_more}
use Rattle.terminal.proofs.known_ends.search_end.Goals as goal

-- `At` is injective
at_same : (k n : ℕ) → At k ≡ At n → k ≡ n
at_same k n e = cc

pub returns-in-Ok-true-clause-at : goal.returns-in-Ok-true-clause-at
returns-in-Ok-true-clause-at c = λ n e.
    let rules = rules_of c.args.engine.now in
    let text = c.args.text.now in
    let k = c.loop-k.k in
    let within : k < length text = omega arith in
    let read : c.index-front-k.result ≡ get_or text k 0 = read_front text _ k c.index-front-k.result c.split_at.ensures.front within c.index-front-k.is in
    let same : ends_block (cut_by rules) c.index-front-k.result c.split_at.result.1.now ≡ ends_block (cut_by rules) (get_or text k 0) (drop (k + 1) text) =
    ap₂ (ends_block (cut_by rules)) read c.split_at.ensures.back in
    subst (λ m. IsFirst (cut_by rules) m text) (at_same (k + 1) n e)
    (first_is rules text k within c.loop-k.invariant.none
    (λ cr. subst (λ t. knows_next t ≡ true) c.split_at.ensures.back (c.in-Ok-true.ensures.known (read ∙ cr)))
    (sym same ∙ sym c.in-Ok-true.ensures.ends ∙ c.in-Ok-true.field-0-test))

pub loop-k-preserved : goal.loop-k-preserved
loop-k-preserved c =
    let rules = rules_of c.args.engine.now in
    let text = c.args.text.now in
    let k = c.loop-k.k in
    let within : k < length text = omega arith in
    let read : c.index-front-k.result ≡ get_or text k 0 = read_front text _ k c.index-front-k.result c.split_at.ensures.front within c.index-front-k.is in
    let same : ends_block (cut_by rules) c.index-front-k.result c.split_at.result.1.now ≡ ends_block (cut_by rules) (get_or text k 0) (drop (k + 1) text) =
    ap₂ (ends_block (cut_by rules)) read c.split_at.ensures.back in
    record {
      none = no_end_more rules text k c.loop-k.invariant.none
          (λ cr. subst (λ t. knows_next t ≡ true) c.split_at.ensures.back (c.in-Ok-false.ensures.known (read ∙ cr)))
          (sym same ∙ sym c.in-Ok-false.ensures.ends ∙ c.in-Ok-false.field-0-test);
      passed = c.nothing-passed.ensures (drop (k + 1 + 1) text);
    }
