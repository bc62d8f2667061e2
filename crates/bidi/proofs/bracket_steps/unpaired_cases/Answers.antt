use Rattle.std.proofs.Common.{ℕ, ◌++◌, ◌∷◌, [], Option, map, ap, sym, ◌∙◌, arith}
use Rattle.std.specs.List.{range_with_len}
use Rattle.std.proofs.lemmas.List.{get_or_default}
use Rattle.std.proofs.lemmas.List.FromFn.{map-range_with_len_more}
use Rattle.ucd.specs.Classes.{class_at}
use Rattle.ucd.specs.declared.bidi_class.BidiClass.TheVariants.{L, ON}
use Rattle.bidi.specs.BracketPasses.{unpaired_by}
use Rattle.bidi.specs.BracketTypes.{bracket_at}
use Rattle.bidi.specs.declared.bracket_steps.BracketCase.{BracketCase}
use Rattle.bidi.proofs.bracket_steps.unpaired_cases.Goals as goal

pub loop-k-preserved : goal.loop-k-preserved
loop-k-preserved c =
    let openers = c.args.openers.now in
    let kinds = c.args.kinds.now in
    let types = c.args.types.now in
    let k = c.loop-k.k in
    let case : ℕ → Option BracketCase = λ k. unpaired_by openers c.args.full (bracket_at kinds k) (class_at types k) k in
    c.in_ok-push.ensures.items ∙ ap (λ l. l ++ c.unpaired_case.result ∷ []) c.loop-k.invariant
    ∙ ap (λ o. map case (range_with_len 0 k) ++ o ∷ [])
    (c.unpaired_case.ensures ∙ ap (λ t. unpaired_by openers c.args.full (bracket_at kinds k) t k) (get_or_default types k L ON c.loop-k-test.true))
    ∙ sym (map-range_with_len_more case 0 k k (omega arith))
