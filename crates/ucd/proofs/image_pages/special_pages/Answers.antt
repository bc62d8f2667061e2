use Rattle.std.proofs.Common.{◌≡◌, ℕ, ◌+◌, ◌*◌, ◌<◌, ◌∷◌, [], ◌++◌, ◌∙◌, false, get_or, ap, sym, below_more, arith}
use Rattle.std.proofs.lemmas.List.{get_or_append_left, get_or_push, length_push}
use Rattle.ucd.specs.Answers.{unnamed}
use Rattle.ucd.specs.ImagePages.{IsOrdinary}
use Rattle.ucd.proofs.image_pages.special_pages.Goals as goal

pub loop-page-preserved : goal.loop-page-preserved
loop-page-preserved c =
    let old = c.loop-page.special.items in
    let x = c.is_special.result in
    rw c.in_ok-push.ensures.items (
      length_push old x ∙ ap (λ n. n + 1) c.loop-page.invariant.0,
      below_more (λ p. get_or (old ++ x ∷ []) p false ≡ false → (k : ℕ) → k < 256 → IsOrdinary (get_or c.args.entries.now (p * 256 + k) unnamed)) _
          (λ p lt ordinary. c.loop-page.invariant.1 p lt (sym (get_or_append_left old (x ∷ []) false p (omega arith)) ∙ ordinary))
          (λ ordinary. c.is_special.ensures (sym (get_or_push old x false c.loop-page.page c.loop-page.invariant.0) ∙ ordinary)),
    )
