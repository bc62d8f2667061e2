use Rattle.std.proofs.Common.{◌+◌, ◌∷◌, [], ◌∙◌, ap, below_more, arith}
use Rattle.std.proofs.lemmas.List.{get_or_append_left, get_or_push, length_push}
use Rattle.ucd.proofs.image_pages.index_in.Goals as goal

pub loop-block-preserved : goal.loop-block-preserved
loop-block-preserved c =
    let old = c.loop-block.index.items in
    let x = c.u16_at.result in
    rw c.in_ok-push.ensures.items (
      length_push old x ∙ ap (λ n. n + 1) c.loop-block.invariant.0,
      below_more _ _
          (λ k lt. get_or_append_left old (x ∷ []) 0 k (omega arith) ∙ c.loop-block.invariant.1 k lt)
          (get_or_push old x 0 c.loop-block.block c.loop-block.invariant.0 ∙ c.u16_at.ensures),
    )
