use Rattle.std.proofs.Common.{◌+◌, ◌∷◌, [], ◌∙◌, ap, below_more, arith}
use Rattle.std.proofs.lemmas.List.{get_or_append_left, get_or_push, length_push}
use Rattle.ucd.specs.Answers.{answers_in, unnamed}
use Rattle.ucd.proofs.image_pages.entries_in.Goals as goal

pub loop-i-preserved : goal.loop-i-preserved
loop-i-preserved c =
    let old = c.loop-i.entries.items in
    let x = c.from_bits.result in
    rw c.in_ok-push.ensures.items (
      length_push old x ∙ ap (λ n. n + 1) c.loop-i.invariant.0,
      below_more _ _
          (λ k lt. get_or_append_left old (x ∷ []) unnamed k (omega arith) ∙ c.loop-i.invariant.1 k lt)
          (get_or_push old x unnamed c.loop-i.i c.loop-i.invariant.0 ∙ c.from_bits.ensures ∙ ap answers_in c.u16_at.ensures),
    )
