use Rattle.std.proofs.Common.{◌+◌, ◌∷◌, [], ◌∙◌, ap, below_more, arith}
use Rattle.std.proofs.lemmas.List.{get_or_append_left, get_or_push, length_push}
use Rattle.ucd.specs.Answers.{unnamed}
use Rattle.ucd.specs.LineSeparators.{answers_if}
use Rattle.ucd.proofs.image_write.points_of_pages.Goals as goal

pub loop-c-preserved : goal.loop-c-preserved
loop-c-preserved c =
    let old = c.loop-c.points.items in
    let x = c.for_lines_if.result in
    rw c.in_ok-push.ensures.items (
      length_push old x ∙ ap (λ n. n + 1) c.loop-c.invariant.0,
      below_more _ _
          (λ k lt. get_or_append_left old (x ∷ []) unnamed k (omega arith) ∙ c.loop-c.invariant.1 k lt)
          (get_or_push old x unnamed c.loop-c.c c.loop-c.invariant.0 ∙ c.for_lines_if.ensures
          ∙ ap (answers_if c.args.separates c.loop-c.c) c.at-properties.ensures),
    )
