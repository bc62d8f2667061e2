use Rattle.std.proofs.Common.{rules, arith, ◌≡◌, ℕ, false, true, [], ◌∷◌, ◌++◌, Vec, Global, ap, ◌∙◌, sym}
use Rattle.lines.proofs.EndLemmas.{ends_more, ends_same, is_end}
use Rattle.lines.proofs.clusters.part_ends.Goals as goal
use Rattle.lines.proofs.clusters.part_ends.Goals.{then-k-len+in_ok-push, then-k-len-via-then-k-len, then-k-len-via-else-k-len+then-ends-start, else-k-len+else-ends-start}

pub loop-k-preserved : goal.loop-k-preserved
loop-k-preserved c =
    let ends = c.args.ends.now in
    let k = c.loop-k.k in
    elim c.if-k-len.branch [
      | then-k-len+in_ok-push w ↦
          let is : is_end ends c.args.start c.args.len k ≡ true = elim w.then-k-len.branch [
            | then-k-len-via-then-k-len w' ↦ search (rules, w'.if-k-len)
            | then-k-len-via-else-k-len+then-ends-start w' ↦ search (rules, w'.if-ends-start)
          ] in (
            omega arith,
            ap (λ (v : Vec ℕ Global). v.items) w.found-is ∙ w.in_ok-push.ensures.items ∙ ap (λ xs. xs ++ k ∷ []) c.loop-k.invariant.1
                ∙ sym (ends_more ends c.args.start c.args.len k c.loop-k.invariant.0 is),
          )
      | else-k-len+else-ends-start w ↦
          let none : is_end ends c.args.start c.args.len k ≡ false = search (rules, w.if-k-len, w.if-ends-start) in (
            omega arith,
            ap (λ (v : Vec ℕ Global). v.items) w.found-is ∙ c.loop-k.invariant.1
                ∙ sym (ends_same ends c.args.start c.args.len k c.loop-k.invariant.0 none),
          )
    ]
