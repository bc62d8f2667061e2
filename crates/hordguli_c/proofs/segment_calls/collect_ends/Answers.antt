use Rattle.std.proofs.Common.{rules, arith, ◌≡◌, ℕ, false, true, [], ◌∷◌, ◌++◌, Vec, Global, length, ap, ◌∙◌, sym}
use Rattle.lines.proofs.EndLemmas.{ends_more, ends_same, is_end}
use Rattle.hordguli_c.proofs.segment_calls.collect_ends.Goals as goal
use Rattle.hordguli_c.proofs.segment_calls.collect_ends.Goals.{then-k-len+in_ok-push, then-k-len-via-then-k-len, then-k-len-via-else-k-len+then-ends-k, else-k-len+else-ends-k}

pub loop-k-preserved : goal.loop-k-preserved
loop-k-preserved c =
    let ends = c.args.ends.now in
    let k = c.loop-k.k in
    elim c.if-k-len.branch [
      | then-k-len+in_ok-push w ↦
          let is : is_end ends 0 (length ends) k ≡ true = elim w.then-k-len.branch [
            | then-k-len-via-then-k-len w' ↦ search (rules, w'.if-k-len)
            | then-k-len-via-else-k-len+then-ends-k w' ↦ search (rules, w'.if-ends-k)
          ] in (
            omega arith,
            ap (λ (v : Vec ℕ Global). v.items) w.found-is ∙ w.in_ok-push.ensures.items ∙ ap (λ xs. xs ++ k ∷ []) c.loop-k.invariant.1
                ∙ sym (ends_more ends 0 (length ends) k c.loop-k.invariant.0 is),
          )
      | else-k-len+else-ends-k w ↦
          let none : is_end ends 0 (length ends) k ≡ false = search (rules, w.if-k-len, w.if-ends-k) in (
            omega arith,
            ap (λ (v : Vec ℕ Global). v.items) w.found-is ∙ c.loop-k.invariant.1
                ∙ sym (ends_same ends 0 (length ends) k c.loop-k.invariant.0 none),
          )
    ]
