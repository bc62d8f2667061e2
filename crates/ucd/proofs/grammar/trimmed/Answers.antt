use Rattle.std.proofs.Common.{sym, ◌∙◌, arith}
use Rattle.std.proofs.lemmas.List.{take_rest}
use Rattle.ucd.specs.Grammar.{is_one_of}
use Rattle.ucd.proofs.Trims.{trimmed_at}
use Rattle.ucd.proofs.grammar.trimmed.Goals as goal
use Rattle.ucd.proofs.grammar.trimmed.Goals.{then-loop-start-test+else-contains, else-loop-start-test, then-loop-end-test+else-contains-2, else-loop-end-test}

pub returns : goal.returns
returns c =
    trimmed_at (is_one_of c.args.white.now) c.args.bytes.now _ c.loop-start.start _ (take_rest c.args.bytes.now c.loop-start.start) c.loop-start.invariant.within c.loop-start.invariant.pass
    (λ lt. elim c.loop-start-test.branch [
      | then-loop-start-test+else-contains w ↦ sym w.contains.ensures.value
          ∙ w.if-contains.false
      | else-loop-start-test w ↦ absurd (let lost : ⊥ = omega arith in lost)
    ])
    c.loop-end.invariant.within c.loop-end.invariant.pass
    (λ lt. elim c.loop-end-test.branch [
      | then-loop-end-test+else-contains-2 w ↦ sym w.contains-in-loop-end.ensures.value
          ∙ w.if-contains-2.false
      | else-loop-end-test w ↦ absurd (let lost : ⊥ = omega arith in lost)
    ])
