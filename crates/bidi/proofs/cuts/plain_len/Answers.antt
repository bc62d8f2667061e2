use Rattle.std.proofs.Common.{◌+◌, ◌-◌, length, arith}
use Rattle.bidi.proofs.CutLemmas.{no_separators_to}
use Rattle.bidi.proofs.cuts.plain_len.Goals as goal

pub returns-then-any_may_separate-clause-before : goal.returns-then-any_may_separate-clause-before
returns-then-any_may_separate-clause-before c =
    let at = c.loop-at.at in
    no_separators_to c.args.text.now at (length c.args.text.now - at) c.first_separator.result (omega (arith, c.first_separator.ensures.within))
    c.loop-at.invariant.before c.first_separator.ensures.before

pub loop-at-preserved : goal.loop-at-preserved
loop-at-preserved c =
    let at = c.loop-at.at in
    let n = at + 16 - at in
    record {
      within = c.loop-at-test.true;
      before = no_separators_to c.args.text.now at n 16 (omega arith) c.loop-at.invariant.before
          (λ k lt. c.any_may_separate.ensures c.if-any_may_separate.false k (omega arith));
    }

-- the last block reaches back to characters that were tested before
pub returns-then-not-any_may_separate-clause-before : goal.returns-then-not-any_may_separate-clause-before
returns-then-not-any_may_separate-clause-before c =
    let last = length c.args.text.now - 16 in
    let n = length c.args.text.now - last in
    λ k lt. no_separators_to c.args.text.now last n 16 (omega arith) (λ j below. c.loop-at.invariant.before j (omega arith))
    (λ j below. c.any_may_separate-then-text-ge-BLOCK.ensures c.if-not-any_may_separate.true j (omega arith)) k (omega arith)

pub returns-clause-before : goal.returns-clause-before
returns-clause-before c =
    let at = c.loop-at.at in
    no_separators_to c.args.text.now at (length c.args.text.now - at) c.first_separator-2.result (omega (arith, c.first_separator-2.ensures.within))
    c.loop-at.invariant.before c.first_separator-2.ensures.before
