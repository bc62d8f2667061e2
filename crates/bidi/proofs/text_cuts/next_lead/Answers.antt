use Rattle.std.proofs.Common.{◌≡◌, ℕ, ◌<◌, ◌+◌, ◌-◌, false, length, arith}
use Rattle.bidi.specs.TextCuts.{leads_at}
use Rattle.bidi.proofs.TextCutLemmas.{lead_at, plain_to}
use Rattle.bidi.proofs.text_cuts.next_lead.Goals as goal
use Rattle.bidi.proofs.text_cuts.next_lead.Goals.{then-bytes-ge-BLOCK+else-first-lt-AT_ONCE-2, else-bytes-ge-BLOCK}

-- the first position of a block at which a separator may begin
pub returns-then-first-lt-AT_ONCE-clause-before : goal.returns-then-first-lt-AT_ONCE-clause-before
returns-then-first-lt-AT_ONCE-clause-before c =
    let at = c.loop-at.at in
    let n = at + 34 - at in
    plain_to c.args.bytes.now at n c.first_lead-first.result (omega arith) c.loop-at.invariant.before c.first_lead-first.ensures.before

pub returns-then-first-lt-AT_ONCE-clause-here : goal.returns-then-first-lt-AT_ONCE-clause-here
returns-then-first-lt-AT_ONCE-clause-here c = λ within.
    let at = c.loop-at.at in
    let n = at + 34 - at in
    lead_at c.args.bytes.now at n c.first_lead-first.result (omega arith) (c.first_lead-first.ensures.here c.if-first-lt-AT_ONCE.true)

-- none of the positions that one pass tests has a byte that may begin a separator
pub loop-at-preserved : goal.loop-at-preserved
loop-at-preserved c =
    let at = c.loop-at.at in
    let n = at + 34 - at in
    record {
      within = omega (arith, c.loop-at-test.true);
      before = plain_to c.args.bytes.now at n 32 (omega arith) c.loop-at.invariant.before
          (λ k lt. c.first_lead-first.ensures.before k (omega (arith, lt, c.if-first-lt-AT_ONCE.false)));
    }

-- the first position of the last block at which a separator may begin
pub returns-then-first-lt-AT_ONCE-2-clause-before : goal.returns-then-first-lt-AT_ONCE-2-clause-before
returns-then-first-lt-AT_ONCE-2-clause-before c =
    let last = length c.args.bytes.now - 34 in
    let n = last + 34 - last in
    plain_to c.args.bytes.now last n c.first_lead-first-then-bytes-ge-BLOCK.result (omega arith)
    (λ k lt. c.loop-at.invariant.before k (omega (arith, lt, c.loop-at-test.false))) c.first_lead-first-then-bytes-ge-BLOCK.ensures.before

pub returns-then-first-lt-AT_ONCE-2-clause-here : goal.returns-then-first-lt-AT_ONCE-2-clause-here
returns-then-first-lt-AT_ONCE-2-clause-here c = λ within.
    let last = length c.args.bytes.now - 34 in
    let n = last + 34 - last in
    lead_at c.args.bytes.now last n c.first_lead-first-then-bytes-ge-BLOCK.result (omega arith)
    (c.first_lead-first-then-bytes-ge-BLOCK.ensures.here c.if-first-lt-AT_ONCE-2.true)

-- only the last two bytes are left, or the text is shorter than a block
pub loop-at-2-init : goal.loop-at-2-init
loop-at-2-init c = elim c.if-bytes-ge-BLOCK.branch [
  | then-bytes-ge-BLOCK+else-first-lt-AT_ONCE-2 w ↦
      let last = length c.args.bytes.now - 34 in
      let n = last + 34 - last in
      let plain : (k : ℕ) → k < last + 32 → leads_at c.args.bytes.now k ≡ false =
      plain_to c.args.bytes.now last n 32 (omega arith) (λ k lt. c.loop-at.invariant.before k (omega (arith, lt, c.loop-at-test.false)))
      (λ k lt. w.first_lead-first-then-bytes-ge-BLOCK.ensures.before k (omega (arith, lt, w.if-first-lt-AT_ONCE-2.false))) in
      record {
        within = omega (arith, w.at-is, w.if-bytes-ge-BLOCK.true);
        before = λ k lt. plain k (omega (arith, lt, w.at-is));
      }
  | else-bytes-ge-BLOCK w ↦
      record {
        within = omega (arith, w.at-is, c.loop-at.invariant.within);
        before = λ k lt. c.loop-at.invariant.before k (omega (arith, lt, w.at-is));
      }
]
