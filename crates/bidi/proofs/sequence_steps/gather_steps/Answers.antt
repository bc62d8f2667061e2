use Rattle.std.proofs.Common.{◌≡◌, None, length, get_or, ap, ◌∙◌, ◌++◌, drop, arith, ◌+◌}
use Rattle.std.proofs.lemmas.List.FromFn.{get_or-map-range_with_len}
use Rattle.bidi.specs.Reasons.{numbered, sequence_step}
use Rattle.bidi.specs.declared.bracket_steps.BracketStep.{BracketStep}
use Rattle.bidi.proofs.SequenceStepLemmas.{numbered_more}
use Rattle.bidi.proofs.sequence_steps.gather_steps.Goals as goal

pub loop-k-preserved : goal.loop-k-preserved
loop-k-preserved c sos types at weak are =
    let f = sequence_step c.args.level sos types c.args.paired.now at in
    let neutral = c.args.neutral.now in
    let k = c.loop-k.k in
    let none : BracketStep = record { case = None; partner = None; inside = None } in
    let read : get_or c.args.brackets.now k none ≡ at k =
    ap (λ l. get_or l k none) are ∙ get_or-map-range_with_len at 0 (length neutral) k k none c.loop-k-test.true (omega arith) in
    ap (λ l. l ++ numbered f (k + 1) (drop (k + 1) neutral)) c.in_ok-push.ensures.items
    ∙ numbered_more f c.loop-k.list.items (numbered f 0 neutral) neutral k _ c.sequence_step.result c.loop-k-test.true
    (c.sequence_step.ensures sos types at weak read) (c.loop-k.invariant sos types at weak are)
