use Rattle.std.proofs.Common.{◌≡◌, ◌<◌, length, drop, false, true, refl, sym, ap, ◌∙◌, length-drop, arith}
use Rattle.std.proofs.lemmas.List.{drop_all, get_or_default}
use Rattle.sequences.specs.Known.{knows_sequence}
use Rattle.sequences.specs.Progress.{is_known}
use Rattle.terminal.specs.Ends.{knows_next}
use Rattle.terminal.proofs.PassedLemmas.{part_knows, part_next, part_passed, scanned_knows, scanned_passed, unsure_next}
use Rattle.terminal.proofs.passed.known_next.Goals as goal

-- if the end of the part is not known, neither is the next character
pub returns-then-not-is_known-clause-unknown : goal.returns-then-not-is_known-clause-unknown
returns-then-not-is_known-clause-unknown c =
    let text = c.args.text.now in
    let at = c.loop-passed in
    let part = c.split_at.result.1.now in
    let unsure : knows_sequence part ≡ false =
    scanned_knows at.passed at.passed text part at.invariant c.split_at.ensures.back c.split_at-in-loop-passed.result.1.now c.split_at-in-loop-passed.ensures.back
    ∙ ap is_known (sym c.scan-progress.ensures) ∙ sym c.is_known.ensures ∙ c.if-not-is_known.true in
    let some : 0 < length part = omega (arith, c.loop-passed-test.true, ap length c.split_at.ensures.back, length-drop at.passed.start text) in
    part_knows at.passed text part at.invariant c.split_at.ensures.back ∙ unsure_next part some unsure

pub returns-then-not-is_known-clause-passed : goal.returns-then-not-is_known-clause-passed
returns-then-not-is_known-clause-passed c =
    let at = c.loop-passed in
    scanned_passed at.passed _ c.args.text.now c.split_at.result.1.now at.invariant c.split_at.ensures.back
    c.split_at-in-loop-passed.result.1.now c.split_at-in-loop-passed.ensures.back refl refl c.scan-progress.ensures

pub returns-in-None-clause-next : goal.returns-in-None-clause-next
returns-in-None-clause-next c =
    let text = c.args.text.now in
    let at = c.loop-passed in
    let part = c.split_at.result.1.now in
    let some : 0 < length part = omega (arith, c.loop-passed-test.true, ap length c.split_at.ensures.back, length-drop at.passed.start text) in
    c.index-part-0.is ∙ get_or_default part 0 c.index-part-0.result 0 some ∙ sym (c.in-None.ensures.none refl) ∙ sym (part_next at.passed text part at.invariant c.split_at.ensures.back)

pub returns-in-None-clause-known : goal.returns-in-None-clause-known
returns-in-None-clause-known c =
    let at = c.loop-passed in
    part_knows at.passed c.args.text.now c.split_at.result.1.now at.invariant c.split_at.ensures.back ∙ c.in-None.ensures.alone refl

-- skipping a known part preserves the loop invariant
pub loop-passed-preserved : goal.loop-passed-preserved
loop-passed-preserved c =
    let text = c.args.text.now in
    let at = c.loop-passed in
    let part = c.split_at.result.1.now in
    let sure : knows_sequence part ≡ true =
    scanned_knows at.passed at.passed text part at.invariant c.split_at.ensures.back c.split_at-in-loop-passed.result.1.now c.split_at-in-loop-passed.ensures.back
    ∙ ap is_known (sym c.scan-progress.ensures) ∙ sym c.is_known.ensures ∙ c.if-not-is_known.false in
    let found = c.in-Some.ensures in
    let next = c.at-passed.ensures in
    part_passed at.passed c.at-passed.result text part at.invariant c.split_at.ensures.back c.in-Some.len found.within.1 (found.skips sure) next.start next.scanned next.progress

-- if no text is left, the next character is not known
pub returns-clause-unknown : goal.returns-clause-unknown
returns-clause-unknown c =
    let text = c.args.text.now in
    let at = c.loop-passed in
    part_knows at.passed text (drop at.passed.start text) at.invariant refl ∙ ap knows_next (drop_all at.passed.start text (omega (arith, c.loop-passed-test.false)))
