use Rattle.std.proofs.Common.{◌+◌, ◌-◌, ◌++◌, drop, length, take, encode_utf8_all, ap, ◌∙◌, arith}
use Rattle.std.specs.List.{slice_range}
use Rattle.lines.specs.Writing.{StoppedIn}
use Rattle.stream.proofs.EncodingLemmas.{encoded-append}
use Rattle.lines.proofs.WriteLemmas.{passed-append, same_fault, stopped-after, stopped-before}
use Rattle.session.specs.Kept.{text_of}
use Rattle.session.proofs.BorderLemmas.{length-text}
use Rattle.session.proofs.ReadingLemmas.{all_parts, part_few, part_more, part_there}
use Rattle.session.proofs.reading.write_text.Goals as goal

pub overflow_add-end : goal.overflow_add-end
overflow_add-end g c =
    let kept = g.S.ParagraphStore.items c.args.store.now in
    omega (arith, c.requires.within, c.total_chars-chars.ensures, c.total_chars-chars.type_inv, length-text kept)

pub unreachable-requires : goal.unreachable-requires
unreachable-requires g c =
    let kept = g.S.ParagraphStore.items c.args.store.now in
    part_there kept c.loop-at.at (c.args.pos + c.args.count - c.loop-at.at) (omega (arith, c.requires.within, c.loop-at.invariant.within)) c.in_default.ensures.part

pub overflow_add-at : goal.overflow_add-at
overflow_add-at g c =
    let kept = g.S.ParagraphStore.items c.args.store.now in
    let part = c.in-Some.part.now in
    let few = part_few kept c.args.pos c.loop-at.at (c.args.pos + c.args.count) c.loop-at.invariant.begun c.loop-at.invariant.within c.requires.within part c.in-Some.ensures.part in
    omega (arith, few, c.loop-at.invariant.within, c.requires.within, c.total_chars-chars.ensures, c.total_chars-chars.type_inv, length-text kept)

-- writing one more part preserves the loop invariant
pub loop-at-preserved : goal.loop-at-preserved
loop-at-preserved g c =
    let kept = g.S.ParagraphStore.items c.args.store.now in
    let part = c.in-Some.part.now in
    let now = c.loop-at.invariant in
    let few = part_few kept c.args.pos c.loop-at.at (c.args.pos + c.args.count) now.begun now.within c.requires.within part c.in-Some.ensures.part in
    let more = part_more kept c.args.pos c.loop-at.at (c.args.pos + c.args.count) now.begun now.within c.requires.within part c.in-Some.ensures.part in
    let bytes = ap encode_utf8_all more ∙ encoded-append (slice_range (text_of kept) c.args.pos c.loop-at.at) part in
    record {
      begun = omega (arith, now.begun);
      within = omega (arith, few, now.within);
      passed = rw bytes (passed-append now.passed c.in_ok-written.ensures.ok);
      counted = c.in_ok-written.ensures.counted;
    }

pub returns-in_err-written-clause-err : goal.returns-in_err-written-clause-err
returns-in_err-written-clause-err g c =
    let kept = g.S.ParagraphStore.items c.args.store.now in
    let part = c.in-Some.part.now in
    let now = c.loop-at.invariant in
    let stop = c.args.pos + c.args.count in
    let few = part_few kept c.args.pos c.loop-at.at stop now.begun now.within c.requires.within part c.in-Some.ensures.part in
    let more = part_more kept c.args.pos c.loop-at.at stop now.begun now.within c.requires.within part c.in-Some.ensures.part in
    let next = c.loop-at.at + length part in
    let front = slice_range (text_of kept) c.args.pos c.loop-at.at in
    let rest = take (stop - next) (drop next (text_of kept)) in
    let bytes =
    ap encode_utf8_all (all_parts kept c.args.pos next stop (omega (arith, now.begun)) (omega (arith, few, now.within))) ∙ encoded-append (slice_range (text_of kept) c.args.pos next) rest
    ∙ ap (λ bs. bs ++ encode_utf8_all rest) (ap encode_utf8_all more ∙ encoded-append front part) in
    same_fault _ _ (StoppedIn _ c.args.before _ _) c.from_residual.ensures.1 (rw bytes (stopped-before (encode_utf8_all rest) (stopped-after now.passed c.in_err-written.ensures.err)))
