use Rattle.std.proofs.Common.{◌≡◌, ℕ, ◌+◌, ◌-◌, ◌<◌, Bool, List, length, get_or, slice_index, sym, subst, ◌∙◌, arith}
use Rattle.std.proofs.lemmas.List.{get_or_read}
use Rattle.ucd.specs.Tables.{class_of}
use Rattle.bidi.specs.Cuts.{cut}
use Rattle.bidi.proofs.CutLemmas.{uncut_before, uncut_next, uncut_past}
use Rattle.bidi.proofs.LeastLemmas.{least_found, least_none}
use Rattle.bidi.proofs.PiecesLemmas.{paragraphs-at_cut, paragraphs-no_cut}
use Rattle.bidi.proofs.cuts.first_cut.Goals as goal
use Rattle.bidi.proofs.cuts.first_cut.Goals.{else-at-last-via-then-at-last+else-is_cut, else-at-last-via-else-at-last}

-- the result for the two characters that were read at k and k + 1 says whether there is a boundary between them
answer_is : (is_cut : ℕ → ℕ → Bool) (text : List ℕ) (k before after : ℕ) (answer : Bool) → k + 1 < length text
    → before ≡ get_or text k before → after ≡ get_or text (k + 1) after → answer ≡ is_cut before after
    → is_cut (slice_index text k) (slice_index text (k + 1)) ≡ answer
answer_is is_cut text k before after answer within first second e =
    let at_first : before ≡ slice_index text k = get_or_read text k before (omega arith) first 0 in
    let at_second : after ≡ slice_index text (k + 1) = get_or_read text (k + 1) after within second 0 in
    rw (← at_first, ← at_second) (sym e)

-- the result for the boundary after k is the result for the boundary before k + 1
answer_before : (is_cut : ℕ → ℕ → Bool) (text : List ℕ) (k : ℕ) (answer : Bool) → is_cut (slice_index text k) (slice_index text (k + 1)) ≡ answer
    → is_cut (slice_index text (k + 1 - 1)) (slice_index text (k + 1)) ≡ answer
answer_before is_cut text k answer e =
    let there : k ≡ k + 1 - 1 = omega arith in
    subst (λ i. is_cut (slice_index text i) (slice_index text (k + 1)) ≡ answer) there e

pub returns-then-is_cut-clause-place : goal.returns-then-is_cut-clause-place
returns-then-is_cut-clause-place c =
    let is_cut = cut (class_of c.args.tables.now) in
    let text = c.args.text.now in
    let last = c.saturating_sub-last.result in
    let at = c.loop-at.at + c.uncut_len-at.result in
    let uncut = uncut_past is_cut text last c.loop-at.at (last - c.loop-at.at) c.uncut_len-at.result (omega (arith, c.uncut_len-at.ensures.within)) c.loop-at.invariant
    c.uncut_len-at.ensures.uncut in
    sym (least_found _ 1 _ (at + 1) (omega arith) (omega arith)
    (answer_before is_cut text at _ (answer_is is_cut text at _ _ _ (omega arith) c.index-text-at.is c.index-text-at-then-at-last.is c.is_cut.ensures ∙ c.if-is_cut.true))
    (λ m from to. uncut_before is_cut text last at uncut m from (omega arith) (omega arith)))

pub returns-then-is_cut-clause-paragraphs : goal.returns-then-is_cut-clause-paragraphs
returns-then-is_cut-clause-paragraphs c =
    let is_cut = cut (class_of c.args.tables.now) in
    let text = c.args.text.now in
    let last = c.saturating_sub-last.result in
    let at = c.loop-at.at + c.uncut_len-at.result in
    let uncut = uncut_past is_cut text last c.loop-at.at (last - c.loop-at.at) c.uncut_len-at.result (omega (arith, c.uncut_len-at.ensures.within)) c.loop-at.invariant
    c.uncut_len-at.ensures.uncut in (
      omega arith,
      omega arith,
      paragraphs-at_cut is_cut text (at + 1) (omega arith) (omega arith) (λ m from to. uncut_before is_cut text last at uncut m from (omega arith) (omega arith))
          (answer_before is_cut text at _ (answer_is is_cut text at _ _ _ (omega arith) c.index-text-at.is c.index-text-at-then-at-last.is c.is_cut.ensures ∙ c.if-is_cut.true)),
    )

pub loop-at-preserved : goal.loop-at-preserved
loop-at-preserved c =
    let is_cut = cut (class_of c.args.tables.now) in
    let text = c.args.text.now in
    let last = c.saturating_sub-last.result in
    let at = c.loop-at.at + c.uncut_len-at.result in
    let uncut = uncut_past is_cut text last c.loop-at.at (last - c.loop-at.at) c.uncut_len-at.result (omega (arith, c.uncut_len-at.ensures.within)) c.loop-at.invariant
    c.uncut_len-at.ensures.uncut in
    uncut_next is_cut text last at uncut (elim c.else-at-last.branch [
      | else-at-last-via-then-at-last+else-is_cut w ↦ λ inside.
          answer_is is_cut text at _ _ _ (omega arith) w.index-text-at.is w.index-text-at-then-at-last.is w.is_cut.ensures ∙ w.if-is_cut.false
      | else-at-last-via-else-at-last w ↦ λ inside. absurd (omega (arith, w.if-at-last.false))
    ])

pub returns-clause-place : goal.returns-clause-place
returns-clause-place c =
    let last = c.saturating_sub-last.result in
    sym (least_none _ 1 (length c.args.text.now - 1)
    (λ m from to. uncut_before (cut (class_of c.args.tables.now)) c.args.text.now last c.loop-at.at c.loop-at.invariant m from (omega arith) (omega arith)))

pub returns-clause-paragraphs : goal.returns-clause-paragraphs
returns-clause-paragraphs c some =
    let last = c.saturating_sub-last.result in
    paragraphs-no_cut (cut (class_of c.args.tables.now)) c.args.text.now some
    (λ m from to. uncut_before (cut (class_of c.args.tables.now)) c.args.text.now last c.loop-at.at c.loop-at.invariant m from (omega arith) (omega arith))
