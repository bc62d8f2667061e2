use Rattle.std.proofs.Common.{◌≡◌, ◌+◌, ◌-◌, [], ◌∷◌, ◌++◌, List, drop, get_or, length, map, sym, ap, ap₂, ◌∙◌, arith}
use Rattle.std.proofs.lemmas.List.{drop-map, length-map}
use Rattle.breaks.specs.Bases.{BaseCharacter}
use Rattle.breaks.specs.Marks.{marks_after}
use Rattle.breaks.specs.Reasons.{base_reasons, chars_in, names, reasons_after}
use Rattle.breaks.specs.Rules.{mark_by, rules}
use Rattle.breaks.specs.Seen.{base_in, character_in, rest}
use Rattle.breaks.specs.declared.mark.Mark.TheVariants.{Never}
use Rattle.breaks.specs.declared.reason.Reason.{Reason}
use Rattle.breaks.proofs.ReasonSteps.{chars_step, found_at, found_here, mark_below, mark_here, marks_step, nearest, next_before, reasons_step}
use Rattle.breaks.proofs.reason.reasons_by.Goals as goal

pub next-before-requires-clause-bases : goal.next-before-requires-clause-bases
next-before-requires-clause-bases c =
    let all = c.args.bases.now in
    let k = c.loop-k.k in
    ap (map base_in) (c.split_at.ensures.back ∙ ap (drop (length all - k - 1)) c.requires.reversed)
    ∙ nearest all k (found_at all k) c.loop-k-test.true (found_here all k c.loop-k-test.true)
    ∙ ap (λ l. base_in (found_at all k) ∷ l) (sym c.loop-k.invariant.0)

pub overflow_add-mark : goal.overflow_add-mark
overflow_add-mark c =
    let all = c.args.bases.now in
    let k = c.loop-k.k in
    let rows = rules c.args.edition.version c.args.edition.whole_numbers in
    let so_far = c.loop-k.invariant.3 ∙ ap (λ b. marks_after rows b (drop k (map base_in all))) c.loop-k.invariant.0 in
    let below = mark_below all k (found_at all k) c.loop-k-test.true (found_here all k c.loop-k-test.true) rows c.args.marks.now (length c.loop-k.list.items) so_far in
    omega (arith, below, c.len-start.ensures)

pub bounds-marks-start : goal.bounds-marks-start
bounds-marks-start c =
    let all = c.args.bases.now in
    let k = c.loop-k.k in
    let rows = rules c.args.edition.version c.args.edition.whole_numbers in
    let so_far = c.loop-k.invariant.3 ∙ ap (λ b. marks_after rows b (drop k (map base_in all))) c.loop-k.invariant.0 in
    let below = mark_below all k (found_at all k) c.loop-k-test.true (found_here all k c.loop-k-test.true) rows c.args.marks.now (length c.loop-k.list.items) so_far in
    omega (arith, below, c.len-start.ensures)

pub push_base-requires-clause-before : goal.push_base-requires-clause-before
push_base-requires-clause-before c =
    let all = c.args.bases.now in
    let k = c.loop-k.k in
    let now = c.next-before.ensures ∙ ap (map base_in) (c.split_at.ensures.back ∙ ap (drop (length all - k - 1)) c.requires.reversed)
    ∙ nearest all k (found_at all k) c.loop-k-test.true (found_here all k c.loop-k-test.true) in
    now ∙ ap (λ l. base_in (found_at all k) ∷ l) (sym (ap rest now))

pub push_base-requires-clause-start : goal.push_base-requires-clause-start
push_base-requires-clause-start c =
    let all = c.args.bases.now in
    let k = c.loop-k.k in
    let now = c.next-before.ensures ∙ ap (map base_in) (c.split_at.ensures.back ∙ ap (drop (length all - k - 1)) c.requires.reversed)
    ∙ nearest all k (found_at all k) c.loop-k-test.true (found_here all k c.loop-k-test.true) in
    c.loop-k.invariant.1 ∙ ap chars_in (c.loop-k.invariant.0 ∙ sym (ap rest now))

pub push_base-requires-clause-mark : goal.push_base-requires-clause-mark
push_base-requires-clause-mark c =
    let all = c.args.bases.now in
    let k = c.loop-k.k in
    let x = found_at all k in
    let marks = c.args.marks.now in
    let here = found_here all k c.loop-k-test.true in
    let rows = rules c.args.edition.version c.args.edition.whole_numbers in
    let now = c.next-before.ensures ∙ ap (map base_in) (c.split_at.ensures.back ∙ ap (drop (length all - k - 1)) c.requires.reversed)
    ∙ nearest all k x c.loop-k-test.true here in
    let after = ap (map base_in) c.split_at-in-loop-k.ensures.back ∙ sym (drop-map base_in (k + 1) all) in
    let so_far = c.loop-k.invariant.3 ∙ ap (λ b. marks_after rows b (drop k (map base_in all))) c.loop-k.invariant.0 in
    let start : c.len-start.result ≡ length c.loop-k.list.items = omega (arith, c.len-start.ensures) in
    ap (λ n. get_or marks (n + length x.attached.now) Never) start
    ∙ mark_here all k x c.loop-k-test.true here rows marks (length c.loop-k.list.items) so_far Never
    ∙ sym (ap₂ (λ (v a : List BaseCharacter). mark_by rows v a) now after)

pub loop-k-preserved : goal.loop-k-preserved
loop-k-preserved c =
    let all = c.args.bases.now in
    let k = c.loop-k.k in
    let x = found_at all k in
    let list = c.loop-k.list.items in
    let below = c.loop-k-test.true in
    let here = found_here all k below in
    let named = names c.args.edition.version c.args.edition.whole_numbers in
    let rows = rules c.args.edition.version c.args.edition.whole_numbers in
    let total = reasons_after named rows [] (map base_in all) in
    let left = drop k (map base_in all) in
    let behind = drop (k + 1) (map base_in all) in
    let before = c.loop-k.invariant.0 in
    let now = c.next-before.ensures ∙ ap (map base_in) (c.split_at.ensures.back ∙ ap (drop (length all - k - 1)) c.requires.reversed) ∙ nearest all k x below here in
    let after = ap (map base_in) c.split_at-in-loop-k.ensures.back ∙ sym (drop-map base_in (k + 1) all) in
    let items = c.in_ok-push_base.ensures ∙ ap₂ (λ (v a : List BaseCharacter). list ++ base_reasons named rows (base_in x) v a) (ap rest now) after in
    let size = chars_step all k x below here named rows list (c.loop-k.invariant.1 ∙ ap chars_in before) in
    let so_far = ap (λ b. list ++ reasons_after named rows b left) (sym before) ∙ c.loop-k.invariant.2 in
    let marks = c.loop-k.invariant.3 ∙ ap (λ b. marks_after rows b left) before in
    let n : length c.push_base.new.list.items ≡ length list + (length x.attached.now + 1) = omega (arith, ap length items, size, c.loop-k.invariant.1, ap chars_in before, length-map x.attached.now character_in) in (
      now ∙ sym (next_before all k x below here),
      ap length items ∙ size ∙ ap chars_in (sym now),
      ap₂ (λ (l : List Reason) (v : List BaseCharacter). l ++ reasons_after named rows v behind) items now ∙ reasons_step all k x below here named rows list total so_far,
      marks_step all k x below here rows c.args.marks.now (length list) marks (length c.push_base.new.list.items) n ∙ ap (λ v. marks_after rows v behind) (sym now),
    )
