use Rattle.std.proofs.Common.{◌≡◌, ◌≢◌, true, ◌+◌, ◌-◌, ◌/◌, ◌%◌, ◌<◌, ◌≤◌, ◌++◌, length, take, drop, replicate, refl, sym, ap, subst, ◌∙◌, inl, inr, arith, if◌then◌else◌}
use Rattle.std.proofs.lemmas.Bool.{cases_eq, cond-true}
use Rattle.std.proofs.lemmas.List.{length-set}
use Rattle.ucd.specs.declared.bidi_class.BidiClass.TheVariants.{L}
use Rattle.bidi.specs.declared.weak_table.TheConstants.{BEGINS, COMPLETES, KEEPS}
use Rattle.bidi.specs.Waiting.{row_after, start_after, waits, written}
use Rattle.bidi.specs.Weak.{is_left}
use Rattle.bidi.specs.WeakTable.{done_by, next_by, run_at, strong_at, turned}
use Rattle.bidi.proofs.WaitingLemmas.{pending-low, start-low, types-next}
use Rattle.bidi.proofs.WeakTableLemmas.{completes-waits, done-is, front-next, next-is, row-starts, row-within, run-is, starts-next, strong-is, value-is}
use Rattle.bidi.proofs.weak.read_each.Goals as goal
use Rattle.bidi.proofs.weak.read_each.Goals.{then-next-ne-KEEPS, else-next-ne-KEEPS}

pub act-start-requires-clause-order : goal.act-start-requires-clause-order
act-start-requires-clause-order c completed =
    let state = c.loop-at.row / 32 in
    let marked = c.mark_type-marked.result in
    let inv = c.loop-at.invariant.state in
    let is : c.next-next.result ≡ next_by state marked = c.next-next.ensures ∙ next-is c.loop-at.row marked inv.within inv.starts in
    inv.order (completes-waits (run_at state) (turned (strong_at state) marked) (sym (done-is state marked c.next-next.result is) ∙ completed))

pub loop-at-preserved : goal.loop-at-preserved
loop-at-preserved c =
    let row = c.loop-at.row in
    let state = row / 32 in
    let start = c.loop-at.start in
    let at = c.loop-at.at in
    let current = c.loop-at.types in
    let inv = c.loop-at.invariant.state in
    let marked = c.mark_type-marked.result in
    let next = c.next-next.result in
    let value = c.value-value.result in
    let filled = c.if-next-ne-KEEPS.types in
    let begins = c.if-next-ne-KEEPS.start in
    let run = run_at state in
    let strong = strong_at state in
    let type = turned strong marked in
    let inside : at < length current = omega (arith, c.loop-at.invariant.size, c.loop-at-test.true, c.requires.within) in
    let is : next ≡ next_by state marked = c.next-next.ensures ∙ next-is row marked inv.within inv.starts in
    let done : next % 4 ≡ done_by run type = done-is state marked next is in
    let is_value : value ≡ written run (is_left strong) type = c.value-value.ensures ∙ value-is row marked inv.within inv.starts in
    let completed : done_by run type ≡ COMPLETES → take at filled ≡ take start current ++ replicate (at - start) value =
    λ e. elim c.if-next-ne-KEEPS.branch [
      | then-next-ne-KEEPS w ↦ ap (take at) w.types-is ∙ w.act-start.ensures.front (done ∙ e)
      | else-next-ne-KEEPS w ↦ absurd (omega (arith, w.if-next-ne-KEEPS.false, done, e))
    ] in
    let kept : done_by run type ≢ COMPLETES → filled ≡ current =
    λ other. elim c.if-next-ne-KEEPS.branch [
      | then-next-ne-KEEPS w ↦ w.types-is ∙ w.act-start.ensures.kept (λ e. other (sym done ∙ e))
      | else-next-ne-KEEPS w ↦ w.types-is
    ] in
    let after : drop at filled ≡ drop at current =
    elim c.if-next-ne-KEEPS.branch [
      | then-next-ne-KEEPS w ↦ elim (cases_eq (next % 4) COMPLETES) [
        | inl e ↦ ap (drop at) w.types-is ∙ w.act-start.ensures.rest e
        | inr other ↦ ap (drop at) (w.types-is ∙ w.act-start.ensures.kept other)
      ]
      | else-next-ne-KEEPS w ↦ ap (drop at) w.types-is
    ] in
    let begun : done_by run type ≡ BEGINS → begins ≡ at =
    λ e. elim c.if-next-ne-KEEPS.branch [
      | then-next-ne-KEEPS w ↦ w.start-is ∙ w.act-start.ensures.begins (λ f. absurd (omega (arith, done, e, f)))
      | else-next-ne-KEEPS w ↦ absurd (omega (arith, w.if-next-ne-KEEPS.false, done, e))
    ] in
    let stays : done_by run type ≡ KEEPS → begins ≡ start =
    λ e. elim c.if-next-ne-KEEPS.branch [
      | then-next-ne-KEEPS w ↦ absurd (w.if-next-ne-KEEPS.true (done ∙ e))
      | else-next-ne-KEEPS w ↦ w.start-is
    ] in
    let size : length filled ≡ length current = c.if-next-ne-KEEPS.auto.types in
    let pending = if waits run then start else at in
    let later = if waits (row_after run type) then begins else at + 1 in
    let is_begins : waits (row_after run type) ≡ true → begins ≡ start_after run type pending at =
    λ w. sym (cond-true (waits (row_after run type)) begins (at + 1) w) ∙ starts-next run type start begins at begun stays in
    let low : pending ≤ at = pending-low run start at inv.order in
    record {
      within = omega (arith, c.loop-at-test.true);
      size = length-set filled at value ∙ size ∙ c.loop-at.invariant.size;
      state = record {
        within = row-within state marked next is;
        starts = row-starts state marked next is;
        order = λ w. subst (λ n. n ≤ at + 1) (sym (is_begins (ap waits (sym (run-is state marked next is)) ∙ w))) (start-low run type pending at low);
      };
      read = λ sos old given. let read = c.loop-at.invariant.read sos old given in
          rw (c.mark_type-marked.ensures.before, run-is state marked next is, strong-is state marked next is) (
          types-next sos old current c.loop-at.before strong run pending at read L inside marked type value filled
          c.mark_type-marked.ensures.marked refl is_value size after
          (front-next run type current filled start at value read.waiting completed kept)
          later (starts-next run type start begins at begun stays));
    }
