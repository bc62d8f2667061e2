use Rattle.std.proofs.Common.{◌≡◌, ◌+◌, ◌-◌, ◌*◌, ◌++◌, length, take, drop, get_or, sym, ◌∙◌, ap, subst, arith}
use Rattle.std.proofs.lemmas.List.{append-nil, take_all, drop_all, get_or_default}
use Rattle.ucd.specs.Runs.{ReachesTo}
use Rattle.ucd.specs.Said.{said, layers_of}
use Rattle.ucd.proofs.PageLemmas.{pages_more, pages_again}
use Rattle.ucd.proofs.pages.pages_of.Goals as goal

pub loop-place-preserved-then-start-run : goal.loop-place-preserved-then-start-run
loop-place-preserved-then-start-run c =
    let before = c.loop-place.invariant in
    let start = c.loop-place.place * 256 in
    let begin : c.run-run.result.start ≡ c.loop-place.runs.run.start = ap (λ r. r.start) c.run-run.ensures in
    let end : c.run-run.result.end ≡ c.loop-place.runs.run.end = ap (λ r. r.end) c.run-run.ensures in
    let number : c.index-number.result.now ≡ get_or c.loop-place.index.items (c.loop-place.place - 1) 0 =
    c.index-number.ensures ∙ get_or_default c.loop-place.index.items (c.loop-place.place - 1) c.index-number.result.now 0 (omega (arith, begin, before.pages.places)) in
    record {
      pages = rw c.in_ok-push.ensures.items (pages_again (said (layers_of c.args.version c.args.entries.now)) c.loop-place.pages.items c.loop-place.index.items
          c.loop-place.place _ before.pages (omega (arith, begin)) number
          (λ k lt. before.reaches.run (start - 256 + k) (omega (arith, begin)) (omega (arith, end)) ∙ sym (before.reaches.run (start + k) (omega (arith, begin)) (omega (arith, end)))));
      reaches = record { from = omega (arith, begin); to = omega (arith, end); within = before.reaches.within; run = before.reaches.run; later = before.reaches.later };
      page = before.page;
    }

pub loop-place-preserved : goal.loop-place-preserved
loop-place-preserved c =
    let before = c.loop-place.invariant in
    let k = layers_of c.args.version c.args.entries.now in
    let start = c.loop-place.place * 256 in
    let page = c.fill-runs.new.page in
    let items = c.loop-place.page.items in
    let len : length page ≡ 256 = c.fill-runs.auto.page ∙ ap length c.deref_mut.ensures.value ∙ before.page in
    let is : take c.loop-place.page.len (page ++ drop (length page) items) ≡ page =
    rw (drop_all (length page) items (omega (arith, len, before.page)), append-nil page)
    (take_all c.loop-place.page.len page (omega (arith, len, before.page, c.deref_mut.ensures.len, ap length c.deref_mut.ensures.value))) in
    record {
      pages = rw c.in_ok-push-2.ensures.items (pages_more (said k) c.loop-place.pages.items c.page_number.new.entries.items c.deref.result.now c.loop-place.index.items
          c.loop-place.place c.in_ok-number.number before.pages c.in_ok-number.ensures.page
          (λ i lt. rw (c.deref.ensures.value, is) (c.fill-runs.ensures.page k before.reaches i lt)));
      reaches = subst (ReachesTo k c.fill-runs.result) {x = start + 256} (omega arith) (c.fill-runs.ensures.reaches k before.reaches);
      page = ap length is ∙ len;
    }
