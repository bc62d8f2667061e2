use Rattle.std.proofs.Common.{◌≡◌, ◌∙◌, ◌++◌, length, take, drop, ap, arith}
use Rattle.std.proofs.lemmas.List.{append-nil, take_all, drop_all}
use Rattle.ucd.specs.JoiningPages.{merged_at}
use Rattle.ucd.proofs.JoiningPageLemmas.{pages_more}
use Rattle.ucd.proofs.joining_pages.joining_pages.Goals as goal

pub loop-place-preserved : goal.loop-place-preserved
loop-place-preserved c =
    let before = c.loop-place.invariant in
    let page = c.fill.new.page in
    let items = c.loop-place.page.items in
    let len : length page ≡ 256 = c.fill.ensures.len in
    let is : take c.loop-place.page.len (page ++ drop (length page) items) ≡ page =
    rw (drop_all (length page) items (omega (arith, len, before.page)), append-nil page)
    (take_all c.loop-place.page.len page (omega (arith, len, before.page, c.deref_mut.ensures.len, ap length c.deref_mut.ensures.value))) in
    record {
      pages = rw c.in_ok-push.ensures.items (pages_more (merged_at c.args.shaping_types.now c.args.data_types.now) c.loop-place.entries.items c.page_number.new.entries.items
          c.deref.result.now c.loop-place.index.items c.loop-place.place c.in_ok-number.number before.pages c.in_ok-number.ensures
          (λ k lt. rw (c.deref.ensures.value, is) (c.fill.ensures.page k lt)));
      page = ap length is ∙ len;
    }
