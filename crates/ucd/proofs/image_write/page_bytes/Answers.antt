use Rattle.ucd.specs.LineSeparators.{answers_by}
use Rattle.ucd.specs.Pages.{answers_at}
use Rattle.ucd.proofs.ImageMade.{are_pages}
use Rattle.ucd.proofs.LineLemmas.{entry_if}
use Rattle.ucd.proofs.PageLemmas.{valid_points}
use Rattle.ucd.proofs.image_write.page_bytes.Goals as goal

pub returns : goal.returns
returns c = λ version all.
    are_pages version (answers_by c.args.separates c.args.pages.now.index.items c.args.pages.now.entries.items) c.in_ok-points.points.items
    c.in_ok-pages.pages.index.items c.in_ok-pages.pages.entries.items c.in_ok-index.index.items c.in_ok-entries.entries.items
    c.in_ok-points.ensures.each (rw c.deref.ensures.value at c.in_ok-pages.ensures.pages) c.in_ok-pages.ensures.distinct
    (rw c.deref-2.ensures.value at c.in_ok-index.ensures.len) (rw c.deref-2.ensures.value at c.in_ok-index.ensures.each)
    (rw c.deref-3.ensures.value at c.in_ok-entries.ensures.len) ((rw c.deref-3.ensures.value at c.in_ok-entries.ensures.valid) version
    (c.in_ok-pages.ensures.valid version (rw c.deref.ensures.value (valid_points version c.in_ok-points.points.items
    (answers_by c.args.separates c.args.pages.now.index.items c.args.pages.now.entries.items) c.in_ok-points.ensures.len c.in_ok-points.ensures.each
    (λ x lt. entry_if c.args.separates version x (answers_at c.args.pages.now.index.items c.args.pages.now.entries.items x) (all x lt))))))
    (rw c.deref-3.ensures.value at c.in_ok-entries.ensures.each)
