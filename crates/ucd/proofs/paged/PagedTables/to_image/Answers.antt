use Rattle.ucd.proofs.ImageMade.{is_image, pages_distinct}
use Rattle.ucd.proofs.paged.PagedTables.to_image.Goals as goal

pub returns-clause-image : goal.returns-clause-image
returns-clause-image c =
    let pages = c.self.inside.pages in
    rw (← c.self.view_is) (is_image c.args.separates c.self.inside.version pages.index.items pages.entries.items c.self.inside.brackets c.self.inside.mirrors c.self.invariant
    c.in_ok-pages.pages.index.items c.in_ok-pages.pages.entries.items c.in_ok-brackets.brackets.items c.in_ok-mirrors.mirrors.items c.in_ok-image.image.items
    (c.in_ok-pages.ensures c.self.inside.version c.self.invariant.entry) c.in_ok-brackets.ensures.points c.in_ok-brackets.ensures.values c.in_ok-mirrors.ensures.points c.in_ok-mirrors.ensures.values
    (rw (c.deref.ensures.value, c.deref-2.ensures.value, c.deref-3.ensures.value, c.deref-4.ensures.value) at c.in_ok-image.ensures))

pub returns-clause-distinct : goal.returns-clause-distinct
returns-clause-distinct c =
    let pages = c.self.inside.pages in
    pages_distinct c.args.separates c.self.inside.version pages.index.items pages.entries.items c.self.inside.brackets c.self.inside.mirrors c.self.invariant
    c.in_ok-pages.pages.index.items c.in_ok-pages.pages.entries.items c.in_ok-brackets.brackets.items c.in_ok-mirrors.mirrors.items c.in_ok-image.image.items
    (c.in_ok-pages.ensures c.self.inside.version c.self.invariant.entry) c.in_ok-brackets.ensures.points c.in_ok-brackets.ensures.values c.in_ok-mirrors.ensures.points c.in_ok-mirrors.ensures.values
    (rw (c.deref.ensures.value, c.deref-2.ensures.value, c.deref-3.ensures.value, c.deref-4.ensures.value) at c.in_ok-image.ensures)

pub joined-requires-clause-brackets : goal.joined-requires-clause-brackets
joined-requires-clause-brackets c = rw c.deref-3.ensures.value (c.in_ok-brackets.ensures.whole, c.in_ok-brackets.ensures.room)

pub joined-requires-clause-mirrors : goal.joined-requires-clause-mirrors
joined-requires-clause-mirrors c = rw c.deref-4.ensures.value (c.in_ok-mirrors.ensures.whole, c.in_ok-mirrors.ensures.room)

pub joined-requires-clause-index : goal.joined-requires-clause-index
joined-requires-clause-index c =
    let pages = c.in_ok-pages.ensures c.self.inside.version c.self.invariant.entry in
    rw c.deref.ensures.value pages.places

pub joined-requires-clause-pages : goal.joined-requires-clause-pages
joined-requires-clause-pages c =
    let pages = c.in_ok-pages.ensures c.self.inside.version c.self.invariant.entry in
    rw c.deref-2.ensures.value (pages.whole, pages.room)
