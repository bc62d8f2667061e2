use Rattle.std.proofs.lemmas.Result.{on_ok_weaker}
use Rattle.ucd.proofs.PageLemmas.{has_among, distinct_next}
use Rattle.ucd.proofs.distinct_pages.number_of.Goals as goal

pub returns-in-Some-clause-page : goal.returns-in-Some-clause-page
returns-in-Some-clause-page c =
    let is = rw c.deref.ensures.value at c.in-Some.ensures in
    has_among c.args.entries.now.items c.args.page.now c.in-Some.number c.requires.whole is.0 is.1

pub returns-in-None-clause-distinct : goal.returns-in-None-clause-distinct
returns-in-None-clause-distinct c =
    on_ok_weaker c.append_page.result (λ items. rw items (distinct_next c.args.entries.now.items c.args.page.now c.requires.whole c.requires.page
    (rw c.deref.ensures.value at c.in-None.ensures))) c.append_page.ensures.items
