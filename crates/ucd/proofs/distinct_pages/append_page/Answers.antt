use Rattle.std.proofs.Common.{arith}
use Rattle.ucd.proofs.PageLemmas.{has_next}
use Rattle.ucd.proofs.distinct_pages.append_page.Goals as goal

pub returns-clause-page : goal.returns-clause-page
returns-clause-page c =
    rw c.in_ok-extend_from_slice.ensures.items (has_next c.args.entries.now.items c.args.page.now c.len-end.result (omega (arith, c.len-end.ensures)) c.requires.whole c.requires.page)
