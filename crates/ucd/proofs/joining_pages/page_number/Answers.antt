use Rattle.std.proofs.Common.{◌≡◌, ◌-◌, ◌∙◌, length, take, drop, sym, arith}
use Rattle.std.proofs.lemmas.List.{take_all, length-drop}
use Rattle.ucd.proofs.JoiningPageLemmas.{has_last, has_next}
use Rattle.ucd.proofs.joining_pages.page_number.Goals as goal

pub returns-then-are_equal : goal.returns-then-are_equal
returns-then-are_equal c =
    let entries = c.args.entries.now.items in
    let start = c.len-end.result - 256 in
    let same : take (length entries - start) (drop start entries) ≡ c.args.page.now = rw c.deref.ensures.value at (c.are_equal.ensures c.if-are_equal.true) in
    has_last entries c.args.page.now c.len-end.result (omega (arith, c.len-end.ensures)) c.requires.whole c.if-end-ge-PAGE.true
    (sym (take_all (length entries - start) (drop start entries) (omega (arith, length-drop start entries))) ∙ same)

pub returns : goal.returns
returns c =
    rw c.in_ok-extend_from_slice.ensures.items (has_next c.args.entries.now.items c.args.page.now c.len-end.result (omega (arith, c.len-end.ensures)) c.requires.whole c.requires.page)
