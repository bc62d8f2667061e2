use Rattle.std.proofs.Common.{length, sym, arith}
use Rattle.std.proofs.lemmas.Bool.{le-leb, lt-leb}
use Rattle.session.proofs.PlaceLemmas.{no_paragraph_start, paragraph_start_is}
use Rattle.session.proofs.places.paragraph_start.Goals as goal

pub returns-then-index-count-clause-start : goal.returns-then-index-count-clause-start
returns-then-index-count-clause-start g c =
    no_paragraph_start (g.S.ParagraphStore.items c.args.store.now) c.args.index (omega (arith, c.if-index-count.true, c.count.ensures))

pub returns-then-index-count-clause-none : goal.returns-then-index-count-clause-none
returns-then-index-count-clause-none g c =
    sym (le-leb (length (g.S.ParagraphStore.items c.args.store.now)) c.args.index (omega (arith, c.if-index-count.true, c.count.ensures)))

pub returns-clause-start : goal.returns-clause-start
returns-clause-start g c =
    paragraph_start_is (g.S.ParagraphStore.items c.args.store.now) c.args.index c.find_item.result.chars_before
    (omega (arith, c.if-index-count.false, c.count.ensures)) c.find_item.ensures.found.chars_before

pub returns-clause-none : goal.returns-clause-none
returns-clause-none g c =
    sym (lt-leb (length (g.S.ParagraphStore.items c.args.store.now)) c.args.index (omega (arith, c.if-index-count.false, c.count.ensures)))
