use Rattle.std.proofs.Common.{length, sym, arith}
use Rattle.std.proofs.lemmas.Bool.{le-leb, lt-leb}
use Rattle.session.proofs.PlaceLemmas.{first_line_is, no_first_line}
use Rattle.session.proofs.places.paragraph_first_line.Goals as goal

pub returns-then-index-count-clause-line : goal.returns-then-index-count-clause-line
returns-then-index-count-clause-line g c =
    no_first_line (g.S.ParagraphStore.items c.args.store.now) c.args.index (omega (arith, c.if-index-count.true, c.count.ensures))

pub returns-then-index-count-clause-none : goal.returns-then-index-count-clause-none
returns-then-index-count-clause-none g c =
    sym (le-leb (length (g.S.ParagraphStore.items c.args.store.now)) c.args.index (omega (arith, c.if-index-count.true, c.count.ensures)))

pub returns-clause-line : goal.returns-clause-line
returns-clause-line g c =
    first_line_is (g.S.ParagraphStore.items c.args.store.now) c.args.index c.find_item.result.lines_before
    (omega (arith, c.if-index-count.false, c.count.ensures)) c.find_item.ensures.found.lines_before

pub returns-clause-none : goal.returns-clause-none
returns-clause-none g c =
    sym (lt-leb (length (g.S.ParagraphStore.items c.args.store.now)) c.args.index (omega (arith, c.if-index-count.false, c.count.ensures)))
