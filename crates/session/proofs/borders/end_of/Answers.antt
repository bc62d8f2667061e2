use Rattle.std.proofs.Common.{arith}
use Rattle.session.proofs.BorderLemmas.{chars_through, lines_through, IsBorder-next}
use Rattle.session.proofs.borders.end_of.Goals as goal

pub overflow_add-result-2 : goal.overflow_add-result-2
overflow_add-result-2 g c =
    let most = chars_through (g.S.ParagraphStore.items c.args.store.now) c.args.start c.args.kept.now c.requires.start c.requires.kept in
    omega (arith, most, c.chars.ensures, c.total_chars-chars.ensures, c.total_chars-chars.type_inv)

pub overflow_add-result-3 : goal.overflow_add-result-3
overflow_add-result-3 g c =
    let most = lines_through (g.S.ParagraphStore.items c.args.store.now) c.args.start c.args.kept.now c.requires.start c.requires.kept in
    omega (arith, most, c.lines.ensures, c.total_lines-lines.ensures, c.total_lines-lines.type_inv)

pub returns-clause-end : goal.returns-clause-end
returns-clause-end g c =
    rw (c.chars.ensures, c.lines.ensures)
    (IsBorder-next (g.S.ParagraphStore.items c.args.store.now) c.args.start c.args.kept.now c.requires.start c.requires.kept)
