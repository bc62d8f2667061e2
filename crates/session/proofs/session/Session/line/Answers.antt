use Rattle.std.proofs.Common.{sym, ap, slice_get, ◌∙◌}
use Rattle.lines.specs.Layouts.{Layout, visuals}
use Rattle.session.proofs.BorderLemmas.{length-lines, lines_of, found_some}
use Rattle.session.proofs.LineLemmas.{line_read, line_past}
use Rattle.session.proofs.session.Session.line.Goals as goal

pub returns-then-n-total_lines : goal.returns-then-n-total_lines
returns-then-n-total_lines g c =
    rw (← c.self.view_is) (line_past (g.S.ParagraphStore.items c.self.inside.store) c.args.n c.total_lines.result
    (c.total_lines.ensures ∙ sym (length-lines (g.S.ParagraphStore.items c.self.inside.store)))
    c.if-n-total_lines.true)

pub returns-in-Some : goal.returns-in-Some
returns-in-Some g c =
    let kept = g.S.ParagraphStore.items c.self.inside.store in
    let read = line_read kept c.args.n c.find_line-found.result c.find_line-found.ensures.found c.in-Some.kept.now c.in-Some.ensures in
    rw (← c.self.view_is) (c.line.ensures.nth ∙ ap (λ (l : Layout). slice_get (visuals l) c.find_line-found.result.rest) c.laid.ensures ∙ sym read)

pub returns-in-None : goal.returns-in-None
returns-in-None g c = absurd (found_some lines_of (g.S.ParagraphStore.items c.self.inside.store) c.args.n c.find_line-found.result c.find_line-found.ensures.found c.in-None.ensures)
