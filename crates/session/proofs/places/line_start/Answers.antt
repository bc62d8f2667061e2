use Rattle.std.proofs.Common.{sym, ap, length, Some, ◌+◌, ◌∙◌, arith, get_or}
use Rattle.std.proofs.lemmas.Option.{slice_get_past}
use Rattle.lines.specs.Layouts.{Layout, start_of as begins}
use Rattle.std.specs.Prelude.{map}
use Rattle.session.specs.Places.{line_starts}
use Rattle.session.proofs.BorderLemmas.{length-lines, lines_of, found_some}
use Rattle.session.proofs.PlaceLemmas.{length-lines_from, before_within, rest_within, start_read}
use Rattle.session.proofs.places.line_start.Goals as goal

pub returns-then-n-total_lines-clause-start : goal.returns-then-n-total_lines-clause-start
returns-then-n-total_lines-clause-start g c =
    let kept = g.S.ParagraphStore.items c.args.store.now in
    sym (slice_get_past (line_starts kept) c.args.n (omega (arith, c.if-n-total_lines.true, c.total_lines.ensures, length-lines_from 0 kept, length-lines kept)))

pub start_of_nth-start-requires : goal.start_of_nth-start-requires
start_of_nth-start-requires g c =
    let within = rest_within (g.S.ParagraphStore.items c.args.store.now) c.args.n c.find_line-found.result c.find_line-found.ensures.found c.in-Some.kept.now c.in-Some.ensures in
    omega (arith, within, ap length (c.line_starts.ensures ∙ ap (λ (l : Layout). map begins l.lines) c.laid.ensures))

pub overflow_add-result : goal.overflow_add-result
overflow_add-result g c =
    let kept = g.S.ParagraphStore.items c.args.store.now in
    omega (arith, c.requires, before_within kept c.args.n c.find_line-found.result c.find_line-found.ensures.found, c.start_of_nth-start.ensures.fits)

pub unreachable-requires : goal.unreachable-requires
unreachable-requires g c = found_some lines_of (g.S.ParagraphStore.items c.args.store.now) c.args.n c.find_line-found.result c.find_line-found.ensures.found c.in-None.ensures

pub returns-clause-start : goal.returns-clause-start
returns-clause-start g c =
    let kept = g.S.ParagraphStore.items c.args.store.now in
    let read = start_read kept c.args.n c.find_line-found.result c.find_line-found.ensures.found c.in-Some.kept.now c.in-Some.ensures in
    let starts = c.line_starts.ensures ∙ ap (λ (l : Layout). map begins l.lines) c.laid.ensures in
    ap (λ m. Some (c.find_line-found.result.chars_before + m)) (c.start_of_nth-start.ensures.start ∙ ap (λ ss. get_or ss c.find_line-found.result.rest 0) starts) ∙ sym read

pub returns-clause-fits : goal.returns-clause-fits
returns-clause-fits g c =
    let kept = g.S.ParagraphStore.items c.args.store.now in
    omega (arith, c.requires, before_within kept c.args.n c.find_line-found.result c.find_line-found.ensures.found, c.start_of_nth-start.ensures.fits)
