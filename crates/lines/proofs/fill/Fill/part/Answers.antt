use Rattle.std.proofs.Common.{◌≡◌, ◌∙◌, ◌<◌, arith, ap, ap₂, length, take, drop, slice_get, slice_index, sym, Some}
use Rattle.std.proofs.lemmas.Option.{slice_get_past}
use Rattle.ucd.specs.Within.{AreWithin}
use Rattle.lines.specs.Kept.{line_in, lines_in}
use Rattle.lines.specs.Layouts.{Filled}
use Rattle.lines.specs.Parts.{line_of}
use Rattle.lines.specs.Showing.{nothing_shown}
use Rattle.lines.proofs.KeptLemmas.{holds_at, length-lines, line_at}
use Rattle.lines.proofs.fill.Fill.part.Goals as goal

pub returns-then-n-starts-clause-line : goal.returns-then-n-starts-clause-line
returns-then-n-starts-clause-line c =
    let f = c.self.inside in
    let ltov = take (length f.levels.items) f.maps.items in
    let vtol = drop (length f.levels.items) f.maps.items in
    sym (ap (λ (f : Filled). slice_get f.lines c.args.n) (sym c.self.view_is)
    ∙ slice_get_past (lines_in f.extents.starts f.extents.shown f.levels.items f.maps.items f.chars.items) c.args.n
    (omega (arith, length-lines f.levels.items ltov vtol f.chars.items f.extents.starts f.extents.shown c.self.invariant.all_shown, c.if-n-starts.true, ap length c.starts-starts.ensures)))

pub returns-clause-line : goal.returns-clause-line
returns-clause-line c =
    let f = c.self.inside in
    let ltov = take (length f.levels.items) f.maps.items in
    let vtol = drop (length f.levels.items) f.maps.items in
    let within : c.args.n < length f.extents.starts = omega (arith, c.if-n-starts.false, ap length c.starts-starts.ensures) in
    let count : c.len.result ≡ length f.levels.items = omega (arith, c.len.ensures) in
    let front : c.split_at.result.0.now ≡ ltov = c.split_at.ensures.front ∙ ap₂ take count c.deref.ensures.value in
    let back : c.split_at.result.1.now ≡ vtol = c.split_at.ensures.back ∙ ap₂ drop count c.deref.ensures.value in
    let start = slice_index c.starts-starts.result.now c.args.n in
    let kept : line_of c.part_of.result ≡ line_in f.levels.items ltov vtol f.chars.items start c.shown.result =
    rw (← front, ← back, ← c.deref-2.ensures.value, ← c.deref-3.ensures.value) c.part_of.ensures.line in
    ap Some (kept
    ∙ ap₂ (line_in f.levels.items ltov vtol f.chars.items) (ap (λ ss. slice_index ss c.args.n) c.starts-starts.ensures) c.shown.ensures)
    ∙ sym (line_at f.levels.items ltov vtol f.chars.items f.extents.starts f.extents.shown c.args.n nothing_shown c.self.invariant.all_shown within)
    ∙ ap (λ (f : Filled). slice_get f.lines c.args.n) c.self.view_is

pub returns-clause-within : goal.returns-clause-within
returns-clause-within c =
    let f = c.self.inside in
    holds_at (λ line. AreWithin (length line.levels) line.vtol) (lines_in f.extents.starts f.extents.shown f.levels.items f.maps.items f.chars.items) c.args.n
    (line_of c.part_of.result) c.self.invariant.places
    (ap (λ (f : Filled). slice_get f.lines c.args.n) c.self.view_is ∙ sym (returns-clause-line c))
