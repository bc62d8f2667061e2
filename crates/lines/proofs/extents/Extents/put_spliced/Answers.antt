use Rattle.std.proofs.Common.{◌≡◌, ◌∙◌, ◌+◌, ◌++◌, OnOk, ap, drop, length, map, slice_range, take}
use Rattle.std.proofs.lemmas.List.{take_rest}
use Rattle.std.proofs.lemmas.Result.{on_ok_weaker}
use Rattle.lines.specs.Extents.{in_pairs}
use Rattle.lines.specs.Spliced.{spliced_shown, spliced_starts}
use Rattle.lines.specs.Splicing.{moved_start}
use Rattle.lines.proofs.ExtentLemmas.{parts_in, starts_in}
use Rattle.lines.proofs.SplicedExtents.{items_are, length-spliced_shown}
use Rattle.lines.proofs.extents.Extents.put_spliced.Goals as goal

all_put : (c : goal.After-push_shown-3) → OnOk c.push_shown-3.result (c.push_shown-3.new.list.items
    ≡ spliced_starts c.args.gap c.args.len c.args.old.now.starts c.args.window.now.starts ++ in_pairs (spliced_shown c.args.gap c.args.old.now.shown c.args.window.now.shown))
all_put c =
    let gap = c.args.gap in
    let old = c.args.old.now in
    let window = c.args.window.now in
    let starts = c.starts-starts.result.now in
    let between = c.starts-between.result.now in
    let line = c.min-line.result in
    let end_line = c.min-end_line.result in
    let front = c.in_ok-extend_from_slice.ensures.items ∙ ap (λ xs. xs ++ take line starts) (c.in_ok-reserve.ensures ∙ c.clear.ensures.items) in
    let moved = c.in_ok-push_starts.ensures ∙ ap (λ xs. xs ++ map (moved_start 0 gap.start) between) front in
    let moved_later : c.push_starts-2.new.list.items ≡ c.push_starts.new.list.items ++ map (moved_start gap.end (gap.start + c.args.len)) (slice_range starts end_line (length starts)) =
    c.in_ok-push_starts-2.ensures in
    let later = moved_later ∙ ap (λ xs. c.push_starts.new.list.items ++ map (moved_start gap.end (gap.start + c.args.len)) xs) (take_rest starts end_line) ∙ ap (λ xs. xs ++ map (moved_start gap.end (gap.start + c.args.len)) (drop end_line starts)) moved in
    let first = c.in_ok-push_shown.ensures ∙ ap (λ xs. xs ++ in_pairs (slice_range old.shown 0 line)) later in
    let second = c.in_ok-push_shown-2.ensures ∙ ap (λ xs. xs ++ in_pairs (slice_range window.shown 0 (length between))) first in
    let whole = ap (λ xs. xs ++ in_pairs (slice_range old.shown end_line (length starts))) second
    ∙ items_are gap c.args.len old.starts window.starts old.shown window.shown c.requires.old c.requires.window starts between line end_line
    c.starts-starts.ensures c.starts-between.ensures c.min-line.ensures c.min-end_line.ensures in
    on_ok_weaker c.push_shown-3.result (λ e. e ∙ whole) c.push_shown-3.ensures

pub returns-clause-starts : goal.returns-clause-starts
returns-clause-starts c =
    let same = length-spliced_shown c.args.gap c.args.len c.args.old.now.starts c.args.window.now.starts c.args.old.now.shown c.args.window.now.shown c.requires.old c.requires.window in
    on_ok_weaker c.push_shown-3.result (λ e. starts_in c.push_shown-3.new.list.items _ _ same e) (all_put c)

pub returns-clause-shown : goal.returns-clause-shown
returns-clause-shown c =
    let same = length-spliced_shown c.args.gap c.args.len c.args.old.now.starts c.args.window.now.starts c.args.old.now.shown c.args.window.now.shown c.requires.old c.requires.window in
    on_ok_weaker c.push_shown-3.result (λ e. parts_in c.push_shown-3.new.list.items _ _ same e) (all_put c)
