use Rattle.std.proofs.Common.{◌≡◌, length, map, take, drop, ap, sym, ◌∙◌}
use Rattle.lines.specs.Extents.{shown_in}
use Rattle.lines.specs.Kept.{lines_in}
use Rattle.lines.specs.Layouts.{start_of, Filled}
use Rattle.lines.specs.Showing.{nothing_shown}
use Rattle.lines.proofs.ExtentLemmas.{spans_as}
use Rattle.lines.proofs.KeptLemmas.{shown_of_lines, starts_of_lines}
use Rattle.lines.proofs.fill.Fill.extents.Goals as goal

pub returns : goal.returns
returns c =
    let f = c.self.inside in
    let ltov = take (length f.levels.items) f.maps.items in
    let vtol = drop (length f.levels.items) f.maps.items in
    let lines : lines_in f.extents.starts f.extents.shown f.levels.items f.maps.items f.chars.items ≡ c.args.self.now.lines =
    ap (λ (g : Filled). g.lines) c.self.view_is in
    spans_as _ _ _ _
    (sym (starts_of_lines f.levels.items ltov vtol f.chars.items f.extents.starts f.extents.shown c.self.invariant.all_shown) ∙ ap (map start_of) lines)
    (sym (shown_of_lines f.levels.items ltov vtol f.chars.items f.extents.starts f.extents.shown nothing_shown c.self.invariant.all_shown c.self.invariant.within)
    ∙ ap (map shown_in) lines)
