use Rattle.std.proofs.Common.{◌∙◌, ap, length, map, take, drop, sym}
use Rattle.lines.specs.Layouts.{start_of, Filled}
use Rattle.lines.proofs.KeptLemmas.{starts_of_lines}
use Rattle.lines.proofs.fill.Fill.starts.Goals as goal

pub returns : goal.returns
returns c =
    let f = c.self.inside in
    let ltov = take (length f.levels.items) f.maps.items in
    let vtol = drop (length f.levels.items) f.maps.items in
    c.starts.ensures
    ∙ sym (starts_of_lines f.levels.items ltov vtol f.chars.items f.extents.starts f.extents.shown c.self.invariant.all_shown)
    ∙ ap (λ (f : Filled). map start_of f.lines) c.self.view_is
