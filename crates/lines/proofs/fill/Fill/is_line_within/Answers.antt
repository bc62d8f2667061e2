use Rattle.std.proofs.Common.{length, take, drop, ap, sym, ◌∙◌}
use Rattle.lines.specs.Layouts.{is_line_within, Filled}
use Rattle.lines.proofs.KeptLemmas.{not_one}
use Rattle.lines.proofs.fill.Fill.is_line_within.Goals as goal

pub returns-then-starts-ne1 : goal.returns-then-starts-ne1
returns-then-starts-ne1 c =
    let f = c.self.inside in
    let ltov = take (length f.levels.items) f.maps.items in
    let vtol = drop (length f.levels.items) f.maps.items in
    not_one f.levels.items ltov vtol f.chars.items c.args.width f.extents.starts f.extents.shown c.self.invariant.all_shown
    (λ e. c.if-starts-ne1.true (ap length c.starts.ensures ∙ sym c.self.invariant.all_shown ∙ e))
    ∙ ap (λ (f : Filled). is_line_within c.args.width f.lines) c.self.view_is
