use Rattle.std.proofs.Common.{◌∙◌, slice_index, ap}
use Rattle.lines.specs.CharInfos.{sized}
use Rattle.lines.specs.Extents.{shown_between}
use Rattle.lines.proofs.SizedLemmas.{shown_range}
use Rattle.lines.proofs.shown_parts.shown_at.Goals as goal

pub returns : goal.returns
returns g c =
    shown_range c.args.margin (g.S.Sizes.given c.args.sizes) (g.S.Sizes.given c.from.result) c.args.infos.now (slice_index c.args.starts.now c.args.k) _ c.shown_of.result
    (c.from.ensures.sizes c.args.infos.now) c.shown_of.ensures.len c.shown_of.ensures.columns
    ∙ ap (shown_between c.args.margin (sized (g.S.Sizes.given c.args.sizes) c.args.infos.now) (slice_index c.args.starts.now c.args.k)) c.end_of-end.ensures.end
