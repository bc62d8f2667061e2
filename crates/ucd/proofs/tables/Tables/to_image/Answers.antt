use Rattle.std.proofs.Common.{ap, option_map, subst, IfOk}
use Rattle.std.specs.Arc.{arc_value}
use Rattle.ucd.specs.Imaged.{IsImageOf}
use Rattle.ucd.specs.LineSeparators.{contents_if}
use Rattle.ucd.proofs.ContentLemmas.{image_if_joined}
use Rattle.ucd.proofs.tables.Tables.to_image.Goals as goal

pub returns-clause-image : goal.returns-clause-image
returns-clause-image c =
    let inside = c.self.inside in
    subst (λ t. IfOk c.to_image.result (λ image. IsImageOf image.items t)) c.self.view_is
    (image_if_joined (option_map arc_value inside.joining) (contents_if inside.separates_lines (arc_value inside.shared)) c.to_image.result
    (subst (λ t. IfOk c.to_image.result (λ image. IsImageOf image.items t))
    (ap (contents_if inside.separates_lines) c.deref.ensures) c.to_image.ensures.image))
