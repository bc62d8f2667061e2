use Rattle.std.proofs.Common.{◌∙◌, ap, map, option_map, sym}
use Rattle.std.specs.Arc.{arc_value}
use Rattle.ucd.specs.Contents.{joined}
use Rattle.ucd.specs.LineSeparators.{contents_if, with_line_separators}
use Rattle.ucd.specs.Properties.{properties_of}
use Rattle.ucd.proofs.ContentLemmas.{properties_joined}
use Rattle.ucd.proofs.tables.Tables.look_up.Goals as goal

pub returns-then-self : goal.returns-then-self
returns-then-self c =
    let joining = option_map arc_value c.self.inside.joining in
    let t = arc_value c.self.inside.shared in
    let text = c.args.text.now in
    c.look_up_for_lines.ensures ∙ ap (λ u. map (properties_of (with_line_separators u)) text) c.deref.ensures
    ∙ ap (λ f. map f text) (sym (properties_joined joining (with_line_separators t)))
    ∙ ap (λ separates. map (properties_of (joined joining (contents_if separates t))) text) (sym c.if-self.true)
    ∙ ap (λ u. map (properties_of u) text) c.self.view_is

pub returns-else-self : goal.returns-else-self
returns-else-self c =
    let joining = option_map arc_value c.self.inside.joining in
    let t = arc_value c.self.inside.shared in
    let text = c.args.text.now in
    c.look_up.ensures ∙ ap (λ u. map (properties_of u) text) c.deref-else-self.ensures
    ∙ ap (λ f. map f text) (sym (properties_joined joining t))
    ∙ ap (λ separates. map (properties_of (joined joining (contents_if separates t))) text) (sym c.if-self.false)
    ∙ ap (λ u. map (properties_of u) text) c.self.view_is
