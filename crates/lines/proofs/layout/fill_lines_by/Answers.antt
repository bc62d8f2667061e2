use Rattle.std.proofs.Common.{◌≡◌, ◌∙◌, List, OnOk, length, ap, subst}
use Rattle.lines.specs.Bare.{with_ends}
use Rattle.lines.specs.Buffers.{held_lines}
use Rattle.lines.specs.CharInfos.{infos_of, sized}
use Rattle.lines.specs.Clusters.{cluster_ends}
use Rattle.lines.specs.Extents.{shown_from}
use Rattle.lines.specs.Filling.{line_starts_of}
use Rattle.lines.specs.Paragraphs.{advances_in, lines_at}
use Rattle.lines.specs.ShownParts.{margin_of}
use Rattle.lines.specs.Showing.{lines_shown}
use Rattle.lines.specs.Visual.{Line, lines_from}
use Rattle.lines.proofs.SizedLemmas.{sized_infos}
use Rattle.lines.proofs.WrittenLemmas.{shown_lines}
use Rattle.lines.proofs.layout.fill_lines_by.Goals as goal

-- the shown parts are computed from the `CharInfo`s with the cluster ends
pub show_lines-requires-clause-shown : goal.show_lines-requires-clause-shown
show_lines-requires-clause-shown c = (
  margin_of c.args.paragraph.now.text.rules.options c.args.width,
  sized (advances_in c.args.paragraph.now) (with_ends c.args.infos.now (cluster_ends c.args.paragraph.now.text.characters.now)),
  c.in_ok-find.ensures.shown,
)

pub returns-clause-lines : goal.returns-clause-lines
returns-clause-lines c =
    let text = c.args.paragraph.now.text in
    let levels = c.args.paragraph.now.levels.now in
    let tables = text.rules.tables.now in
    let options = text.rules.options in
    let chars = text.characters.now in
    let margin = margin_of options c.args.width in
    let advances = advances_in c.args.paragraph.now in
    let infos = infos_of tables options advances chars in
    let are = ap (sized advances) c.requires.infos ∙ sized_infos tables options advances chars in
    let starts = c.find.new.self.starts in
    let shown = c.in_ok-find.ensures.shown ∙ ap (λ is. shown_from margin (length chars) is starts) are in
    let starts_are = c.in_ok-find.ensures.starts ∙ ap (line_starts_of options.nobreak c.args.width) are in
    let lines : lines_shown tables options text.base chars levels starts c.find.new.self.shown ≡ lines_at advances text levels c.args.width =
    ap (lines_shown tables options text.base chars levels starts) shown ∙ shown_lines tables options text.base chars levels margin infos starts
    ∙ ap (lines_from tables options margin text.base chars levels infos) starts_are in
    subst (λ (ls : List Line). OnOk c.show_lines.result (held_lines c.show_lines.new.lines ≡ ls)) lines c.show_lines.ensures.lines
