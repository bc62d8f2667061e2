use Rattle.std.proofs.Common.{◌≡◌, ◌∙◌, List, OnOk, length, ap, subst, sym, None}
use Rattle.lines.specs.Buffers.{held_lines}
use Rattle.lines.specs.CharInfos.{infos_of}
use Rattle.lines.specs.Extents.{LineExtents, shown_from}
use Rattle.lines.specs.Paragraphs.{lines_at}
use Rattle.lines.specs.ShownParts.{margin_of}
use Rattle.lines.specs.Showing.{lines_shown}
use Rattle.lines.specs.Visual.{Line, lines_from}
use Rattle.lines.proofs.WrittenLemmas.{shown_lines}
use Rattle.lines.proofs.layout.show_one_line.Goals as goal

pub show_lines-requires-clause-shown : goal.show_lines-requires-clause-shown
show_lines-requires-clause-shown c =
    let text = c.args.paragraph.now.text in
    let options = text.rules.options in
    let margin = margin_of options c.args._width in
    let infos = infos_of text.rules.tables.now options None text.characters.now in
    let put = c.put_line.ensures in (
      margin,
      infos,
      ap (λ (e : LineExtents). e.shown) put ∙ sym c.requires.shown.shown
          ∙ ap (shown_from margin (length text.characters.now) infos) (sym (ap (λ (e : LineExtents). e.starts) put)),
    )

pub returns-clause-lines : goal.returns-clause-lines
returns-clause-lines c =
    let text = c.args.paragraph.now.text in
    let levels = c.args.paragraph.now.levels.now in
    let tables = text.rules.tables.now in
    let options = text.rules.options in
    let chars = text.characters.now in
    let margin = margin_of options c.args._width in
    let infos = infos_of tables options None chars in
    let starts = c.put_line.new.self.starts in
    let put = c.put_line.ensures in
    let starts_are = ap (λ (e : LineExtents). e.starts) put in
    let shown = ap (λ (e : LineExtents). e.shown) put ∙ sym c.requires.shown.shown
    ∙ ap (shown_from margin (length chars) infos) (sym starts_are) in
    let lines : lines_shown tables options text.base chars levels starts c.put_line.new.self.shown ≡ lines_at None text levels c.args._width =
    ap (lines_shown tables options text.base chars levels starts) shown ∙ shown_lines tables options text.base chars levels margin infos starts
    ∙ ap (lines_from tables options margin text.base chars levels infos) (starts_are ∙ sym c.requires.shown.starts) in
    subst (λ (ls : List Line). OnOk c.show_lines.result (held_lines c.show_lines.new.lines ≡ ls)) lines c.show_lines.ensures.lines
