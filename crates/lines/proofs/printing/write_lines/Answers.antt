use Rattle.std.proofs.Common.{◌≡◌, ◌-◌, ◌∙◌, ℕ, List, ap, subst, arith, None}
use Rattle.device.specs.Device.{StoppedAt, Wrote}
use Rattle.lines.specs.CharInfos.{infos_of}
use Rattle.lines.specs.Pages.{lines_bytes, paragraph_bytes}
use Rattle.lines.specs.Paragraphs.{rules_in}
use Rattle.lines.specs.ShownParts.{margin_of}
use Rattle.lines.specs.Showing.{lines_shown}
use Rattle.lines.specs.Tabs.{tab_width_in}
use Rattle.lines.proofs.WrittenLemmas.{page_is, shown_lines}
use Rattle.lines.proofs.printing.write_lines.Goals as goal

pub returns-in-Ok-clause-ok : goal.returns-in-Ok-clause-ok
returns-in-Ok-clause-ok g c =
    let text = c.args.text.now in
    let rules = rules_in text.rules in
    let chars = text.characters.now in
    let levels = c.args.levels.now in
    let starts = c.args.lines.now.extents.starts in
    let form = c.args.form.now in
    let lines = lines_shown rules.tables rules.options text.base chars levels in
    let found = ap (lines starts) c.requires.spans.shown
    ∙ shown_lines rules.tables rules.options text.base chars levels (margin_of rules.options form.width) (infos_of rules.tables rules.options None chars) starts in
    let same = ap (lines_bytes form.width form.print.now text.base (tab_width_in rules.tables rules.options) None chars) found
    ∙ page_is rules form.width form.print.now chars text.base levels starts c.requires.text.base c.requires.text.levels_are c.requires.spans.starts in
    subst (λ (bytes : List ℕ). Wrote bytes (g.W.Sink.state c.args.writer.now) (g.W.Sink.state c.write_each.new.writer)) same
    c.in-Ok.ensures.ok.wrote

pub returns-in-Err-clause-err : goal.returns-in-Err-clause-err
returns-in-Err-clause-err g c =
    let text = c.args.text.now in
    let rules = rules_in text.rules in
    let chars = text.characters.now in
    let levels = c.args.levels.now in
    let starts = c.args.lines.now.extents.starts in
    let form = c.args.form.now in
    let lines = lines_shown rules.tables rules.options text.base chars levels in
    let found = ap (lines starts) c.requires.spans.shown
    ∙ shown_lines rules.tables rules.options text.base chars levels (margin_of rules.options form.width) (infos_of rules.tables rules.options None chars) starts in
    let same = ap (lines_bytes form.width form.print.now text.base (tab_width_in rules.tables rules.options) None chars) found
    ∙ page_is rules form.width form.print.now chars text.base levels starts c.requires.text.base c.requires.text.levels_are c.requires.spans.starts in
    let all : c.in-Err.fault.written - 0 ≡ c.in-Err.fault.written = omega arith in
    subst (λ (n : ℕ). StoppedAt n (paragraph_bytes rules form.width form.print.now chars) (g.W.Sink.state c.args.writer.now) (g.W.Sink.state c.write_each.new.writer)) all
    (subst (λ (bytes : List ℕ). StoppedAt (c.in-Err.fault.written - 0) bytes (g.W.Sink.state c.args.writer.now) (g.W.Sink.state c.write_each.new.writer)) same
    c.in-Err.ensures.err.stopped)
