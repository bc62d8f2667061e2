use Rattle.std.proofs.Common.{◌≡◌, ◌-◌, ℕ, List, refl, subst, arith, None}
use Rattle.device.specs.Device.{StoppedAt, Wrote}
use Rattle.lines.specs.Filling.{line_starts_of}
use Rattle.lines.specs.Pages.{paragraph_bytes}
use Rattle.lines.specs.Paragraphs.{rules_in}
use Rattle.lines.specs.CharInfos.{infos_of}
use Rattle.lines.proofs.WrittenLemmas.{page_is}
use Rattle.lines.proofs.printing.write_one_line.Goals as goal

pub returns-in-Ok-write_whole-clause-ok : goal.returns-in-Ok-write_whole-clause-ok
returns-in-Ok-write_whole-clause-ok g c =
    let text = c.args.text.now in
    let rules = rules_in text.rules in
    let form = c.args.form.now in
    let starts = line_starts_of rules.options.nobreak form.width (infos_of rules.tables rules.options None text.characters.now) in
    let same = page_is rules form.width form.print.now text.characters.now text.base c.args.levels.now starts c.requires.text.base c.requires.text.levels_are refl in
    subst (λ (bytes : List ℕ). Wrote bytes (g.W.Sink.state c.args.writer.now) (g.W.Sink.state c.write_whole.new.writer)) same
    c.in-Ok-write_whole.ensures.ok.wrote

pub returns-in-Err-clause-err : goal.returns-in-Err-clause-err
returns-in-Err-clause-err g c =
    let text = c.args.text.now in
    let rules = rules_in text.rules in
    let form = c.args.form.now in
    let starts = line_starts_of rules.options.nobreak form.width (infos_of rules.tables rules.options None text.characters.now) in
    let same = page_is rules form.width form.print.now text.characters.now text.base c.args.levels.now starts c.requires.text.base c.requires.text.levels_are refl in
    let all : c.in-Err.fault.written - 0 ≡ c.in-Err.fault.written = omega arith in
    subst (λ (n : ℕ). StoppedAt n (paragraph_bytes rules form.width form.print.now text.characters.now) (g.W.Sink.state c.args.writer.now) (g.W.Sink.state c.write_whole.new.writer)) all
    (subst (λ (bytes : List ℕ). StoppedAt (c.in-Err.fault.written - 0) bytes (g.W.Sink.state c.args.writer.now) (g.W.Sink.state c.write_whole.new.writer)) same
    c.in-Err.ensures.err.stopped)
