use Rattle.std.proofs.Common.{◌≡◌, ◌∙◌, List, ℕ, if◌then◌else◌, length, IfErr, OnOk, ap, subst, sym}
use Rattle.device.specs.Device.{Wrote}
use Rattle.lines.specs.Pages.{paragraph_bytes}
use Rattle.breaks.specs.Marks.{marks_of}
use Rattle.lines.specs.Engine.{rules_of, analysed_of, filled_of, written_of, counted}
use Rattle.lines.specs.Layouts.{EngineState, Rules}
use Rattle.lines.specs.Printing.{FailedAs}
use Rattle.lines.proofs.SkippedLemmas.{direction_only, on_ok}
use Rattle.lines.proofs.engine.Engine.write_paragraph.Goals as goal

-- if no line is printed, nothing or only the base direction is written
pub returns-then-skips_lines-clause-ok : goal.returns-then-skips_lines-clause-ok
returns-then-skips_lines-clause-ok g c =
    let text = c.args.text.now in
    let print = c.args.print.now in
    let rules = rules_of c.args.self.now in
    let marks = subst (λ (e : EngineState). length (marks_of (rules_of e).tables (rules_of e).options.whole_numbers text) ≡ length text) c.self.view_is c.marks_are_as_many.ensures in
    let same = direction_only rules c.args.width print text (sym c.skips_lines.ensures ∙ c.if-skips_lines.true) c.requires.paragraph marks in
    subst (λ (bytes : List ℕ). OnOk c.write_base.result (Wrote bytes (g.W.Sink.state c.args.writer.now) (g.W.Sink.state c.write_base.new.writer))) same c.write_base.ensures.ok

pub returns-then-skips_lines-clause-err : goal.returns-then-skips_lines-clause-err
returns-then-skips_lines-clause-err g c =
    let text = c.args.text.now in
    let print = c.args.print.now in
    let rules = rules_of c.args.self.now in
    let marks = subst (λ (e : EngineState). length (marks_of (rules_of e).tables (rules_of e).options.whole_numbers text) ≡ length text) c.self.view_is c.marks_are_as_many.ensures in
    let same = direction_only rules c.args.width print text (sym c.skips_lines.ensures ∙ c.if-skips_lines.true) c.requires.paragraph marks in
    subst (λ (bytes : List ℕ). IfErr c.write_base.result (λ fault. FailedAs fault bytes (g.W.Sink.state c.args.writer.now) (g.W.Sink.state c.write_base.new.writer))) same c.write_base.ensures.err

pub returns-clause-ok : goal.returns-clause-ok
returns-clause-ok g c =
    subst (λ (rules : Rules). OnOk c.write.result (Wrote (paragraph_bytes rules c.args.width c.args.print.now c.args.text.now)
    (g.W.Sink.state c.args.writer.now) (g.W.Sink.state c.write.new.writer))) (ap rules_of c.self-2.view_is) c.write.ensures.ok

pub returns-clause-err : goal.returns-clause-err
returns-clause-err g c =
    subst (λ (rules : Rules). IfErr c.write.result (λ fault. FailedAs fault (paragraph_bytes rules c.args.width c.args.print.now c.args.text.now)
    (g.W.Sink.state c.args.writer.now) (g.W.Sink.state c.write.new.writer))) (ap rules_of c.self-2.view_is) c.write.ensures.err

pub returns-clause-counts : goal.returns-clause-counts
returns-clause-counts g c =
    let old = c.args.self.now in
    let n = length c.args.text.now in
    let skips = c.if-skips_lines.ensures in
    on_ok _ c.write.result (λ ok.
    let w = c.write.ensures.counts ok in
    record {
      analysed = w.analysed ∙ ap (λ (e : EngineState). counted (analysed_of e) n) c.self-2.view_is;
      filled = w.filled ∙ ap (λ (e : EngineState). counted (filled_of e) n) c.self-2.view_is
          ∙ ap (λ skips. if skips then filled_of old else counted (filled_of old) n) skips;
      written = w.written ∙ ap (λ (e : EngineState). counted (written_of e) n) c.self-2.view_is
          ∙ ap (λ skips. if skips then written_of old else counted (written_of old) n) skips;
    })
