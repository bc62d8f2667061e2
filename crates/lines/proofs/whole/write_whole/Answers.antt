use Rattle.std.proofs.Common.{◌∙◌, Bool, true, IfErr, IfOk, List, ℕ, ap, subst}
use Rattle.lines.specs.Asked.{visual_shown}
use Rattle.lines.specs.Bytes.{line_bytes}
use Rattle.lines.specs.Writing.{PassedOn, StoppedIn}
use Rattle.lines.proofs.WholeLemmas.{whole_bytes}
use Rattle.lines.proofs.whole.write_whole.Goals as goal

pub returns-clause-ok : goal.returns-clause-ok
returns-clause-ok g c =
    let text = c.args.text.now in
    let options = text.rules.options in
    let form = c.args.form.now in
    let same = ap (λ (es : List Bool). line_bytes form.width form.print.now (visual_shown text.rules.tables.now options text.base true text.characters.now es c.args.levels.now
    (record { len = c.shown_len.result; columns = 0 }))) c.requires.ends
    ∙ whole_bytes text.rules.tables.now options text.base form.width form.print.now text.characters.now c.args.levels.now _
    c.requires.unseen c.requires.nobreak c.requires.hidden c.requires.tabs c.requires.some c.requires.levels c.marks_are_as_many.ensures c.requires.whole c.shown_len.ensures in
    subst (λ (bytes : List ℕ). IfOk c.write_line.result (λ n. PassedOn bytes 0 (g.W.Sink.state c.args.writer.now) (g.W.Sink.state c.write_line.new.writer) n))
    same c.write_line.ensures.ok

pub returns-clause-err : goal.returns-clause-err
returns-clause-err g c =
    let text = c.args.text.now in
    let options = text.rules.options in
    let form = c.args.form.now in
    let same = ap (λ (es : List Bool). line_bytes form.width form.print.now (visual_shown text.rules.tables.now options text.base true text.characters.now es c.args.levels.now
    (record { len = c.shown_len.result; columns = 0 }))) c.requires.ends
    ∙ whole_bytes text.rules.tables.now options text.base form.width form.print.now text.characters.now c.args.levels.now _
    c.requires.unseen c.requires.nobreak c.requires.hidden c.requires.tabs c.requires.some c.requires.levels c.marks_are_as_many.ensures c.requires.whole c.shown_len.ensures in
    subst (λ (bytes : List ℕ). IfErr c.write_line.result (λ fault. StoppedIn bytes 0 (g.W.Sink.state c.args.writer.now) (g.W.Sink.state c.write_line.new.writer) fault.written))
    same c.write_line.ensures.err
