use Rattle.std.proofs.Common.{ℕ, List, [], if◌then◌else◌, IfErr, rules, subst}
use Rattle.std.specs.Str.{chars}
use Rattle.device.specs.Device.{StoppedAt, Wrote}
use Rattle.lines.specs.Bytes.{direction_line}
use Rattle.lines.specs.Engine.{rules_of}
use Rattle.lines.proofs.SkippedLemmas.{direction_found}
use Rattle.lines.proofs.engine.Engine.write_base_direction.Goals as goal

pub returns-in_err-write_base-clause-err : goal.returns-in_err-write_base-clause-err
returns-in_err-write_base-clause-err g c = λ width.
    let print = c.args.print.now in
    let base = c.find_base_in_text-base in
    let stopped : IfErr c.from_residual.result (λ fault. StoppedAt fault.written (if print.basedir then direction_line base.result else [])
    (g.W.Sink.state c.args.writer.now) (g.W.Sink.state c.write_base.new.writer)) = search rules in
    subst (λ (bytes : List ℕ). IfErr c.from_residual.result (λ fault. StoppedAt fault.written bytes (g.W.Sink.state c.args.writer.now) (g.W.Sink.state c.write_base.new.writer)))
    (direction_found (rules_of c.args.self.now) width print (chars c.args.text.now) base.result c.requires.skips c.requires.paragraph base.ensures.base) stopped

pub returns-clause-ok : goal.returns-clause-ok
returns-clause-ok g c = λ width.
    let base = c.find_base_in_text-base in
    subst (λ (bytes : List ℕ). Wrote bytes (g.W.Sink.state c.args.writer.now) (g.W.Sink.state c.write_base.new.writer))
    (direction_found (rules_of c.args.self.now) width c.args.print.now (chars c.args.text.now) base.result c.requires.skips c.requires.paragraph base.ensures.base)
    c.in_ok-write_base.ensures.ok.wrote
