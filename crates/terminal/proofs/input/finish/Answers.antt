use Rattle.std.proofs.Common.{◌++◌, Bool, subst}
use Rattle.lines.specs.Engine.{rules_of}
use Rattle.terminal.specs.RunState.{AddsLast, last_characters}
use Rattle.terminal.proofs.RunLemmas.{finish_write}
use Rattle.terminal.proofs.input.finish.Goals as goal

pub returns-in-Err-clause-ends : goal.returns-in-Err-clause-ends
returns-in-Err-clause-ends g c =
    finish_write (rules_of c.args.engine.now) c.args.form.now c.args.is_last c.args.held.now c.write.new.self.over (g.W.Sink.state c.args.writer.now) (g.W.Sink.state c.write.new.writer) c.in-Err.fault
    c.gather_last.new.self.output c.in-Ok.is_long c.in-Ok.ensures.adds c.gather_last.ensures.written c.in-Err.ensures.err

pub returns-then-is_long-clause-ends : goal.returns-then-is_long-clause-ends
returns-then-is_long-clause-ends g c =
    let held = c.args.held.now in (
      c.gather_last.new.self.output,
      subst (λ (b : Bool). AddsLast (rules_of c.args.engine.now) c.args.form.now c.args.is_last (held.text.items ++ last_characters held.decoder.waiting) held.output c.gather_last.new.self.output b)
          c.if-is_long.true c.in-Ok.ensures.adds,
      c.in_default-write.ensures.ok,
    )
