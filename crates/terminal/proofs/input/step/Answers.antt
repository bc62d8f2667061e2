use Rattle.lines.specs.Engine.{rules_of}
use Rattle.terminal.proofs.RunLemmas.{ends_read}
use Rattle.terminal.proofs.StepLemmas.{step_done, step_end, step_fault, step_memory, step_on, step_stop}
use Rattle.terminal.proofs.input.step.Goals as goal

pub returns-in-Err-clause-steps : goal.returns-in-Err-clause-steps
returns-in-Err-clause-steps g c = λ reader_start writer_start stands.
    ends_read (rules_of c.args.engine.now) c.args.form.now c.args.is_last reader_start writer_start (g.R.Source.state c.args.reader.now) (g.W.Sink.state c.args.writer.now)
    c.args.held.now stands (g.R.Source.state c.read.new.reader) c.in-Err.ensures.err

pub returns-in-Ok-finish-clause-steps : goal.returns-in-Ok-finish-clause-steps
returns-in-Ok-finish-clause-steps g c = λ reader_start writer_start stands.
    step_done (rules_of c.args.engine.now) c.args.form.now c.args.is_last reader_start writer_start (g.R.Source.state c.args.reader.now) (g.W.Sink.state c.args.writer.now)
    c.args.held.now stands (g.R.Source.state c.read.new.reader) c.in-Ok.len c.read.new.self c.in-Ok.ensures.ok c.if-len-eq0.true
    (g.W.Sink.state c.finish.new.writer) c.finish.new.held.output.over c.in-Ok-finish.ensures.ends

pub returns-in-Err-finish-clause-steps : goal.returns-in-Err-finish-clause-steps
returns-in-Err-finish-clause-steps g c = λ reader_start writer_start stands.
    step_end (rules_of c.args.engine.now) c.args.form.now c.args.is_last reader_start writer_start (g.R.Source.state c.args.reader.now) (g.W.Sink.state c.args.writer.now)
    c.args.held.now stands (g.R.Source.state c.read.new.reader) c.in-Ok.len c.read.new.self c.in-Ok.ensures.ok c.if-len-eq0.true
    (g.W.Sink.state c.finish.new.writer) c.finish.new.held.output.over c.in-Err-finish.fault c.in-Err-finish.ensures.ends

pub returns-in_default-clause-steps : goal.returns-in_default-clause-steps
returns-in_default-clause-steps g c = λ reader_start writer_start stands.
    step_memory (rules_of c.args.engine.now) c.args.form.now c.args.is_last reader_start writer_start (g.R.Source.state c.args.reader.now) (g.W.Sink.state c.args.writer.now)
    c.args.held.now stands (g.R.Source.state c.read.new.reader) c.in-Ok.len c.read.new.self c.in-Ok.ensures.ok

pub returns-in-Err-write-clause-steps : goal.returns-in-Err-write-clause-steps
returns-in-Err-write-clause-steps g c = λ reader_start writer_start stands.
    step_fault (rules_of c.args.engine.now) c.args.form.now c.args.is_last reader_start writer_start (g.R.Source.state c.args.reader.now) (g.W.Sink.state c.args.writer.now)
    c.args.held.now stands (g.R.Source.state c.read.new.reader) c.in-Ok.len c.read.new.self c.in-Ok.ensures.ok
    c.gather.new.self c.in-Ok-gather.fault c.in-Ok-gather.ensures.gathers (g.W.Sink.state c.write.new.writer) c.in-Err-write.fault c.in-Err-write.ensures.err

pub returns-in-Some-clause-steps : goal.returns-in-Some-clause-steps
returns-in-Some-clause-steps g c = λ reader_start writer_start stands.
    step_stop (rules_of c.args.engine.now) c.args.form.now c.args.is_last reader_start writer_start (g.R.Source.state c.args.reader.now) (g.W.Sink.state c.args.writer.now)
    c.args.held.now stands (g.R.Source.state c.read.new.reader) c.in-Ok.len c.read.new.self c.in-Ok.ensures.ok
    c.gather.new.self c.in-Ok-gather.fault c.in-Ok-gather.ensures.gathers (g.W.Sink.state c.write.new.writer) c.in-Some.fault c.in_default-write.ensures.ok c.in-Some.is

pub returns-in-None-clause-steps : goal.returns-in-None-clause-steps
returns-in-None-clause-steps g c = λ reader_start writer_start stands.
    step_on (rules_of c.args.engine.now) c.args.form.now c.args.is_last reader_start writer_start (g.R.Source.state c.args.reader.now) (g.W.Sink.state c.args.writer.now)
    c.args.held.now stands (g.R.Source.state c.read.new.reader) c.in-Ok.len c.read.new.self c.in-Ok.ensures.ok
    c.gather.new.self c.in-Ok-gather.fault c.in-Ok-gather.ensures.gathers (g.W.Sink.state c.write.new.writer) c.write.new.self c.in_default-write.ensures.ok
    c.in_default-write.ensures.empty c.in_default-write.ensures.written c.write.ensures.scanner c.write.ensures.over c.in-None.is c.in-Ok-gather.ensures.passed
