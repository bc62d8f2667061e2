use Rattle.std.proofs.Common.{Ok, Err, arith}
use Rattle.lines.specs.Engine.{rules_of}
use Rattle.text_run.proofs.StepLemmas.{ends_read, no_memory, none_written, read_failed, read_fault, read_memory, read_nothing, read_on, read_stopped}
use Rattle.text_run.proofs.text.step.Goals as goal

pub returns-in-Err-clause-steps : goal.returns-in-Err-clause-steps
returns-in-Err-clause-steps g c = λ reader_start writer_start engine_start stands.
    ends_read (rules_of c.args.engine.now) c.args.width c.args.print.now reader_start writer_start engine_start _ _ c.args.engine.now _ c.args.held.now stands c.in-Err.ensures.err

pub returns-in-Ok-finish-clause-steps : goal.returns-in-Ok-finish-clause-steps
returns-in-Ok-finish-clause-steps g c = λ reader_start writer_start engine_start stands.
    read_nothing (rules_of c.args.engine.now) c.args.width c.args.print.now reader_start writer_start engine_start _ _
    c.args.engine.now _ _ c.args.held.now _ stands c.in-Ok.ensures.ok c.if-len-eq0.true _ c.finish.new.engine
    (Ok tt)
    c.in-Ok-finish.ensures.ends c.in-Ok-finish.ensures.counts c.finish.ensures.at_most c.finish.ensures.inside
    (λ n is. absurd (cc is))

pub returns-in-Err-finish-clause-steps : goal.returns-in-Err-finish-clause-steps
returns-in-Err-finish-clause-steps g c = λ reader_start writer_start engine_start stands.
    read_nothing (rules_of c.args.engine.now) c.args.width c.args.print.now reader_start writer_start engine_start _ _
    c.args.engine.now _ _ c.args.held.now _ stands c.in-Ok.ensures.ok c.if-len-eq0.true _ c.finish.new.engine
    (Err c.in-Err-finish.fault)
    c.in-Err-finish.ensures.ends tt c.finish.ensures.at_most c.finish.ensures.inside c.in-Err-finish.ensures.stopped

pub returns-in_default-clause-steps : goal.returns-in_default-clause-steps
returns-in_default-clause-steps g c = λ reader_start writer_start engine_start stands.
    read_memory (rules_of c.args.engine.now) c.args.width c.args.print.now reader_start writer_start engine_start _ _
    c.args.engine.now _ _ c.args.held.now _ stands c.in-Ok.ensures.ok c.gather.new.engine c.gather.ensures.at_most
    c.in_default.ensures.memory c.in_default.ensures.ended c.in_default.ensures.decoded c.in_default.ensures.some

pub returns-in-Err-write-clause-steps : goal.returns-in-Err-write-clause-steps
returns-in-Err-write-clause-steps g c = λ reader_start writer_start engine_start stands.
    read_stopped (rules_of c.args.engine.now) c.args.width c.args.print.now reader_start writer_start engine_start _ _
    c.args.engine.now _ _ c.args.held.now _ stands c.in-Ok.ensures.ok _ c.gather.new.engine _
    c.gather.ensures.at_most
    c.in-Ok-gather.ensures.gathers _ _ c.in-Err-write.ensures.err

pub returns-in-Some-clause-steps : goal.returns-in-Some-clause-steps
returns-in-Some-clause-steps g c = λ reader_start writer_start engine_start stands.
    read_fault (rules_of c.args.engine.now) c.args.width c.args.print.now reader_start writer_start engine_start _ _
    c.args.engine.now _ _ c.args.held.now _ stands c.in-Ok.ensures.ok _ c.gather.new.engine _
    c.gather.ensures.at_most
    c.in-Ok-gather.ensures.gathers _ _ c.in_default-write.ensures.ok c.in-Some.fault c.in-Some.is

pub returns-in-None-clause-steps : goal.returns-in-None-clause-steps
returns-in-None-clause-steps g c = λ reader_start writer_start engine_start stands.
    read_on (rules_of c.args.engine.now) c.args.width c.args.print.now reader_start writer_start engine_start _ _
    c.args.engine.now _ _ c.args.held.now _ stands c.in-Ok.ensures.ok _ c.gather.new.engine _
    c.in-Ok-gather.ensures.gathers _ _ c.in_default-write.ensures.ok c.in-None.is

-- if memory ran out, nothing was written
pub returns-in-Err-finish-clause-memory : goal.returns-in-Err-finish-clause-memory
returns-in-Err-finish-clause-memory g c = λ is.
    none_written (rules_of c.args.engine.now) c.args.width c.args.print.now c.read.new.self
    (g.W.Sink.state c.args.writer.now) (g.W.Sink.state c.finish.new.writer) c.in-Err-finish.fault
    c.in-Err-finish.ensures.ends (cc is)

pub returns-in-Err-write-clause-memory : goal.returns-in-Err-write-clause-memory
returns-in-Err-write-clause-memory g c = λ is. absurd (cc (is, c.in-Err-write.ensures.err.1))

pub returns-in-Some-clause-memory : goal.returns-in-Some-clause-memory
returns-in-Some-clause-memory g c = λ is.
    absurd (no_memory (rules_of c.args.engine.now) c.args.width c.args.print.now _ _ _ _ _ _ c.in-Some.fault c.in-Ok-gather.ensures.gathers c.in-Some.is (cc is))

-- if the sink failed, the paragraphs that ended within the bytes read so far were printed
pub returns-in-Err-finish-clause-stopped : goal.returns-in-Err-finish-clause-stopped
returns-in-Err-finish-clause-stopped g c = λ n is rises.
    absurd (omega (arith, rises, c.in-Ok.ensures.ok.read.gives.passes.passed, c.if-len-eq0.true))

pub returns-in-Err-write-clause-stopped : goal.returns-in-Err-write-clause-stopped
returns-in-Err-write-clause-stopped g c = λ n is rises.
    let stands = c.requires.stands in
    read_failed (rules_of c.args.engine.now) c.args.width c.args.print.now stands.0 stands.1 stands.2 _ _
    c.args.engine.now _ _ c.args.held.now _ stands.3 c.in-Ok.ensures.ok _ c.gather.new.engine _
    c.in-Ok-gather.ensures.gathers _ _ c.in-Err-write.ensures.err
