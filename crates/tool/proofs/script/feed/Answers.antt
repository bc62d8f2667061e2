use Rattle.std.proofs.Common.{◌-◌, length, take, drop, arith, ap, ◌∙◌}
use Rattle.std.proofs.lemmas.List.{length-drop, take_rest}
use Rattle.lines.specs.Engine.{rules_of}
use Rattle.tool.specs.Reading.{FailsIn}
use Rattle.tool.proofs.ScriptStepLemmas.{failed_part, lines_fit, takes_some, took_part, wants_memory, wants_part, written_fits}
use Rattle.tool.proofs.script.feed.Goals as goal

pub take_part-requires-clause-written : goal.take_part-requires-clause-written
take_part-requires-clause-written g c =
    let fed = c.requires in
    written_fits (rules_of c.args.session.now.engine) c.args.options.now fed.0 fed.1 fed.3 fed.2
    (g.W.Sink.state c.loop-at.writer) c.loop-at.session c.loop-at.reading (drop c.loop-at.at c.args.chunk.now)
    (c.loop-at.invariant.stands fed.0 fed.1 fed.2 fed.3 fed.4)

pub take_part-requires-clause-lines : goal.take_part-requires-clause-lines
take_part-requires-clause-lines g c =
    let fed = c.requires in
    let rest = drop c.loop-at.at c.args.chunk.now in
    lines_fit (rules_of c.args.session.now.engine) c.args.options.now fed.0 fed.1 fed.3 fed.2 (g.W.Sink.state c.loop-at.writer) c.loop-at.session c.loop-at.reading rest
    (c.loop-at.invariant.stands fed.0 fed.1 fed.2 fed.3 fed.4) fed.5 (omega (arith, c.loop-at-test.true, length-drop c.loop-at.at c.args.chunk.now))

pub loop-at-preserved : goal.loop-at-preserved
loop-at-preserved g c =
    let chunk = c.args.chunk.now in
    let at = c.loop-at.at in
    let part_is = take_rest chunk at in
    let some = takes_some (rules_of c.loop-at.session.engine) c.args.options.now
    (take (length chunk - at) (drop at chunk)) c.in-Ok.taken c.loop-at.session c.take_part.new.session
    c.loop-at.reading c.take_part.new.reading
    (g.W.Sink.state c.loop-at.writer) (g.W.Sink.state c.take_part.new.writer) (rw part_is (omega (arith, c.loop-at-test.true, length-drop at chunk))) c.in-Ok.ensures.ok in
    record {
      within = omega (arith, some.1, ap length part_is, length-drop at chunk);
      stands = λ start reader_start writer_start reader_now stands.
          took_part (rules_of c.args.session.now.engine) (rules_of c.loop-at.session.engine) c.args.options.now start
          reader_start reader_now writer_start (g.W.Sink.state c.loop-at.writer)
          (g.W.Sink.state c.take_part.new.writer)
          c.loop-at.session c.take_part.new.session c.loop-at.reading c.take_part.new.reading chunk (take (length chunk - at) (drop at chunk)) c.in-Ok.taken at
          c.loop-at.invariant.rules part_is (c.loop-at.invariant.stands start reader_start writer_start reader_now stands) c.in-Ok.ensures.ok;
      rules = c.take_part.ensures.rules ∙ c.loop-at.invariant.rules;
    }

pub returns-in-Err-clause-feeds : goal.returns-in-Err-clause-feeds
returns-in-Err-clause-feeds g c = λ start reader_start writer_start reader_now stands.
    failed_part (rules_of c.args.session.now.engine) (rules_of c.loop-at.session.engine) c.args.options.now start
    reader_start reader_now writer_start (g.W.Sink.state c.loop-at.writer) (g.W.Sink.state c.take_part.new.writer)
    c.loop-at.session c.take_part.new.session c.loop-at.reading c.take_part.new.reading c.args.chunk.now
    (take (length c.args.chunk.now - c.loop-at.at) (drop c.loop-at.at c.args.chunk.now)) 0 c.loop-at.at
    c.loop-at.invariant.rules (take_rest c.args.chunk.now c.loop-at.at) (c.loop-at.invariant.stands start reader_start writer_start reader_now stands) c.in-Err.fault c.in-Err.ensures.err

pub returns-in-Err-clause-wants : goal.returns-in-Err-clause-wants
returns-in-Err-clause-wants g c = λ start reader_start writer_start reader_now stands wants.
    wants_part (rules_of c.args.session.now.engine) (rules_of c.loop-at.session.engine) c.args.options.now start
    reader_start reader_now writer_start (g.W.Sink.state c.loop-at.writer) (g.W.Sink.state c.take_part.new.writer)
    c.loop-at.session c.take_part.new.session c.loop-at.reading c.take_part.new.reading c.args.chunk.now
    (take (length c.args.chunk.now - c.loop-at.at) (drop c.loop-at.at c.args.chunk.now)) 0 c.loop-at.at
    c.loop-at.invariant.rules (take_rest c.args.chunk.now c.loop-at.at) (c.loop-at.invariant.stands start reader_start writer_start reader_now stands)
    (wants_memory (FailsIn (rules_of c.loop-at.session.engine) c.args.options.now
    (take (length c.args.chunk.now - c.loop-at.at) (drop c.loop-at.at c.args.chunk.now)) c.loop-at.session c.take_part.new.session
    c.loop-at.reading c.take_part.new.reading (g.W.Sink.state c.loop-at.writer) (g.W.Sink.state c.take_part.new.writer)) c.in-Err.fault wants c.in-Err.ensures.err)
