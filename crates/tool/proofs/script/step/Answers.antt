use Rattle.std.proofs.Common.{◌≤◌, length, rules}
use Rattle.lines.specs.Engine.{rules_of}
use Rattle.tool.proofs.ScriptStepLemmas.{at_none, at_read, ends_read, same_fault}
use Rattle.text_run.specs.declared.faults.RunFault.TheVariants as f
use Rattle.tool.proofs.script.step.Goals as goal
use Rattle.stream.specs.declared.reading.TheConstants.{CHUNK}

pub returns-in-Err-clause-steps : goal.returns-in-Err-clause-steps
returns-in-Err-clause-steps g c = λ start reader_start writer_start at.
    ends_read (rules_of c.args.session.now.engine) c.args.options.now start reader_start
    (g.R.Source.state c.args.reader.now) writer_start (g.W.Sink.state c.args.writer.now) c.args.session.now
    c.args.reading.now at
    (g.R.Source.state c.read.new.self) c.in-Err.ensures.reads

pub returns-in-Ok-finish-clause-steps : goal.returns-in-Ok-finish-clause-steps
returns-in-Ok-finish-clause-steps g c = λ start reader_start writer_start at.
    let gives = c.in-Ok.ensures.reads in
    c.in-Ok-finish.ensures.ends start reader_start writer_start (g.R.Source.state c.read.new.self)
    (at_none (rules_of c.args.session.now.engine) c.args.options.now start reader_start
    (g.R.Source.state c.args.reader.now) writer_start (g.W.Sink.state c.args.writer.now) c.args.session.now
    c.args.reading.now
    (g.R.Source.state c.read.new.self) c.in-Ok.len c.read.new.buffer at gives c.if-len-eq0.true) (gives.end c.if-len-eq0.true)

pub returns-in-Err-finish-clause-steps : goal.returns-in-Err-finish-clause-steps
returns-in-Err-finish-clause-steps g c = λ start reader_start writer_start at.
    let gives = c.in-Ok.ensures.reads in
    c.in-Err-finish.ensures.ends start reader_start writer_start (g.R.Source.state c.read.new.self)
    (at_none (rules_of c.args.session.now.engine) c.args.options.now start reader_start
    (g.R.Source.state c.args.reader.now) writer_start (g.W.Sink.state c.args.writer.now) c.args.session.now
    c.args.reading.now
    (g.R.Source.state c.read.new.self) c.in-Ok.len c.read.new.buffer at gives c.if-len-eq0.true) (gives.end c.if-len-eq0.true)

pub feed-requires : goal.feed-requires
feed-requires g c =
    let stands = c.requires.stands in
    let gives = c.in-Ok.ensures.reads in
    let within : c.in-Ok.len ≤ length c.read.new.buffer = search rules in
    let small : c.in-Ok.len ≤ CHUNK = search rules in (
      stands.0,
      stands.1,
      stands.2,
      g.R.Source.state c.read.new.self,
      at_read (rules_of c.args.session.now.engine) c.args.options.now stands.0 stands.1
          (g.R.Source.state c.args.reader.now) stands.2 (g.W.Sink.state c.args.writer.now) c.args.session.now
          c.args.reading.now
          (g.R.Source.state c.read.new.self) c.in-Ok.len c.read.new.buffer stands.3 gives within small,
      gives.passes.bounded,
    )

pub returns-in-Ok-feed-clause-steps : goal.returns-in-Ok-feed-clause-steps
returns-in-Ok-feed-clause-steps g c = λ start reader_start writer_start at.
    let gives = c.in-Ok.ensures.reads in
    let within : c.in-Ok.len ≤ length c.read.new.buffer = search rules in
    let small : c.in-Ok.len ≤ CHUNK = search rules in
    c.in-Ok-feed.ensures.feeds start reader_start writer_start (g.R.Source.state c.read.new.self)
    (at_read (rules_of c.args.session.now.engine) c.args.options.now start reader_start
    (g.R.Source.state c.args.reader.now) writer_start (g.W.Sink.state c.args.writer.now) c.args.session.now
    c.args.reading.now
    (g.R.Source.state c.read.new.self) c.in-Ok.len c.read.new.buffer at gives within small)

pub returns-in-Err-feed-clause-steps : goal.returns-in-Err-feed-clause-steps
returns-in-Err-feed-clause-steps g c = λ start reader_start writer_start at.
    let gives = c.in-Ok.ensures.reads in
    let within : c.in-Ok.len ≤ length c.read.new.buffer = search rules in
    let small : c.in-Ok.len ≤ CHUNK = search rules in
    c.in-Err-feed.ensures.feeds start reader_start writer_start (g.R.Source.state c.read.new.self)
    (at_read (rules_of c.args.session.now.engine) c.args.options.now start reader_start
    (g.R.Source.state c.args.reader.now) writer_start (g.W.Sink.state c.args.writer.now) c.args.session.now
    c.args.reading.now
    (g.R.Source.state c.read.new.self) c.in-Ok.len c.read.new.buffer at gives within small)

pub returns-in-Err-feed-clause-wants : goal.returns-in-Err-feed-clause-wants
returns-in-Err-feed-clause-wants g c = λ start reader_start writer_start at wants more.
    let gives = c.in-Ok.ensures.reads in
    let within : c.in-Ok.len ≤ length c.read.new.buffer = search rules in
    let small : c.in-Ok.len ≤ CHUNK = search rules in
    c.in-Err-feed.ensures.wants start reader_start writer_start (g.R.Source.state c.read.new.self)
    (at_read (rules_of c.args.session.now.engine) c.args.options.now start reader_start
    (g.R.Source.state c.args.reader.now) writer_start (g.W.Sink.state c.args.writer.now) c.args.session.now
    c.args.reading.now
    (g.R.Source.state c.read.new.self) c.in-Ok.len c.read.new.buffer at gives within small) (same_fault c.in-Err-feed.fault f.Memory wants)
