use Rattle.std.proofs.Common.{ap}
use Rattle.lines.specs.Engine.{rules_of}
use Rattle.terminal.proofs.SearchLemmas.{search_ended, search_failed, search_found, search_on}
use Rattle.terminal.proofs.start.Search.step.Goals as goal

pub returns-in-Err-clause-continues : goal.returns-in-Err-clause-continues
returns-in-Err-clause-continues g c = λ start s.
    search_failed (rules_of c.args.engine.now) c.args.escapes start (g.R.Source.state c.args.reader.now) c.args.self.now s (g.R.Source.state c.read.new.reader)
    c.finish.new.self.bytes.items c.read.new.self.waiting c.in_ok-base-in-Err.base c.in-Err.ensures.err c.read.ensures.waiting (ap (λ bytes. bytes.items) c.finish.ensures.bytes) c.in_ok-base-in-Err.ensures.base

pub returns-then-len-eq0-clause-continues : goal.returns-then-len-eq0-clause-continues
returns-then-len-eq0-clause-continues g c = λ start s.
    search_ended (rules_of c.args.engine.now) c.args.escapes start (g.R.Source.state c.args.reader.now) c.args.self.now s (g.R.Source.state c.read.new.reader)
    c.in-Ok.len c.read.new.self c.in-Ok.ensures.ok c.finish-then-len-eq0.new.self.bytes.items c.in_ok-base.base c.if-len-eq0.true
    (ap (λ bytes. bytes.items) c.finish-then-len-eq0.ensures.bytes) c.in_ok-base.ensures.base

pub returns-in-Some-clause-continues : goal.returns-in-Some-clause-continues
returns-in-Some-clause-continues g c = λ start s.
    search_found (rules_of c.args.engine.now) c.args.escapes start (g.R.Source.state c.args.reader.now) c.args.self.now s (g.R.Source.state c.read.new.reader)
    c.in-Ok.len c.read.new.self c.in-Ok.ensures.ok c.advance.new.self c.in_ok-base-2.field-0 c.in_ok-base-2.ensures.bytes c.in_ok-base-2.ensures.advances c.in-Some.base c.in-Some.is

pub returns-in-None-clause-continues : goal.returns-in-None-clause-continues
returns-in-None-clause-continues g c = λ start s.
    search_on (rules_of c.args.engine.now) c.args.escapes start (g.R.Source.state c.args.reader.now) c.args.self.now s (g.R.Source.state c.read.new.reader)
    c.in-Ok.len c.read.new.self c.in-Ok.ensures.ok c.advance.new.self c.in_ok-base-2.field-0 c.in_ok-base-2.ensures.bytes c.in_ok-base-2.ensures.advances c.in-None.is
