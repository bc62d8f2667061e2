use Rattle.std.proofs.Common.{◌≡◌, ◌<◌, ◌==◌, length, vec_len, [], false, sym, ◌∙◌, arith, rules}
use Rattle.std.proofs.lemmas.Bool.Decides.{nat_tests}
use Rattle.lines.specs.Engine.{rules_of}
use Rattle.tool.proofs.ScriptStepLemmas.{ends_empty, ends_finish, lines_fit}
use Rattle.tool.proofs.script.finish.Goals as goal

pub returns-then-is_empty-clause-ends : goal.returns-then-is_empty-clause-ends
returns-then-is_empty-clause-ends g c = λ start reader_start writer_start reader_now at finished.
    ends_empty (rules_of c.args.session.now.engine) c.args.options.now start reader_start reader_now writer_start
    (g.W.Sink.state c.args.writer.now) c.args.session.now c.args.reading.now at finished (search rules)

pub execute_line-requires-clause-short : goal.execute_line-requires-clause-short
execute_line-requires-clause-short g c = c.requires.4.short

pub execute_line-requires-clause-lines : goal.execute_line-requires-clause-lines
execute_line-requires-clause-lines g c =
    let fed = c.requires in
    let isnt : (vec_len c.args.reading.now.line == 0) ≡ false = sym c.is_empty.ensures ∙ c.if-is_empty.false in
    let some : 0 < length c.args.reading.now.line.items = grind (arith, nat_tests, isnt) in
    lines_fit (rules_of c.args.session.now.engine) c.args.options.now fed.0 fed.1 fed.3 fed.2
    (g.W.Sink.state c.args.writer.now) c.args.session.now c.args.reading.now [] fed.4 fed.5 (omega (arith, some))

pub returns-clause-ends : goal.returns-clause-ends
returns-clause-ends g c = λ start reader_start writer_start reader_now at finished.
    let isnt : (vec_len c.args.reading.now.line == 0) ≡ false = sym c.is_empty.ensures ∙ c.if-is_empty.false in
    let some : 0 < length c.args.reading.now.line.items = grind (arith, nat_tests, isnt) in
    ends_finish (rules_of c.args.session.now.engine) c.args.options.now start reader_start reader_now writer_start (g.W.Sink.state c.args.writer.now) c.args.session.now c.execute_line.new.session
    c.args.reading.now c.execute_line.new.reading (g.W.Sink.state c.execute_line.new.writer) at finished some c.execute_line.result c.execute_line.ensures.ok c.execute_line.ensures.err c.execute_line.ensures.works
