use Rattle.std.proofs.Common.{◌∙◌, Bool, false, Ok, Err, [], ap, refl, rules, subst, sym}
use Rattle.lines.specs.Engine.{rules_of}
use Rattle.tool.specs.Reading.{IsAt}
use Rattle.tool.proofs.ScriptStepLemmas.{at_start, ends_at_once, script_stepped}
use Rattle.tool.proofs.script.run_over.Goals as goal

-- if an allocation failed before anything was read, the run ends with `Memory`
pub returns-in_default-clause-run : goal.returns-in_default-clause-run
returns-in_default-clause-run g c = ends_at_once (rules_of c.args.session.now.engine) c.args.options.now c.args.session.now (g.R.Source.state c.args.reader.now) (g.W.Sink.state c.args.writer.now)

pub loop-reading-init : goal.loop-reading-init
loop-reading-init g c = record {
  kept = refl;
  room = search rules;
  stands = at_start (rules_of c.args.session.now.engine) c.args.options.now c.args.session.now (g.R.Source.state c.args.reader.now) (g.W.Sink.state c.args.writer.now) _ (search rules) refl refl;
}

pub returns-in-Ok-false-clause-run : goal.returns-in-Ok-false-clause-run
returns-in-Ok-false-clause-run g c =
    script_stepped (rules_of c.args.session.now.engine) (rules_of c.loop-reading.session.engine) c.args.options.now
    c.args.session.now (g.R.Source.state c.args.reader.now) (g.W.Sink.state c.args.writer.now)
    (g.R.Source.state c.loop-reading.reader) (g.W.Sink.state c.loop-reading.writer) (g.R.Source.state c.step.new.reader) (g.W.Sink.state c.step.new.writer)
    c.loop-reading.session c.step.new.session c.loop-reading.reading c.step.new.reading c.loop-reading.invariant.kept c.loop-reading.invariant.stands c.step.result
    (c.step.ensures.steps c.args.session.now (g.R.Source.state c.args.reader.now) (g.W.Sink.state c.args.writer.now)) (Ok false) (c.in-Ok-false.is ∙ ap (λ (b : Bool). Ok b) c.in-Ok-false.field-0-test)

pub returns-in-Err-clause-run : goal.returns-in-Err-clause-run
returns-in-Err-clause-run g c =
    script_stepped (rules_of c.args.session.now.engine) (rules_of c.loop-reading.session.engine) c.args.options.now
    c.args.session.now (g.R.Source.state c.args.reader.now) (g.W.Sink.state c.args.writer.now)
    (g.R.Source.state c.loop-reading.reader) (g.W.Sink.state c.loop-reading.writer) (g.R.Source.state c.step.new.reader) (g.W.Sink.state c.step.new.writer)
    c.loop-reading.session c.step.new.session c.loop-reading.reading c.step.new.reading c.loop-reading.invariant.kept c.loop-reading.invariant.stands c.step.result
    (c.step.ensures.steps c.args.session.now (g.R.Source.state c.args.reader.now) (g.W.Sink.state c.args.writer.now)) (Err c.in-Err.fault) c.in-Err.is

-- if a step's result is not `Read`, neither that step nor any step before it had a failed read
pub returns-in-Ok-false-clause-reads : goal.returns-in-Ok-false-clause-reads
returns-in-Ok-false-clause-reads g c = λ other.
    c.step.ensures.reads (λ e. cc (e, c.in-Ok-false.is)) ∙ c.loop-reading.invariant.stands.failures

pub returns-in-Err-clause-reads : goal.returns-in-Err-clause-reads
returns-in-Err-clause-reads g c = λ other.
    c.step.ensures.reads (λ e. other (cc (e, c.in-Err.is))) ∙ c.loop-reading.invariant.stands.failures

-- before each step, `IsAt` holds from the start of the run
pub step-requires-clause-stands : goal.step-requires-clause-stands
step-requires-clause-stands g c = (
  c.args.session.now,
  g.R.Source.state c.args.reader.now,
  g.W.Sink.state c.args.writer.now,
  subst (λ rules. IsAt rules c.args.options.now c.args.session.now (g.R.Source.state c.args.reader.now) (g.R.Source.state c.loop-reading.reader)
      (g.W.Sink.state c.args.writer.now) (g.W.Sink.state c.loop-reading.writer) c.loop-reading.session c.loop-reading.reading [])
      (sym c.loop-reading.invariant.kept) c.loop-reading.invariant.stands,
)
