use Rattle.std.proofs.Common.{◌∙◌, Bool, true, false, Ok, Err, ap, refl}
use Rattle.lines.specs.Engine.{rules_of}
use Rattle.text_run.proofs.StartLemmas.{ends_at_once, stands_at_start, stepped_as}
use Rattle.text_run.proofs.text.run_text.Goals as goal

-- an allocation failed before anything was read
pub returns-in_default-clause-run : goal.returns-in_default-clause-run
returns-in_default-clause-run g c =
    (ends_at_once (rules_of c.args.engine.now) c.args.width c.args.print.now (g.R.Source.state c.args.reader.now)
    (g.W.Sink.state c.args.writer.now) c.args.engine.now (c.counts_fit.ensures c.args.print.now)).run

pub returns-in_default-clause-ahead : goal.returns-in_default-clause-ahead
returns-in_default-clause-ahead g c =
    (ends_at_once (rules_of c.args.engine.now) c.args.width c.args.print.now (g.R.Source.state c.args.reader.now)
    (g.W.Sink.state c.args.writer.now) c.args.engine.now (c.counts_fit.ensures c.args.print.now)).ahead

pub returns-in_default-clause-at_most : goal.returns-in_default-clause-at_most
returns-in_default-clause-at_most g c =
    (ends_at_once (rules_of c.args.engine.now) c.args.width c.args.print.now (g.R.Source.state c.args.reader.now)
    (g.W.Sink.state c.args.writer.now) c.args.engine.now (c.counts_fit.ensures c.args.print.now)).at_most

pub returns-in_default-clause-stopped : goal.returns-in_default-clause-stopped
returns-in_default-clause-stopped g c =
    (ends_at_once (rules_of c.args.engine.now) c.args.width c.args.print.now (g.R.Source.state c.args.reader.now)
    (g.W.Sink.state c.args.writer.now) c.args.engine.now (c.counts_fit.ensures c.args.print.now)).stopped

pub returns-in_default-clause-memory : goal.returns-in_default-clause-memory
returns-in_default-clause-memory g c =
    (ends_at_once (rules_of c.args.engine.now) c.args.width c.args.print.now (g.R.Source.state c.args.reader.now)
    (g.W.Sink.state c.args.writer.now) c.args.engine.now (c.counts_fit.ensures c.args.print.now)).wants

pub loop-held-init : goal.loop-held-init
loop-held-init g c =
    let start = c.in-Ok.ensures in
    record {
      kept = refl;
      stands = stands_at_start (rules_of c.args.engine.now) c.args.width c.args.print.now
          (g.R.Source.state c.args.reader.now) (g.W.Sink.state c.args.writer.now) c.args.engine.now
          (c.counts_fit.ensures c.args.print.now) c.in-Ok.held
          start.waiting.0 start.waiting.1 start.waiting.2 start.text start.page start.room;
    }

pub loop-held-preserved : goal.loop-held-preserved
loop-held-preserved g c =
    let kept = c.loop-held.invariant.kept in
    record {
      kept = c.step.ensures.rules ∙ kept;
      stands = stepped_as (rules_of c.args.engine.now) (rules_of c.loop-held.engine) c.args.width c.args.print.now _ _
          c.args.engine.now _ _ c.loop-held.engine _ _ c.step.new.engine c.loop-held.held c.step.new.held
          c.loop-held.invariant.kept c.loop-held.invariant.stands c.step.result
          (c.step.ensures.steps (g.R.Source.state c.args.reader.now) (g.W.Sink.state c.args.writer.now)
          c.args.engine.now) (Ok true) (c.in-Ok-true.is ∙ ap (λ (b : Bool). Ok b) c.in-Ok-true.field-0-test);
    }

pub returns-in-Ok-false-clause-run : goal.returns-in-Ok-false-clause-run
returns-in-Ok-false-clause-run g c =
    (stepped_as (rules_of c.args.engine.now) (rules_of c.loop-held.engine) c.args.width c.args.print.now _ _
    c.args.engine.now _ _ c.loop-held.engine _ _ c.step.new.engine c.loop-held.held c.step.new.held
    c.loop-held.invariant.kept c.loop-held.invariant.stands c.step.result
    (c.step.ensures.steps (g.R.Source.state c.args.reader.now) (g.W.Sink.state c.args.writer.now) c.args.engine.now)
    (Ok false) (c.in-Ok-false.is ∙ ap (λ (b : Bool). Ok b) c.in-Ok-false.field-0-test)).run

pub returns-in-Err-clause-run : goal.returns-in-Err-clause-run
returns-in-Err-clause-run g c =
    (stepped_as (rules_of c.args.engine.now) (rules_of c.loop-held.engine) c.args.width c.args.print.now _ _
    c.args.engine.now _ _ c.loop-held.engine _ _ c.step.new.engine c.loop-held.held c.step.new.held
    c.loop-held.invariant.kept c.loop-held.invariant.stands c.step.result
    (c.step.ensures.steps (g.R.Source.state c.args.reader.now) (g.W.Sink.state c.args.writer.now) c.args.engine.now) (Err c.in-Err.fault) c.in-Err.is).run

pub returns-in-Err-clause-ahead : goal.returns-in-Err-clause-ahead
returns-in-Err-clause-ahead g c =
    (stepped_as (rules_of c.args.engine.now) (rules_of c.loop-held.engine) c.args.width c.args.print.now _ _
    c.args.engine.now _ _ c.loop-held.engine _ _ c.step.new.engine c.loop-held.held c.step.new.held
    c.loop-held.invariant.kept c.loop-held.invariant.stands c.step.result
    (c.step.ensures.steps (g.R.Source.state c.args.reader.now) (g.W.Sink.state c.args.writer.now) c.args.engine.now) (Err c.in-Err.fault) c.in-Err.is).ahead

pub returns-in-Err-clause-at_most : goal.returns-in-Err-clause-at_most
returns-in-Err-clause-at_most g c =
    (stepped_as (rules_of c.args.engine.now) (rules_of c.loop-held.engine) c.args.width c.args.print.now _ _
    c.args.engine.now _ _ c.loop-held.engine _ _ c.step.new.engine c.loop-held.held c.step.new.held
    c.loop-held.invariant.kept c.loop-held.invariant.stands c.step.result
    (c.step.ensures.steps (g.R.Source.state c.args.reader.now) (g.W.Sink.state c.args.writer.now) c.args.engine.now) (Err c.in-Err.fault) c.in-Err.is).at_most

pub returns-in-Err-clause-memory : goal.returns-in-Err-clause-memory
returns-in-Err-clause-memory g c =
    (stepped_as (rules_of c.args.engine.now) (rules_of c.loop-held.engine) c.args.width c.args.print.now _ _
    c.args.engine.now _ _ c.loop-held.engine _ _ c.step.new.engine c.loop-held.held c.step.new.held
    c.loop-held.invariant.kept c.loop-held.invariant.stands c.step.result
    (c.step.ensures.steps (g.R.Source.state c.args.reader.now) (g.W.Sink.state c.args.writer.now) c.args.engine.now) (Err c.in-Err.fault) c.in-Err.is).wants

pub returns-in-Err-clause-stopped : goal.returns-in-Err-clause-stopped
returns-in-Err-clause-stopped g c =
    (stepped_as (rules_of c.args.engine.now) (rules_of c.loop-held.engine) c.args.width c.args.print.now _ _
    c.args.engine.now _ _ c.loop-held.engine _ _ c.step.new.engine c.loop-held.held c.step.new.held
    c.loop-held.invariant.kept c.loop-held.invariant.stands c.step.result
    (c.step.ensures.steps (g.R.Source.state c.args.reader.now) (g.W.Sink.state c.args.writer.now) c.args.engine.now) (Err c.in-Err.fault) c.in-Err.is).stopped

-- if a step's result is not `Read`, neither that step nor any step before it had a failed read
pub returns-in-Ok-false-clause-reads : goal.returns-in-Ok-false-clause-reads
returns-in-Ok-false-clause-reads g c = λ other.
    c.step.ensures.reads (λ e. cc (e, c.in-Ok-false.is)) ∙ c.loop-held.invariant.stands.is_at.failures

pub returns-in-Err-clause-reads : goal.returns-in-Err-clause-reads
returns-in-Err-clause-reads g c = λ other.
    c.step.ensures.reads (λ e. other (cc (e, c.in-Err.is))) ∙ c.loop-held.invariant.stands.is_at.failures
