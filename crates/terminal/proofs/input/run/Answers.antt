use Rattle.std.proofs.Common.{◌∙◌, Bool, true, false, Ok, Err, ap, refl}
use Rattle.lines.specs.Engine.{rules_of}
use Rattle.terminal.proofs.RunLemmas.{ends_at_once, stands_at_start, stepped_as}
use Rattle.terminal.proofs.input.run.Goals as goal

pub returns-in_default-clause-run : goal.returns-in_default-clause-run
returns-in_default-clause-run g c = ends_at_once (rules_of c.args.engine.now) c.args.form.now c.args.is_last (g.R.Source.state c.args.reader.now) (g.W.Sink.state c.args.writer.now)

pub loop-held-init : goal.loop-held-init
loop-held-init g c =
    let start = c.in-Ok.ensures in
    record {
      kept = refl;
      stands = stands_at_start (rules_of c.args.engine.now) c.args.form.now (g.R.Source.state c.args.reader.now) (g.W.Sink.state c.args.writer.now) c.in-Ok.held
          start.waiting start.started start.text start.scanned start.passed start.pen start.empty start.page start.written start.room start.decoded start.over;
    }

pub loop-held-preserved : goal.loop-held-preserved
loop-held-preserved g c =
    let at = c.loop-held.invariant in
    record {
      kept = c.step.ensures.rules ∙ at.kept;
      stands = stepped_as (rules_of c.args.engine.now) (rules_of c.loop-held.engine) c.args.form.now c.args.is_last _ _ _ _ _ _ c.loop-held.held c.step.new.held at.kept at.stands c.step.result
          (c.step.ensures.steps (g.R.Source.state c.args.reader.now) (g.W.Sink.state c.args.writer.now)) (Ok true) (c.in-Ok-true.is ∙ ap (λ (b : Bool). Ok b) c.in-Ok-true.field-0-test);
    }

pub returns-in-Ok-false-clause-run : goal.returns-in-Ok-false-clause-run
returns-in-Ok-false-clause-run g c =
    let at = c.loop-held.invariant in
    stepped_as (rules_of c.args.engine.now) (rules_of c.loop-held.engine) c.args.form.now c.args.is_last _ _ _ _ _ _ c.loop-held.held c.step.new.held at.kept at.stands c.step.result
    (c.step.ensures.steps (g.R.Source.state c.args.reader.now) (g.W.Sink.state c.args.writer.now)) (Ok false) (c.in-Ok-false.is ∙ ap (λ (b : Bool). Ok b) c.in-Ok-false.field-0-test)

pub returns-in-Err-clause-run : goal.returns-in-Err-clause-run
returns-in-Err-clause-run g c =
    let at = c.loop-held.invariant in
    stepped_as (rules_of c.args.engine.now) (rules_of c.loop-held.engine) c.args.form.now c.args.is_last _ _ _ _ _ _ c.loop-held.held c.step.new.held at.kept at.stands c.step.result
    (c.step.ensures.steps (g.R.Source.state c.args.reader.now) (g.W.Sink.state c.args.writer.now)) (Err c.in-Err.fault) c.in-Err.is
