use Rattle.std.proofs.Common.{refl, sym, ap, ◌∙◌, arith}
use Rattle.std.proofs.lemmas.List.{take_all}
use Rattle.session.specs.Edits.{after_all}
use Rattle.session.specs.Sessions.{cuts_at, held_at, state_of}
use Rattle.session.proofs.RunLemmas.{HasRun-next, HasRun-rules, HasRun-stops, edited, refilled_to, stays, edit_works, width_works, next_works, whole_works, lacks_memory, has_memory}
use Rattle.session.proofs.StateLemmas.{whole_with}
use Rattle.session.proofs.session.Session.run.Goals as goal
use Rattle.session.proofs.session.Session.run.Goals.{in-Insert, in-Delete, in-SetWidth}

pub loop-edit-init : goal.loop-edit-init
loop-edit-init g c =
    let it = c.self.inside in
    let old = state_of it.engine it.form.width it.form.is_measured (g.S.ParagraphStore.items it.store) in record {
      held = refl;
      laid_out = rw (← c.self.view_is) (whole_with old old c.self.inside.changed c.self.inside.changed c.self.invariant);
      rules = refl;
      works = record {
        analysed = record { least = omega arith; most = omega arith };
        filled =
            record { least = omega arith; most = omega arith };
        written =
            record { least = omega arith; most = omega arith };
      };
    }

pub returns-then-eq-clause-err : goal.returns-then-eq-clause-err
returns-then-eq-clause-err g c =
    let whole = c.loop-edit.invariant.laid_out in
    let out = lacks_memory _ _ refl refl refl refl c.match-edit.result (sym c.eq.ensures ∙ c.if-eq.true) in
    elim c.match-edit.branch [
      | in-Insert w ↦ rw w.self-is (HasRun-stops _ _ _ _ _ _ _ c.loop-edit-test.true w.in-Insert.is
          c.loop-edit.invariant (w.insert-result.ensures.memory (sym w.result-is ∙ out)) (stays _ _ _ _ _ w.insert-result.ensures.err (sym w.result-is ∙ out))
          (edit_works _ c.loop-edit.self w.insert-result.new.self _ whole w.insert-result.ensures.ok
          w.insert-result.ensures.err))
      | in-Delete w ↦ rw w.self-is (HasRun-stops _ _ _ _ _ _ _ c.loop-edit-test.true w.in-Delete.is
          c.loop-edit.invariant (w.delete-result.ensures.memory (sym w.result-is ∙ out)) (stays _ _ _ _ _ w.delete-result.ensures.err (sym w.result-is ∙ out))
          (edit_works _ c.loop-edit.self w.delete-result.new.self _ whole w.delete-result.ensures.ok
          w.delete-result.ensures.err))
      | in-SetWidth w ↦ rw w.self-is
          (HasRun-stops _ _ _ _ _ _ _ c.loop-edit-test.true w.in-SetWidth.is c.loop-edit.invariant
          (w.set_width-result.ensures.memory (sym w.result-is ∙ out)) (stays _ _ _ _ _ w.set_width-result.ensures.err (sym w.result-is ∙ out))
          (width_works _ c.loop-edit.self w.set_width-result.new.self _ whole w.set_width-result.ensures.ok
          w.set_width-result.ensures.err))
    ]

pub returns-then-eq-clause-counts : goal.returns-then-eq-clause-counts
returns-then-eq-clause-counts g c =
    let whole = c.loop-edit.invariant.laid_out in
    elim c.match-edit.branch [
      | in-Insert w ↦ rw w.self-is (whole_works c.args.self.now _ _ c.args.self.now.engine
          w.insert-result.new.self.engine
          (next_works c.args.self.now c.loop-edit.self w.insert-result.new.self _ _ _ _ c.loop-edit-test.true
          w.in-Insert.is c.loop-edit.invariant
          (edit_works _ c.loop-edit.self w.insert-result.new.self _ whole w.insert-result.ensures.ok
          w.insert-result.ensures.err)))
      | in-Delete w ↦ rw w.self-is (whole_works c.args.self.now _ _ c.args.self.now.engine
          w.delete-result.new.self.engine
          (next_works c.args.self.now c.loop-edit.self w.delete-result.new.self _ _ _ _ c.loop-edit-test.true
          w.in-Delete.is c.loop-edit.invariant
          (edit_works _ c.loop-edit.self w.delete-result.new.self _ whole w.delete-result.ensures.ok
          w.delete-result.ensures.err)))
      | in-SetWidth w ↦ rw w.self-is
          (whole_works c.args.self.now _ _ c.args.self.now.engine w.set_width-result.new.self.engine
          (next_works c.args.self.now c.loop-edit.self w.set_width-result.new.self _ _ _ _ c.loop-edit-test.true
          w.in-SetWidth.is c.loop-edit.invariant
          (width_works _ c.loop-edit.self w.set_width-result.new.self _ whole w.set_width-result.ensures.ok
          w.set_width-result.ensures.err)))
    ]

pub returns-then-eq-clause-rules : goal.returns-then-eq-clause-rules
returns-then-eq-clause-rules g c =
    let out = lacks_memory _ _ refl refl refl refl c.match-edit.result (sym c.eq.ensures ∙ c.if-eq.true) in
    elim c.match-edit.branch [
      | in-Insert w ↦ rw w.self-is (HasRun-rules _ _ _ _ _ _ c.loop-edit.invariant (stays _ _ _ _ _ w.insert-result.ensures.err (sym w.result-is ∙ out)))
      | in-Delete w ↦ rw w.self-is (HasRun-rules _ _ _ _ _ _ c.loop-edit.invariant (stays _ _ _ _ _ w.delete-result.ensures.err (sym w.result-is ∙ out)))
      | in-SetWidth w ↦ rw w.self-is (HasRun-rules _ _ _ _ _ _ c.loop-edit.invariant (stays _ _ _ _ _ w.set_width-result.ensures.err (sym w.result-is ∙ out)))
    ]

pub loop-edit-preserved : goal.loop-edit-preserved
loop-edit-preserved g c =
    let other = has_memory _ _ refl c.match-edit.result (sym c.eq.ensures ∙ c.if-eq.false) in
    let whole = c.loop-edit.invariant.laid_out in
    elim c.match-edit.branch [
      | in-Insert w ↦ rw w.self-is (HasRun-next _ _ _ _ _ _ _ c.loop-edit-test.true w.in-Insert.is
          c.loop-edit.invariant (edited _ _ _ _ w.insert-result.ensures.ok w.insert-result.ensures.err
          (rw w.result-is at other)) (edit_works _ _ _ _ whole w.insert-result.ensures.ok w.insert-result.ensures.err))
      | in-Delete w ↦ rw w.self-is (HasRun-next _ _ _ _ _ _ _ c.loop-edit-test.true w.in-Delete.is
          c.loop-edit.invariant (edited _ _ _ _ w.delete-result.ensures.ok w.delete-result.ensures.err
          (rw w.result-is at other)) (edit_works _ _ _ _ whole w.delete-result.ensures.ok w.delete-result.ensures.err))
      | in-SetWidth w ↦ rw w.self-is
          (HasRun-next _ _ _ _ _ _ _ c.loop-edit-test.true w.in-SetWidth.is c.loop-edit.invariant
          (refilled_to _ _ _ _ w.set_width-result.ensures.ok w.set_width-result.ensures.err (rw w.result-is at other))
          (width_works _ _ _ _ whole w.set_width-result.ensures.ok w.set_width-result.ensures.err))
    ]

pub returns-clause-ok : goal.returns-clause-ok
returns-clause-ok g c =
    c.loop-edit.invariant.held ∙ ap (after_all (cuts_at c.args.self.now) (held_at c.args.self.now)) (take_all c.loop-edit.edit-index c.args.edits.now (omega arith))

pub returns-clause-counts : goal.returns-clause-counts
returns-clause-counts g c = whole_works c.args.self.now _ _ c.args.self.now.engine c.loop-edit.self.engine c.loop-edit.invariant.works

pub returns-clause-laid_out : goal.returns-clause-laid_out
returns-clause-laid_out g c = c.loop-edit.invariant.laid_out

pub returns-clause-rules : goal.returns-clause-rules
returns-clause-rules g c = c.loop-edit.invariant.rules
