-- The reply to an edit command follows from what the session's edit returns.
use Rattle.std.proofs.Common.{◌≡◌, ℕ, false, true, Option, Some, None, Result, Ok, Err, IfOk, IfErr, sym, subst, ap, ◌∙◌, if◌then◌else◌}
use Rattle.std.specs.Prelude.{is_none}
use Rattle.std.proofs.lemmas.Bool.{true≢false}
use Rattle.device.specs.Device.{Device}
use Rattle.lines.specs.Layouts.{Rules}
use Rattle.lines.specs.Writing.{PassedOn, StoppedIn}
use Rattle.lines.specs.declared.printing.print.Print.{Print}
use Rattle.session.specs.Edits.{Held}
use Rattle.session.specs.declared.edits.Damage.{Damage}
use Rattle.session.specs.declared.edits.EditFault.{EditFault}
use Rattle.session.specs.declared.edits.EditFault.TheVariants as e
use Rattle.tool.specs.Reading.{Edited, Executes, ExecutesNot, Stops, TakesMemory, answer_text, lacks_memory}
use Rattle.tool.specs.ScriptRun.{after_command, answer_by, answer_to, executed, executed_text, command_refusal}
use Rattle.script_commands.specs.Commands.{Command}
use Rattle.text_run.specs.declared.faults.RunFault.{RunFault}
use Rattle.text_run.specs.declared.faults.RunFault.TheVariants as f

module _ (rules : Rules) (print : Print) (command : Command) (old new : Held) where
  -- whether the text, the width and the reply after a command agree with the edit's result
  record Answered (edit : Result Damage EditFault) : Type 0 where
    pub held : new ≡ after_command rules old command
    pub text : answer_to rules print old command ≡ answer_text edit

  refused : (reason : EditFault) → command_refusal rules old command ≡ Some reason → new ≡ old → Answered (Err reason)
  refused reason is stays = record {
    held = stays ∙ sym (ap (λ (o : Option EditFault). if is_none o then executed old command else old) is);
    text = ap (λ (o : Option EditFault). answer_by o (executed_text rules print old command)) is;
  }

  answered : (edit : Result Damage EditFault) → Edited rules command old new edit → lacks_memory edit ≡ false → Answered edit
  answered (Ok damage) (accepted, made, text) room = record {
    held = made ∙ sym (ap (λ (o : Option EditFault). if is_none o then executed old command else old) accepted);
    text = ap (λ (o : Option EditFault). answer_by o (executed_text rules print old command)) accepted ∙ text print;
  }
  answered (Err e.NoMemory) replaced room = absurd (true≢false room)
  answered (Err e.OutOfRange) (is, stays) room = refused e.OutOfRange is stays
  answered (Err e.WidthOutOfRange) (is, stays) room = refused e.WidthOutOfRange is stays
  answered (Err e.TextTooLong) (is, stays) room = refused e.TextTooLong is stays
  answered (Err e.ParagraphTooLong) (is, stays) room = refused e.ParagraphTooLong is stays

  module _ (edit : Result Damage EditFault) (replaced : Edited rules command old new edit) (room : lacks_memory edit ≡ false) (written : ℕ) (writer_old writer_new : Device) where
    pub executes : (r : Result ℕ RunFault) → IfOk r (PassedOn (answer_text edit) written writer_old writer_new) → IfOk r (Executes rules print command written old new writer_old writer_new)
    executes (Ok n) passed =
        let t = answered edit replaced room in
        record { held = t.held; wrote = subst (λ text. PassedOn text written writer_old writer_new n) (sym t.text) passed }
    executes (Err fault) passed = tt

    stops_at : (fault : RunFault) → Stops (answer_text edit) written writer_old writer_new fault → ExecutesNot rules print command written old new writer_old writer_new fault
    stops_at (f.Write n) stopped =
        let t = answered edit replaced room in (t.held, subst (λ text. StoppedIn text written writer_old writer_new n) (sym t.text) stopped)
    stops_at f.Read stopped = absurd stopped
    stops_at (f.NotUtf8 n) stopped = absurd stopped
    stops_at f.ParagraphTooLong stopped = absurd stopped
    stops_at (f.BadLine n) stopped = absurd stopped
    stops_at f.Memory stopped = absurd stopped
    stops_at f.TextTooLong stopped = absurd stopped

    pub stops : (r : Result ℕ RunFault) → IfErr r (Stops (answer_text edit) written writer_old writer_new) → IfErr r (ExecutesNot rules print command written old new writer_old writer_new)
    stops (Ok n) stopped = tt
    stops (Err fault) stopped = stops_at fault stopped

  -- if an allocation failed, the command is not refused and may allocate, and nothing was changed
  pub wants : (edit : Result Damage EditFault) → Edited rules command old new edit → lacks_memory edit ≡ true → (command_refusal rules old command ≡ None) × TakesMemory rules old command × (new ≡ old)
  wants (Ok damage) replaced short = absurd (true≢false (sym short))
  wants (Err e.NoMemory) replaced short = replaced
  wants (Err e.OutOfRange) replaced short = absurd (true≢false (sym short))
  wants (Err e.WidthOutOfRange) replaced short = absurd (true≢false (sym short))
  wants (Err e.TextTooLong) replaced short = absurd (true≢false (sym short))
  wants (Err e.ParagraphTooLong) replaced short = absurd (true≢false (sym short))
