-- Opening a session on the text with which a script starts.
use Rattle.std.specs.Prelude.{◌≡◌, ℕ, ◌<◌, List, length, Some, None}
use Rattle.std.specs.Str.{chars}
use Rattle.std.specs.Str.Lossy.{utf8_valid_len}
use Rattle.lines.specs.Layouts.{Rules, cut_by}
use Rattle.lines.specs.declared.engine.Engine.{Engine}
use Rattle.session.specs.Edits.{text_refusal}
use Rattle.session.specs.Sessions.{SessionState, Opens}
use Rattle.session.specs.declared.edits.EditFault.{EditFault}
use Rattle.session.specs.declared.edits.EditFault.TheVariants as e
use Rattle.text_run.specs.declared.faults.RunFault.{RunFault}
use Rattle.text_run.specs.declared.faults.RunFault.TheVariants as f

-- the bytes are UTF-8, and a session was opened on their characters
pub record Starts (engine : Engine) (bytes : List ℕ) (width : ℕ) (state : SessionState) : Type 0 where
  pub valid : utf8_valid_len bytes ≡ length bytes
  pub opens : Opens engine (chars bytes) width state

-- Why no session was opened: the bytes are not UTF-8, or else the text is too long, or else one of its
-- paragraphs is too long. If an allocation failed, none of these applies, and the text is not empty.
abbrev pub IsStartFault : Rules → List ℕ → RunFault → Type 0
IsStartFault rules bytes (f.NotUtf8 n) = (n ≡ utf8_valid_len bytes) × (n < length bytes)
IsStartFault rules bytes f.TextTooLong = (utf8_valid_len bytes ≡ length bytes) × (text_refusal (cut_by rules) (chars bytes) ≡ Some e.TextTooLong)
IsStartFault rules bytes f.ParagraphTooLong =
    (utf8_valid_len bytes ≡ length bytes) × (text_refusal (cut_by rules) (chars bytes) ≡ Some e.ParagraphTooLong)
IsStartFault rules bytes f.Memory =
    (utf8_valid_len bytes ≡ length bytes) × (text_refusal (cut_by rules) (chars bytes) ≡ None) × (0 < length (chars bytes))
IsStartFault rules bytes fault = ⊥

abbrev pub start_fault : EditFault → RunFault
start_fault e.TextTooLong = f.TextTooLong
start_fault e.ParagraphTooLong = f.ParagraphTooLong
start_fault fault = f.Memory
