-- The results of the functions that open and edit a session.
use Rattle.std.specs.Prelude.{◌≡◌, ℕ, ◌+◌, ◌<◌, ◌⊎◌, Bool, List, length, Option, Some, None}
use Rattle.ucd.specs.declared.tables.Tables.{Tables}
use Rattle.lines.specs.Engine.{analysed_of, filled_of, rules_of, written_of}
use Rattle.lines.specs.Layouts.{cut_by, unmeasured}
use Rattle.lines.specs.declared.engine.Engine.{Engine}
use Rattle.lines.specs.declared.options.Options.{Options}
use Rattle.session.specs.Changes.{all_lines, AreChanged}
use Rattle.session.specs.Edits.{Replacement}
use Rattle.session.specs.Kept.{lines_in}
use Rattle.session.specs.Measuring.{SetsAdvances, SetsAdvancesNot, SetsMeasuredWidth, SetsMeasuredWidthNot}
use Rattle.session.specs.Sessions.{SessionState, IsAnswerFor, Opens, OpensMeasured, Edits, EditsNot, SetsWidth, SetsWidthNot, measured_refusal, opening_refusal, text_at}
use Rattle.session.specs.declared.edits.ChangedLines.{ChangedLines}
use Rattle.session.specs.declared.edits.Damage.{Damage}
use Rattle.session.specs.declared.edits.AdvanceFault.{AdvanceFault}
use Rattle.session.specs.declared.edits.AdvanceFault.TheVariants as measured
use Rattle.session.specs.declared.edits.EditFault.{EditFault}
use Rattle.session.specs.declared.edits.EditFault.TheVariants as faults
use Rattle.hordguli_c.specs.Calls.{OfText}
use Rattle.hordguli_c.specs.Statuses.{advance_status, edit_status}
use Rattle.hordguli_c.specs.declared.session_calls.ChangedOut.{ChangedOut}
use Rattle.hordguli_c.specs.declared.session_calls.DamageOut.{DamageOut}
use Rattle.hordguli_c.specs.declared.session_calls.OpenWidth.{OpenWidth}
use Rattle.hordguli_c.specs.declared.session_calls.OpenWidth.TheVariants.{Columns, Units}
use Rattle.hordguli_c.specs.declared.status.Status.{Status}
use Rattle.hordguli_c.specs.declared.status.Status.TheVariants as is

-- whether an engine has these tables and options, and has done no work yet
pub record IsFresh (tables : Tables) (options : Options) (engine : Engine) : Type 0 where
  pub rules : rules_of engine ≡ unmeasured tables options
  pub analysed : analysed_of engine ≡ 0
  pub filled : filled_of engine ≡ 0
  pub written : written_of engine ≡ 0

-- the reason for refusing to open a session at a width in columns, or a measured session at a width in the
-- caller's unit; `None` if neither the text nor the width is refused
abbrev pub refusal_at : (ℕ → ℕ → Bool) → List ℕ → OpenWidth → Option EditFault
refusal_at is_cut text (Columns width) = opening_refusal is_cut text width
refusal_at is_cut text (Units width) = measured_refusal is_cut text width

abbrev pub OpensAt : Engine → List ℕ → OpenWidth → SessionState → Type 0
OpensAt engine text (Columns width) = Opens engine text width
OpensAt engine text (Units width) = OpensMeasured engine text width

-- a session was opened on a text at a width, with a new engine
pub record IsOpened (tables : Tables) (options : Options) (text : List ℕ) (width : OpenWidth) (state : SessionState) : Type 0 where
  pub engine : Engine
  pub fresh : IsFresh tables options engine
  pub opens : OpensAt engine text width state
  pub changed : state.changed ≡ all_lines state.kept

-- a session was not opened: the status is the first reason that applies, or `NoMemory` if none applies
pub record IsRefused (tables : Tables) (options : Options) (text : List ℕ) (width : OpenWidth) (status : Status) : Type 0 where
  pub fault : EditFault
  pub reason : IsAnswerFor (refusal_at (cut_by (unmeasured tables options)) text width) fault
  pub status_is : status ≡ edit_status fault

-- The result of opening a session on tables. If the tables have too many owners, the call fails with
-- `NoMemory` before it checks the limits of the text.
abbrev pub OpensOn : Options → List ℕ → OpenWidth → Status → Option Tables → Option SessionState → Option SessionState → Type 0
OpensOn options text width status tables (Some state) after = (status ≡ is.AlreadyOpen) × (after ≡ Some state)
OpensOn options text width status None None after = (status ≡ is.Closed) × (after ≡ None)
OpensOn options text width status (Some tables) None (Some state) = (status ≡ is.Ok) × IsOpened tables options text width state
OpensOn options text width status (Some tables) None None = (status ≡ is.NoMemory) ⊎ IsRefused tables options text width status

abbrev pub OpensSession : Option Options → List ℕ → OpenWidth → Status → Option Tables → Option SessionState → Option SessionState → Type 0
OpensSession None bytes width status tables before after = (status ≡ is.UnknownOption) × (after ≡ before)
OpensSession (Some options) bytes width status tables before after =
    OfText bytes status (after ≡ before) (λ text. OpensOn options text width status tables before after)

abbrev pub damage_out : Damage → DamageOut
damage_out damage = record {
  first_line = damage.first_line;
  old_lines = damage.old_lines;
  new_lines = damage.new_lines;
  first_paragraph = damage.first_par;
  old_paragraphs = damage.old_pars;
  new_paragraphs = damage.new_pars;
}

abbrev pub changed_out : ChangedLines → ChangedOut
changed_out changed = record { first_line = changed.first_line; old_lines = changed.old_lines; new_lines = changed.new_lines }

-- after a successful call, the session's changed lines are those of the call; after an error, they stay those
-- of the last successful call
abbrev pub ChangesLines : SessionState → SessionState → Damage → Type 0
ChangesLines before after damage = AreChanged (lines_in before.kept) (lines_in after.kept) damage after.changed

abbrev pub KeepsLines : SessionState → SessionState → Type 0
KeepsLines before after = after.changed ≡ before.changed

-- Either an edit is executed and its damage is stored, or the edit fails and nothing is stored. The error can
-- be `NoMemory` only if `may_want` holds.
abbrev pub Tries : (SessionState → SessionState → Damage → Type 0) → (SessionState → SessionState → EditFault → Type 0) → Type 0
    → Status → SessionState → SessionState → DamageOut → DamageOut → Type 0
Tries makes refuses may_want status before after old new =
    ((damage : Damage) × (status ≡ is.Ok) × makes before after damage × ChangesLines before after damage × (new ≡ damage_out damage))
    ⊎ ((fault : EditFault) × (status ≡ edit_status fault) × refuses before after fault × KeepsLines before after × (fault ≡ faults.NoMemory → may_want) × (new ≡ old))

abbrev pub TriesEdit : Replacement → Status → SessionState → SessionState → DamageOut → DamageOut → Type 0
TriesEdit edit status before = Tries (Edits edit) (EditsNot edit) (0 < length (text_at before) + length edit.piece) status before

abbrev pub TriesWidth : ℕ → Status → SessionState → SessionState → DamageOut → DamageOut → Type 0
TriesWidth width status before = Tries (SetsWidth width) (SetsWidthNot width) (0 < length (text_at before)) status before

-- the same as `Tries`, for a call for measured text
abbrev pub TriesMeasured : (SessionState → SessionState → Damage → Type 0) → (SessionState → SessionState → AdvanceFault → Type 0) → Type 0
    → Status → SessionState → SessionState → DamageOut → DamageOut → Type 0
TriesMeasured makes refuses may_want status before after old new =
    ((damage : Damage) × (status ≡ is.Ok) × makes before after damage × ChangesLines before after damage × (new ≡ damage_out damage))
    ⊎ ((fault : AdvanceFault) × (status ≡ advance_status fault) × refuses before after fault × KeepsLines before after × (fault ≡ measured.NoMemory → may_want) × (new ≡ old))

abbrev pub TriesMeasuredWidth : ℕ → Status → SessionState → SessionState → DamageOut → DamageOut → Type 0
TriesMeasuredWidth width status before = TriesMeasured (SetsMeasuredWidth width) (SetsMeasuredWidthNot width) (0 < length (text_at before)) status before

abbrev pub TriesAdvances : ℕ → List ℕ → Status → SessionState → SessionState → DamageOut → DamageOut → Type 0
TriesAdvances pos list status before = TriesMeasured (SetsAdvances pos list) (SetsAdvancesNot pos list) (0 < length (text_at before)) status before
