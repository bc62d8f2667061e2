-- The visible state of a session, and what its calls do.
use Rattle.std.specs.Prelude.{◌≡◌, ℕ, ◌-◌, ◌^◌, ◌<◌, ◌==◌, nat_lt, Bool, false, true, ◌||◌, List, length, Option, Some, None, if◌then◌else◌}
use Rattle.std.specs.List.{flat_map}
use Rattle.lines.specs.Engine.{rules_of, SameRules, LaysOutAtMost, Fills, FillsAtMost, FindsExtentsAtMost}
use Rattle.lines.specs.Layouts.{Layout, Rules, cut_by, with_advances}
use Rattle.lines.specs.Pages.{layout_bytes}
use Rattle.lines.specs.declared.engine.Engine.{Engine}
use Rattle.lines.specs.declared.printing.print.Print.{Print}
use Rattle.session.specs.Edits.{Replacement, Held, advances_after, content_refusal, replaced, refusal, text_refusal, width_refusal}
use Rattle.session.specs.Changes.{no_lines}
use Rattle.session.specs.Damage.{IsDamage, NamesAll}
use Rattle.session.specs.Kept.{advances_in, changed, first_advances, pars_of, text_of, layouts_of, AreForEach}
use Rattle.session.specs.Touched.{fresh}
use Rattle.session.specs.declared.edits.ChangedLines.{ChangedLines}
use Rattle.session.specs.declared.edits.Damage.{Damage}
use Rattle.session.specs.declared.edits.EditFault.{EditFault}
use Rattle.session.specs.declared.edits.EditFault.TheVariants.{WidthOutOfRange, NoMemory}

-- the state of a session; `advances` is `None` if it is not measured, `kept` has the layout of each
-- paragraph, and `changed` are the lines that the last successful call changed
pub record SessionState : Type 0 where
  pub engine : Engine
  pub width : ℕ
  pub advances : Option (List ℕ)
  pub kept : List Layout
  pub changed : ChangedLines

-- the state of a session with the given engine, width and layouts, in which no lines have changed
abbrev pub state_of : Engine → ℕ → Bool → List Layout → SessionState
state_of engine width is_measured kept = record { engine = engine; width = width; advances = advances_in is_measured kept; kept = kept; changed = no_lines }

-- a state with other changed lines
abbrev pub with_changed : SessionState → ChangedLines → SessionState
with_changed state changed = record state { changed = changed }

-- the text of a session
abbrev pub text_at : SessionState → List ℕ
text_at state = text_of state.kept

-- whether a session's engine finds a paragraph boundary between two characters
abbrev pub cuts_at : SessionState → ℕ → ℕ → Bool
cuts_at state = cut_by (rules_of state.engine)

-- the rules by which the text of a session is laid out
abbrev pub rules_at : SessionState → Rules
rules_at state = with_advances (rules_of state.engine) state.advances

abbrev pub held_at : SessionState → Held
held_at state = record { text = text_at state; width = state.width; advances = state.advances }

-- the fresh layouts of a text with its advances
abbrev pub layouts_at : Rules → Held → List Layout
layouts_at rules held = layouts_of (with_advances rules held.advances) held.width held.text

-- the printed bytes of the fresh layouts of a text with its advances
abbrev pub page_of : Rules → Print → Held → List ℕ
page_of rules print held = flat_map (layout_bytes held.width print) (layouts_at rules held)

-- the printed bytes of the fresh layouts of a session's text
abbrev pub page_at : SessionState → Print → List ℕ
page_at state print = page_of (rules_of state.engine) print (held_at state)

-- whether the layouts are the fresh layouts of the text, and the text, its advances and the width are allowed
pub record IsWholeLayout (state : SessionState) : Type 0 where
  pub kept : state.kept ≡ layouts_of (rules_at state) state.width (text_at state)
  pub allowed : content_refusal (cuts_at state) state.advances (text_at state) ≡ None
  pub filled : 0 < state.width
  pub advances : AreForEach state.advances (text_at state)

-- the reason for refusing to open a session on a text at a width, or `None`
abbrev pub opening_refusal : (ℕ → ℕ → Bool) → List ℕ → ℕ → Option EditFault
opening_refusal is_cut text width = if width == 0 then Some WidthOutOfRange else text_refusal is_cut text

-- whether a width is invalid for a measured session: 0, or more than 2^31−1
abbrev pub is_no_width : ℕ → Bool
is_no_width width = (width == 0) || nat_lt (2 ^ 31 - 1) width

-- the reason for refusing to open a measured session, or `None`
abbrev pub measured_refusal : (ℕ → ℕ → Bool) → List ℕ → ℕ → Option EditFault
measured_refusal is_cut text width = if is_no_width width then Some WidthOutOfRange else text_refusal is_cut text

-- whether a call may return this error: the reason for a refusal, or `NoMemory` if there is none
abbrev pub IsAnswerFor : Option EditFault → EditFault → Type 0
IsAnswerFor reason NoMemory = reason ≡ None
IsAnswerFor reason fault = reason ≡ Some fault

-- After a refusal, the engine is unchanged. After `NoMemory`, `bound` limits the engine's work.
abbrev pub IsCountedFor : EditFault → (Engine → Engine → Type 0) → Engine → Engine → Type 0
IsCountedFor NoMemory bound old new = bound old new
IsCountedFor fault bound old new = new ≡ old

-- a session was opened on a text at a width; there was no reason to refuse it
pub record OpensAs (is_measured : Bool) (reason : Option EditFault) (engine : Engine) (whole : List ℕ) (width : ℕ) (state : SessionState) : Type 0 where
  pub allowed : reason ≡ None
  pub text : text_at state ≡ whole
  pub at_width : state.width ≡ width
  pub advances : state.advances ≡ first_advances is_measured (length whole)
  pub laid_out : IsWholeLayout state
  pub rules : SameRules engine state.engine
  pub counts : LaysOutAtMost (length whole) engine state.engine

abbrev pub Opens : Engine → List ℕ → ℕ → SessionState → Type 0
Opens engine whole width = OpensAs false (opening_refusal (cut_by (rules_of engine)) whole width) engine whole width

-- a measured session was opened, in which each character has advance 0
abbrev pub OpensMeasured : Engine → List ℕ → ℕ → SessionState → Type 0
OpensMeasured engine whole width = OpensAs true (measured_refusal (cut_by (rules_of engine)) whole width) engine whole width

-- opening a session failed, and `back` holds the engine and the fault that were returned
pub record OpensNotFor (reason : Option EditFault) (engine : Engine) (whole : List ℕ) (back : Engine × EditFault) : Type 0 where
  pub reason_is : IsAnswerFor reason back.1
  pub rules : SameRules engine back.0
  pub counts : IsCountedFor back.1 (LaysOutAtMost (length whole)) engine back.0

abbrev pub OpensNot : Engine → List ℕ → ℕ → Engine × EditFault → Type 0
OpensNot engine whole width = OpensNotFor (opening_refusal (cut_by (rules_of engine)) whole width) engine whole

abbrev pub OpensMeasuredNot : Engine → List ℕ → ℕ → Engine × EditFault → Type 0
OpensMeasuredNot engine whole width = OpensNotFor (measured_refusal (cut_by (rules_of engine)) whole width) engine whole

-- an edit was executed: the text is the edited text, and `answer` is the damage
pub record Edits (edit : Replacement) (old new : SessionState) (answer : Damage) : Type 0 where
  pub accepted : refusal (cuts_at old) old.advances (text_at old) edit ≡ None
  pub text : text_at new ≡ replaced (text_at old) edit
  pub at_width : new.width ≡ old.width
  pub advances : new.advances ≡ advances_after old.advances edit
  pub laid_out : IsWholeLayout new
  pub rules : SameRules old.engine new.engine
  pub damage : IsDamage edit old.kept new.kept answer
  pub counts : LaysOutAtMost (fresh (pars_of old.kept) edit) old.engine new.engine

-- the width was set, and all paragraphs except those that keep their only line were filled again
pub record SetsWidth (width : ℕ) (old new : SessionState) (answer : Damage) : Type 0 where
  pub accepted : width_refusal width ≡ None
  pub text : text_at new ≡ text_at old
  pub at_width : new.width ≡ width
  pub advances : new.advances ≡ old.advances
  pub laid_out : IsWholeLayout new
  pub rules : SameRules old.engine new.engine
  pub damage : NamesAll old.kept new.kept answer
  pub counts : FillsAtMost (length (text_at old)) old.engine new.engine
  pub exact : Fills (changed (rules_of old.engine) width old.kept) old.engine new.engine

-- a failed edit changes nothing except, after `NoMemory`, the counters
pub record Stays (reason : Option EditFault) (bound : Engine → Engine → Type 0) (old new : SessionState) (fault : EditFault) : Type 0 where
  pub answer : IsAnswerFor reason fault
  pub kept : new.kept ≡ old.kept
  pub at_width : new.width ≡ old.width
  pub advances : new.advances ≡ old.advances
  pub laid_out : IsWholeLayout new
  pub rules : SameRules old.engine new.engine
  pub counts : IsCountedFor fault bound old.engine new.engine

abbrev pub EditsNot : Replacement → SessionState → SessionState → EditFault → Type 0
EditsNot edit old = Stays (refusal (cuts_at old) old.advances (text_at old) edit) (LaysOutAtMost (fresh (pars_of old.kept) edit)) old

abbrev pub SetsWidthNot : ℕ → SessionState → SessionState → EditFault → Type 0
SetsWidthNot width old = Stays (width_refusal width) (FindsExtentsAtMost (changed (rules_of old.engine) width old.kept)) old
