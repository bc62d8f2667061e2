-- The effects of the calls that set the width or the advances of a measured session.
use Rattle.std.specs.Prelude.{◌≡◌, ℕ, ◌+◌, ◌-◌, ◌<◌, ◌≤◌, nat_lt, Bool, List, ◌++◌, length, take, Option, Some, None, option_map, if◌then◌else◌}
use Rattle.std.specs.List.{concat, slice_range}
use Rattle.bidi.specs.Cuts.{paragraphs}
use Rattle.lines.specs.Engine.{rules_of, FillsAtMost, FindsExtentsAtMost, SameRules}
use Rattle.lines.specs.Layouts.{Layout}
use Rattle.lines.specs.declared.engine.Engine.{Engine}
use Rattle.session.specs.Damage.{Replaces}
use Rattle.session.specs.Edits.{have_room, replaced, replacing}
use Rattle.session.specs.Kept.{changed, lines_in, pars_of}
use Rattle.session.specs.Sessions.{SessionState, IsWholeLayout, SetsWidth, cuts_at, is_no_width, text_at}
use Rattle.session.specs.Touched.{start_of}
use Rattle.session.specs.declared.edits.AdvanceFault.{AdvanceFault}
use Rattle.session.specs.declared.edits.AdvanceFault.TheVariants.{NotMeasured, OutOfRange, WidthOutOfRange, ParagraphTooLong, NoMemory}
use Rattle.session.specs.declared.edits.Damage.{Damage}
use Rattle.session.specs.declared.measuring.Spliced.{Spliced}

-- the reason for refusing to set a width, or `None`; `advances` are those of the session if it is measured
abbrev pub measured_width_refusal : Option (List ℕ) → ℕ → Option AdvanceFault
measured_width_refusal None width = Some NotMeasured
measured_width_refusal (Some advances) width = if is_no_width width then Some WidthOutOfRange else None

-- whether a call may return this error: the reason for a refusal, or `NoMemory` if there is none
abbrev pub IsFaultFor : Option AdvanceFault → AdvanceFault → Type 0
IsFaultFor reason NoMemory = reason ≡ None
IsFaultFor reason fault = reason ≡ Some fault

-- After a refusal, the engine is unchanged. After `NoMemory`, `bound` limits the engine's work.
abbrev pub IsBoundedFor : AdvanceFault → (Engine → Engine → Type 0) → Engine → Engine → Type 0
IsBoundedFor NoMemory bound old new = bound old new
IsBoundedFor fault bound old new = new ≡ old

-- a failed call changes nothing except, after `NoMemory`, the counters
pub record Remains (reason : Option AdvanceFault) (bound : Engine → Engine → Type 0) (old new : SessionState) (fault : AdvanceFault) : Type 0 where
  pub answer : IsFaultFor reason fault
  pub kept : new.kept ≡ old.kept
  pub at_width : new.width ≡ old.width
  pub advances : new.advances ≡ old.advances
  pub laid_out : IsWholeLayout new
  pub rules : SameRules old.engine new.engine
  pub counts : IsBoundedFor fault bound old.engine new.engine

-- the width of a measured session was set
pub record SetsMeasuredWidth (width : ℕ) (old new : SessionState) (answer : Damage) : Type 0 where
  pub allowed : measured_width_refusal old.advances width ≡ None
  pub sets : SetsWidth width old new answer

abbrev pub SetsMeasuredWidthNot : ℕ → SessionState → SessionState → AdvanceFault → Type 0
SetsMeasuredWidthNot width old = Remains (measured_width_refusal old.advances width) (FindsExtentsAtMost (changed (rules_of old.engine) width old.kept)) old

-- the advances of a text after `list` has replaced those of the characters from `pos` on
abbrev pub advances_set : List ℕ → ℕ → List ℕ → List ℕ
advances_set old pos list = replaced old (replacing pos (length list) list)

-- the reason for refusing to set advances, or `None`; `old` are the advances of the session if it is measured
abbrev pub advances_refusal : (ℕ → ℕ → Bool) → Option (List ℕ) → List ℕ → ℕ → List ℕ → Option AdvanceFault
advances_refusal is_cut None text pos list = Some NotMeasured
advances_refusal is_cut (Some old) text pos list =
    if nat_lt (length text) (pos + length list) then Some OutOfRange
    else (if have_room (advances_set old pos list) (paragraphs is_cut text) then None else Some ParagraphTooLong)

-- Whether `number` adjacent paragraphs cover a range: the first of them contains the range's first character,
-- and the last contains the range's last character. For an empty range, `first` and `number` are 0.
pub record Cover (pars : List (List ℕ)) (pos count first number : ℕ) : Type 0 where
  pub none : count ≡ 0 → (first ≡ 0) × (number ≡ 0)
  pub within : first + number ≤ length pars
  pub before : 0 < count → start_of pars first ≤ pos
  pub first_has : 0 < count → pos < start_of pars (first + 1)
  pub last_has : 0 < count → start_of pars (first + number - 1) < pos + count
  pub after : 0 < count → pos + count ≤ start_of pars (first + number)

-- the damage names the paragraphs of the range, their old lines, and how many lines replace the old ones
pub record IsMeasuredDamage (pos count : ℕ) (old new : List Layout) (damage : Damage) : Type 0 where
  pub covered : Cover (pars_of old) pos count damage.first_par damage.old_pars
  pub new_pars : damage.new_pars ≡ damage.old_pars
  pub first_line : damage.first_line ≡ length (lines_in (take damage.first_par old))
  pub old_lines : damage.old_lines ≡ length (lines_in (slice_range old damage.first_par (damage.first_par + damage.old_pars)))
  pub pars : Replaces old new damage.first_par damage.old_pars damage.new_pars
  pub lines : Replaces (lines_in old) (lines_in new) damage.first_line damage.old_lines damage.new_lines

-- the number of characters in the paragraphs from index `first` up to `end`
abbrev pub covered_chars : List Layout → ℕ → ℕ → ℕ
covered_chars kept first end = length (concat (slice_range (pars_of kept) first end))

-- the advances of a range were set: the paragraphs of the range were filled again, and nothing was analysed
pub record SetsAdvances (pos : ℕ) (list : List ℕ) (old new : SessionState) (answer : Damage) : Type 0 where
  pub allowed : advances_refusal (cuts_at old) old.advances (text_at old) pos list ≡ None
  pub text : text_at new ≡ text_at old
  pub at_width : new.width ≡ old.width
  pub advances : new.advances ≡ option_map (λ all. advances_set all pos list) old.advances
  pub laid_out : IsWholeLayout new
  pub rules : SameRules old.engine new.engine
  pub damage : IsMeasuredDamage pos (length list) old.kept new.kept answer
  pub counts : FillsAtMost (covered_chars old.kept answer.first_par (answer.first_par + answer.old_pars)) old.engine new.engine

abbrev pub SetsAdvancesNot : ℕ → List ℕ → SessionState → SessionState → AdvanceFault → Type 0
SetsAdvancesNot pos list old = Remains (advances_refusal (cuts_at old) old.advances (text_at old) pos list) (FillsAtMost (length (text_at old))) old

-- the advances of the paragraphs that overlap a range, after new advances are set in the range
abbrev pub spliced : Spliced → List ℕ
spliced list = list.front.now ++ (list.new.now ++ list.back.now)
