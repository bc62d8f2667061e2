-- Where a list of edits stops after an allocation failure, and upper bounds on the work of the edits.
use Rattle.std.specs.Prelude.{◌≡◌, ℕ, ◌+◌, ◌<◌, List, [], ◌∷◌, ◌++◌, length, Option, None, is_none, if◌then◌else◌}
use Rattle.std.specs.Str.{chars}
use Rattle.bidi.specs.Cuts.{paragraphs}
use Rattle.lines.specs.Engine.{analysed_of, filled_of, written_of, RisesBy}
use Rattle.lines.specs.Layouts.{Rules, cut_by}
use Rattle.lines.specs.declared.engine.Engine.{Engine}
use Rattle.session.specs.Edits.{Held, after_all, after_one, deletion, insertion, refusal, width_refusal}
use Rattle.session.specs.Kept.{changed}
use Rattle.session.specs.Sessions.{layouts_at}
use Rattle.session.specs.Touched.{fresh}
use Rattle.session.specs.declared.edits.Edit.{Edit}
use Rattle.session.specs.declared.edits.Edit.TheVariants.{Insert, Delete, SetWidth}
use Rattle.session.specs.declared.edits.EditFault.{EditFault}

module _ (rules : Rules) where
  -- the reason for refusing an edit, or `None`
  abbrev pub edit_refusal : Held → Edit → Option EditFault
  edit_refusal held (Insert pos text) = refusal (cut_by rules) held.advances held.text (insertion pos (chars text.now))
  edit_refusal held (Delete pos count) = refusal (cut_by rules) held.advances held.text (deletion pos count)
  edit_refusal held (SetWidth width) = width_refusal width

  -- an upper bound on how many characters an edit analyses, if it is not refused
  abbrev pub analysed_by : Held → Edit → ℕ
  analysed_by held (Insert pos text) = fresh (paragraphs (cut_by rules) held.text) (insertion pos (chars text.now))
  analysed_by held (Delete pos count) = fresh (paragraphs (cut_by rules) held.text) (deletion pos count)
  analysed_by held (SetWidth width) = 0

  -- an upper bound on how many characters an edit fills into lines and writes, if it is not refused
  abbrev pub filled_by : Held → Edit → ℕ
  filled_by held (Insert pos text) = fresh (paragraphs (cut_by rules) held.text) (insertion pos (chars text.now))
  filled_by held (Delete pos count) = fresh (paragraphs (cut_by rules) held.text) (deletion pos count)
  filled_by held (SetWidth width) = changed rules width (layouts_at rules held)

  -- an upper bound on the work of any edit, which is 0 for a refused edit
  abbrev pub work_of : (Held → Edit → ℕ) → Held → Edit → ℕ
  work_of work held edit = if is_none (edit_refusal held edit) then work held edit else 0

  -- the sum of these bounds for edits that are executed in order
  abbrev pub work_of_all : (Held → Edit → ℕ) → Held → List Edit → ℕ
  work_of_all work held [] = 0
  work_of_all work held (edit ∷ edits) = work_of work held edit + work_of_all work (after_one (cut_by rules) held edit) edits

  pub record WorksAtMost (start : Held) (edits : List Edit) (old new : Engine) : Type 0 where
    pub analysed : RisesBy (work_of_all analysed_by start edits) (analysed_of old) (analysed_of new)
    pub filled : RisesBy (work_of_all filled_by start edits) (filled_of old) (filled_of new)
    pub written : RisesBy (work_of_all filled_by start edits) (written_of old) (written_of new)

  -- whether an edit may allocate: only if the text or the inserted text is not empty
  abbrev pub TakesMemory : Held → Edit → Type 0
  TakesMemory held (Insert pos text) = 0 < length held.text + length (chars text.now)
  TakesMemory held (Delete pos count) = 0 < length held.text
  TakesMemory held (SetWidth width) = 0 < length held.text

  -- The run stopped at `edit`, after the edits in `front`. This edit is not refused and may allocate. The
  -- work counters may include the work of `edit`.
  pub record StopsAt (start : Held) (edits : List Edit) (now : Held) (old new : Engine) : Type 0 where
    pub front : List Edit
    pub edit : Edit
    pub after : List Edit
    pub place : edits ≡ front ++ edit ∷ after
    pub held : now ≡ after_all (cut_by rules) start front
    pub accepted : edit_refusal now edit ≡ None
    pub takes : TakesMemory now edit
    pub works : WorksAtMost start (front ++ edit ∷ []) old new
