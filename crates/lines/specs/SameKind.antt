-- Edits that only lengthen or shorten a run of characters of the same kind. Such an edit changes no level and no break
-- mark outside the run. No contract of an exported function uses these definitions, except those of the engine.
use Rattle.std.specs.Prelude.{◌≡◌, ◌⊎◌, ℕ, ◌+◌, ◌-◌, ◌<◌, ◌≤◌, List, All, length, take, drop, replicate, slice_index, slice_range, Option, None, Some, if◌then◌else◌}
use Rattle.std.specs.List.{splice}
use Rattle.ucd.specs.Tables.{class_of}
use Rattle.ucd.specs.declared.tables.Tables.{Tables}
use Rattle.bidi.specs.Doubling as bidi
use Rattle.breaks.specs.Bases.{character}
use Rattle.breaks.specs.Doubling as breaks
use Rattle.breaks.specs.declared.mark.Mark.{Mark}
use Rattle.lines.specs.Layouts.{with_advances, IsLaidAt, Rules}
use Rattle.lines.specs.declared.same_kind.Replacement.{Replacement}
use Rattle.lines.specs.declared.same_kind.RunChange.{RunChange}
use Rattle.lines.specs.declared.same_kind.RunEdit.{RunEdit}

-- whether a text differs from another one only in the edited characters
pub record IsEdited (old new : List ℕ) (edit : Replacement) : Type 0 where
  pub within : (edit.at + edit.removed ≤ length old) × (edit.at + edit.inserted ≤ length new)
  pub before : take edit.at new ≡ take edit.at old
  pub after : drop (edit.at + edit.inserted) new ≡ drop (edit.at + edit.removed) old

-- Whether two characters are of the same kind: neither the rules for levels nor those for break marks distinguish
-- them.
pub record AreOfOneKind (tables : Tables) (c d : ℕ) : Type 0 where
  pub levels : bidi.AreOfOneKind tables c d
  pub marks : character tables d ≡ character tables c

-- the break mark between two characters of the kind of c, or `None` if such a character cannot be doubled
abbrev pub mark_in_run : Tables → ℕ → Option Mark
mark_in_run tables c = if bidi.can_be_doubled (class_of tables c) then breaks.mark_if_doubled (character tables c) else None

-- whether all characters of a text from one index up to another are of the kind of c
abbrev pub AreOfKind : Tables → ℕ → List ℕ → ℕ → ℕ → Type 0
AreOfKind tables c text from to = All (AreOfOneKind tables c) (slice_range text from to)

-- Whether an edit replaces a run with another one that starts at the same index. All characters of both runs are of
-- the same kind, and can be doubled. Neither run is empty.
pub record IsRunEdit (tables : Tables) (old new : List ℕ) (run : RunEdit) : Type 0 where
  pub some : (0 < run.old_len) × (0 < run.new_len)
  pub within : (run.at + run.old_len ≤ length old) × (run.at + run.new_len ≤ length new)
  pub before : take run.at new ≡ take run.at old
  pub after : drop (run.at + run.new_len) new ≡ drop (run.at + run.old_len) old
  pub old_run : AreOfKind tables (slice_index old run.at) old run.at (run.at + run.old_len)
  pub new_run : AreOfKind tables (slice_index old run.at) new run.at (run.at + run.new_len)
  pub mark : mark_in_run tables (slice_index old run.at) ≡ Some run.mark

-- the run edit that replaces m characters from index `at` on with n characters
abbrev pub run_from : ℕ → ℕ → ℕ → Mark → RunEdit
run_from at m n mark = record { at = at; old_len = m; new_len = n; mark = mark }

-- whether the characters are not those of a run edit
abbrev pub IsNoRunEdit : Tables → List ℕ → List ℕ → ℕ → ℕ → ℕ → Type 0
IsNoRunEdit tables old new at m n = (mark : Mark) → ¬ (IsRunEdit tables old new (run_from at m n mark))

-- whether the edited characters are of the same kind as the character before them or that after them
abbrev pub IsInRun : Tables → List ℕ → List ℕ → Replacement → Type 0
IsInRun tables old new edit =
    (at : ℕ) × (mark : Mark) × (((0 < edit.at) × (at + 1 ≡ edit.at)) ⊎ (at ≡ edit.at)) × IsRunEdit tables old new (run_from at (edit.removed + 1) (edit.inserted + 1) mark)

-- whether a paragraph is laid out at this width, and the run edit makes this text of it
pub record MakesText (rules : Rules) (width : ℕ) (change : RunChange) (text : List ℕ) : Type 0 where
  pub laid : IsLaidAt (with_advances rules change.laid.now.advances) width change.laid.now
  pub run : IsRunEdit rules.tables change.laid.now.text text change.run

-- the characters that a run edit replaces
abbrev pub replacement : RunEdit → Replacement
replacement run = record { at = run.at; removed = run.old_len; inserted = run.new_len }

-- the levels after such an edit: all characters of the run have the same level
abbrev pub levels_with : RunEdit → List ℕ → List ℕ
levels_with run levels = splice levels run.at (run.at + run.old_len) (replicate run.new_len (slice_index levels run.at))

-- the break marks after such an edit: `run.mark` between the characters of the run, and the same mark after it
abbrev pub marks_with : RunEdit → List Mark → List Mark
marks_with run marks = splice marks run.at (run.at + (run.old_len - 1)) (replicate (run.new_len - 1) run.mark)
