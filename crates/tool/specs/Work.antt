-- Upper bounds on the work of a script's lines. A command does at most as much work as its edit does in a
-- session. A refused command does none.
use Rattle.std.specs.Prelude.{ℕ, ◌+◌, Bool, List, [], ◌∷◌, Option, Some, None, is_none, if◌then◌else◌}
use Rattle.bidi.specs.Cuts.{paragraphs}
use Rattle.lines.specs.Engine.{analysed_of, filled_of, written_of, RisesBy}
use Rattle.lines.specs.Layouts.{Rules, cut_by}
use Rattle.lines.specs.declared.engine.Engine.{Engine}
use Rattle.session.specs.Edits.{Held, deletion, insertion}
use Rattle.session.specs.Kept.{changed}
use Rattle.session.specs.Sessions.{layouts_at}
use Rattle.session.specs.Touched.{fresh}
use Rattle.tool.specs.ScriptRun.{after_line, command_refusal}
use Rattle.tool.specs.Scripts.{command_of_line}
use Rattle.script_commands.specs.Commands.{Command, Insert, Delete, SetWidth, Show, Ask}

module _ (rules : Rules) where
  -- upper bounds for a command that is not refused: how many characters it analyses, and how many it fills
  -- into lines and writes
  abbrev pub analysed_by : Held → Command → ℕ
  analysed_by held (Insert pos inserted) = fresh (paragraphs (cut_by rules) held.text) (insertion pos inserted)
  analysed_by held (Delete pos count) = fresh (paragraphs (cut_by rules) held.text) (deletion pos count)
  analysed_by held (SetWidth width) = 0
  analysed_by held Show = 0
  analysed_by held (Ask query) = 0

  abbrev pub filled_by : Held → Command → ℕ
  filled_by held (Insert pos inserted) = fresh (paragraphs (cut_by rules) held.text) (insertion pos inserted)
  filled_by held (Delete pos count) = fresh (paragraphs (cut_by rules) held.text) (deletion pos count)
  filled_by held (SetWidth width) = changed rules width (layouts_at rules held)
  filled_by held Show = 0
  filled_by held (Ask query) = 0

  -- upper bounds for any command, for a line, and for several lines that are executed in order
  abbrev pub work_of : (Held → Command → ℕ) → Held → Command → ℕ
  work_of work held command = if is_none (command_refusal rules held command) then work held command else 0

  abbrev pub work_of_line : (Held → Command → ℕ) → Held → Option Command → ℕ
  work_of_line work held None = 0
  work_of_line work held (Some command) = work_of work held command

  abbrev pub work_of_lines : Bool → (Held → Command → ℕ) → Held → List (List ℕ) → ℕ
  work_of_lines queries work held [] = 0
  work_of_lines queries work held (line ∷ lines) =
      work_of_line work held (command_of_line queries line) + work_of_lines queries work (after_line rules held (command_of_line queries line)) lines

  -- each work counter of an engine rose by at most its bound
  pub record Works (most : (Held → Command → ℕ) → ℕ) (old new : Engine) : Type 0 where
    pub analysed : RisesBy (most analysed_by) (analysed_of old) (analysed_of new)
    pub filled : RisesBy (most filled_by) (filled_of old) (filled_of new)
    pub written : RisesBy (most filled_by) (written_of old) (written_of new)

  abbrev pub CommandWorks : Held → Command → Engine → Engine → Type 0
  CommandWorks held command = Works (λ work. work_of work held command)

  abbrev pub LineWorks : Bool → Held → List ℕ → Engine → Engine → Type 0
  LineWorks queries held line = Works (λ work. work_of_line work held (command_of_line queries line))

  abbrev pub LinesWork : Bool → Held → List (List ℕ) → Engine → Engine → Type 0
  LinesWork queries held lines = Works (λ work. work_of_lines queries work held lines)
