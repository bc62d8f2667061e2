-- What an edit script changes, what it replies, and how its run ends.
use Rattle.std.specs.Prelude.{ℕ, ◌+◌, ◌-◌, nat_lt, Bool, List, [], ◌∷◌, ◌++◌, length, map, take, take_while, codes, slice_range, Option, Some, None, is_some, is_none, if◌then◌else◌}
use Rattle.std.specs.Fmt.{decimal}
use Rattle.std.specs.List.{concat, list_all}
use Rattle.lines.specs.Layouts.{Layout, Rules, cut_by}
use Rattle.lines.specs.declared.printing.print.Print.{Print}
use Rattle.session.specs.Edits.{Replacement, Held, edited, deletion, insertion, refusal, width_refusal}
use Rattle.session.specs.Kept.{lines_in, pars_of}
use Rattle.session.specs.Sessions.{layouts_at, page_of}
use Rattle.session.specs.Touched.{first_touched, touched_count}
use Rattle.session.specs.declared.edits.EditFault.{EditFault}
use Rattle.session.specs.declared.edits.EditFault.TheVariants as refused
use Rattle.tool.specs.Queries.{query_text}
use Rattle.tool.specs.Scripts.{command_of_line}
use Rattle.script_commands.specs.Commands.{Command, Insert, Delete, SetWidth, Show, Ask}
use Rattle.text_run.specs.TextRun.{Ending, AtEnd, AtFailure}
use Rattle.text_run.specs.declared.faults.RunFault.{RunFault}
use Rattle.text_run.specs.declared.faults.RunFault.TheVariants as fault
use Rattle.stream.specs.declared.reading.TheConstants.{CHUNK}
use Rattle.tool.specs.declared.script.ScriptOptions.{ScriptOptions}
use Rattle.tool.specs.declared.script.TheConstants.{LINE_LIMIT}

-- ---- one command

-- the reason for refusing a command, or `None`
abbrev pub command_refusal : Rules → Held → Command → Option EditFault
command_refusal rules held (Insert pos inserted) = refusal (cut_by rules) held.advances held.text (insertion pos inserted)
command_refusal rules held (Delete pos count) = refusal (cut_by rules) held.advances held.text (deletion pos count)
command_refusal rules held (SetWidth width) = if nat_lt 65535 width then Some refused.WidthOutOfRange else width_refusal width
command_refusal rules held Show = None
command_refusal rules held (Ask query) = None

-- the text, the width and the advances after a command that is not refused
abbrev pub executed : Held → Command → Held
executed held (Insert pos inserted) = edited held (insertion pos inserted)
executed held (Delete pos count) = edited held (deletion pos count)
executed held (SetWidth width) = record held { width = width }
executed held Show = held
executed held (Ask query) = held

abbrev pub after_command : Rules → Held → Command → Held
after_command rules held command = if is_none (command_refusal rules held command) then executed held command else held

-- the reply to an edit in which `new` lines replace `old` lines from `first` on
abbrev pub damage_text : ℕ → ℕ → ℕ → List ℕ
damage_text first old new = codes "@ " ++ decimal first ++ codes " " ++ decimal old ++ codes " " ++ decimal new ++ codes "\n"

-- the reply to an edit of the text: which lines of the touched paragraphs were replaced, and by how many
abbrev pub edit_text : (old new : List Layout) → Replacement → List ℕ
edit_text old new edit =
    let first = first_touched (pars_of old) edit in
    let touched = slice_range old first (first + touched_count (pars_of old) edit) in
    damage_text (length (lines_in (take first old))) (length (lines_in touched)) (length (lines_in touched) + length (lines_in new) - length (lines_in old))

-- the reply to a command that is not refused
abbrev pub executed_text : Rules → Print → Held → Command → List ℕ
executed_text rules print held (Insert pos inserted) = edit_text (layouts_at rules held) (layouts_at rules (executed held (Insert pos inserted))) (insertion pos inserted)
executed_text rules print held (Delete pos count) = edit_text (layouts_at rules held) (layouts_at rules (executed held (Delete pos count))) (deletion pos count)
executed_text rules print held (SetWidth width) = damage_text 0 (length (lines_in (layouts_at rules held))) (length (lines_in (layouts_at rules (executed held (SetWidth width)))))
executed_text rules print held Show = page_of rules print held
executed_text rules print held (Ask query) = query_text rules print held.width (layouts_at rules held) query

-- the reply to a refused command
abbrev pub refusal_text : EditFault → List ℕ
refusal_text refused.OutOfRange = codes "! range\n"
refusal_text refused.WidthOutOfRange = codes "! width\n"
refusal_text refused.TextTooLong = codes "! text too long\n"
refusal_text refused.ParagraphTooLong = codes "! paragraph too long\n"
refusal_text refused.NoMemory = []

abbrev pub answer_by : Option EditFault → List ℕ → List ℕ
answer_by (Some reason) text = refusal_text reason
answer_by None text = text

abbrev pub answer_to : Rules → Print → Held → Command → List ℕ
answer_to rules print held command = answer_by (command_refusal rules held command) (executed_text rules print held command)

-- ---- lines

-- The text, the width and the advances after lines are executed in order, and the replies to these lines. A line without a
-- command changes nothing.
abbrev pub after_line : Rules → Held → Option Command → Held
after_line rules held None = held
after_line rules held (Some command) = after_command rules held command

abbrev pub answer_line : Rules → Print → Held → Option Command → List ℕ
answer_line rules print held None = []
answer_line rules print held (Some command) = answer_to rules print held command

abbrev pub after_lines : Rules → Bool → Held → List (List ℕ) → Held
after_lines rules queries held [] = held
after_lines rules queries held (line ∷ lines) = after_lines rules queries (after_line rules held (command_of_line queries line)) lines

abbrev pub answers : Rules → ScriptOptions → Held → List (List ℕ) → List ℕ
answers rules options held [] = []
answers rules options held (line ∷ lines) =
    answer_line rules options.print held (command_of_line options.queries line) ++ answers rules options (after_line rules held (command_of_line options.queries line)) lines

-- ---- the run

-- whether a line is valid, and the lines before the first invalid line
abbrev pub is_good : Bool → List ℕ → Bool
is_good queries line = is_some (command_of_line queries line)

abbrev pub good_lines : Bool → List (List ℕ) → List (List ℕ)
good_lines queries lines = take_while (is_good queries) lines

-- the fault with which a run ends if all lines are valid
abbrev pub input_fault : Ending → Option RunFault
input_fault AtEnd = None
input_fault AtFailure = Some fault.Read

abbrev pub script_fault : Bool → Ending → List (List ℕ) → Option RunFault
script_fault queries ending lines =
    if list_all (is_good queries) lines then input_fault ending else Some (fault.BadLine (length (good_lines queries lines) + 1))

-- the maximum number of bytes that a run reads after the lines it has replied to: a line with its line end,
-- and one chunk
abbrev pub line_read_ahead : ℕ
line_read_ahead = LINE_LIMIT + 1 + CHUNK

abbrev pub with_ends : List (List ℕ) → List ℕ
with_ends lines = concat (map (λ line. line ++ 10 ∷ []) lines)
