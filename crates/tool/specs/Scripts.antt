-- The lines of an edit script, and the command of each.
use Rattle.std.specs.Prelude.{ℕ, ◌==◌, nat_lt, nat_le, ◌&&◌, Bool, List, [], ◌∷◌, length, Option, None, if◌then◌else◌}
use Rattle.std.specs.List.{slice_split}
use Rattle.std.specs.Str.{chars}
use Rattle.std.specs.Str.Lossy.{utf8_valid_len}
use Rattle.script_commands.specs.Commands.{Command, command_in}
use Rattle.tool.specs.declared.script.TheConstants.{LINE_LIMIT}
use Rattle.text_run.specs.TextRun.{Ending, AtEnd, AtFailure}

-- a line ends at U+000A
abbrev pub is_line_end : ℕ → Bool
is_line_end b = b == 10

-- If the script has ended, the bytes after the last line end are a line, unless there are none. If the source failed,
-- they are a line only if they already exceed the length limit.
abbrev pub is_last_line : Ending → List ℕ → Bool
is_last_line AtEnd rest = nat_lt 0 (length rest)
is_last_line AtFailure rest = nat_lt LINE_LIMIT (length rest)

-- the lines of a script, given the parts into which the line ends split the script
abbrev pub lines_among : Ending → List (List ℕ) → List (List ℕ)
lines_among ending [] = []
lines_among ending (rest ∷ []) = if is_last_line ending rest then rest ∷ [] else []
lines_among ending (line ∷ next ∷ parts) = line ∷ lines_among ending (next ∷ parts)

abbrev pub script_lines : Ending → List ℕ → List (List ℕ)
script_lines ending bytes = lines_among ending (slice_split is_line_end bytes)

-- the command that a line's bytes encode; `None` if the line is too long, is not UTF-8, or is not a valid
-- command
abbrev pub command_of_line : Bool → List ℕ → Option Command
command_of_line queries line =
    if nat_le (length line) LINE_LIMIT && utf8_valid_len line == length line then command_in queries (chars line) else None
