-- The printed bytes of lines of a text, and how writing them can fail.
use Rattle.std.specs.Prelude.{ℕ, ◌+◌, ◌<◌, ◌≤◌, List, length}
use Rattle.std.specs.List.{flat_map, slice_range}
use Rattle.lines.specs.Bytes.{line_bytes}
use Rattle.lines.specs.declared.printing.print.Print.{Print}
use Rattle.session.specs.Kept.{lines_in}
use Rattle.session.specs.Sessions.{SessionState}
use Rattle.session.specs.declared.printing.RangeFault.{RangeFault}
use Rattle.session.specs.declared.printing.RangeFault.TheVariants.{OutOfRange, Write}

-- the printed bytes of `count` lines from `first` on
abbrev pub lines_page : SessionState → ℕ → ℕ → Print → List ℕ
lines_page state first count print = flat_map (line_bytes state.width print) (slice_range (lines_in state.kept) first (first + count))

-- whether the text has `count` lines from `first` on
abbrev pub HasLines : SessionState → ℕ → ℕ → Type 0
HasLines state first count = first + count ≤ length (lines_in state.kept)

-- What an error means for a range of lines or characters. `OutOfRange`: the range reaches past the end, and
-- nothing was written. `Write`: the range exists, and the sink failed.
abbrev pub WritesNot : ℕ → ℕ → ℕ → Type 0 → (ℕ → Type 0) → RangeFault → Type 0
WritesNot size first count untouched stopped OutOfRange = (size < first + count) × untouched
WritesNot size first count untouched stopped (Write fault) = (first + count ≤ size) × stopped fault.written

abbrev pub PrintsNot : SessionState → ℕ → ℕ → Type 0 → (ℕ → Type 0) → RangeFault → Type 0
PrintsNot state = WritesNot (length (lines_in state.kept))
