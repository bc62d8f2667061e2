-- Which of a call's damaged lines have changed.
use Rattle.std.specs.Prelude.{◌≡◌, ◌≢◌, ℕ, ◌+◌, ◌-◌, ◌<◌, ◌≤◌, List, [], ◌∷◌, length, min, slice_get, Some}
use Rattle.std.specs.List.{All}
use Rattle.lines.specs.Layouts.{visuals, Layout}
use Rattle.lines.specs.Matching.{ShareEnds}
use Rattle.lines.specs.Visual.{Visual}
use Rattle.session.specs.Damage.{Replaces}
use Rattle.session.specs.Kept.{lines_in}
use Rattle.lines.specs.declared.matching.SharedLines.{SharedLines}
use Rattle.session.specs.declared.edits.ChangedLines.{ChangedLines}
use Rattle.session.specs.declared.edits.Damage.{Damage}

-- Whether the changed lines are the damaged lines without the longest run of unchanged lines at their start,
-- and then without the longest such run at their end. If old and new lines remain, the first old line differs
-- from the first new line, and the last old line from the last new line.
pub record AreChanged (old new : List Visual) (damage : Damage) (changed : ChangedLines) : Type 0 where
  pub start : damage.first_line ≤ changed.first_line
  pub end : changed.first_line + changed.old_lines ≤ damage.first_line + damage.old_lines
  pub lines : Replaces old new changed.first_line changed.old_lines changed.new_lines
  pub first_differs : changed.first_line < damage.first_line + damage.old_lines → changed.first_line < damage.first_line + damage.new_lines
      → slice_get old changed.first_line ≢ slice_get new changed.first_line
  pub last_differs : 0 < changed.old_lines → 0 < changed.new_lines
      → slice_get old (changed.first_line + changed.old_lines - 1) ≢ slice_get new (changed.first_line + changed.new_lines - 1)

-- the value that names no lines as changed
abbrev pub no_lines : ChangedLines
no_lines = record { first_line = 0; old_lines = 0; new_lines = 0 }

-- all lines as changed lines: the value right after a session is opened
abbrev pub all_lines : List Layout → ChangedLines
all_lines kept = record { first_line = 0; old_lines = 0; new_lines = length (lines_in kept) }

-- If one paragraph replaces one other, both have these lines in common.
abbrev pub AreKnown : List Layout → ℕ → ℕ → List Layout → SharedLines → Type 0
AreKnown kept first end new shared =
    (old only : Layout) → slice_get kept first ≡ Some old → end ≡ first + 1 → new ≡ only ∷ []
    → ShareEnds (visuals old) (visuals only) shared.front shared.back

-- whether a paragraph has at least one line
abbrev pub HasLines : Layout → Type 0
HasLines l = 0 < length l.lines

-- the damaged lines without up to `start` lines at their start and then up to `end` lines at their end
abbrev pub without_same : Damage → ℕ → ℕ → ChangedLines
without_same damage start end =
    let most = min damage.old_lines damage.new_lines in
    let front = min start most in
    let back = min end (most - front) in
    record { first_line = damage.first_line + front; old_lines = damage.old_lines - front - back; new_lines = damage.new_lines - front - back }

-- if each paragraph has at least one line, `changed` names the changed lines (`AreChanged`)
abbrev pub AreFound : List Layout → List Layout → Damage → ChangedLines → Type 0
AreFound old new damage changed = All HasLines old → All HasLines new → AreChanged (lines_in old) (lines_in new) damage changed
