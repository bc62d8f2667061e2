-- How many lines at the start or at the end of two paragraphs are the same.
use Rattle.std.specs.Prelude.{◌≡◌, ◌<◌, ◌≤◌, ◌⊎◌, ℕ, true, false, List, length, Option}
use Rattle.std.specs.List.{All, AllZip}
use Rattle.lines.specs.Extents.{LineExtents}
use Rattle.lines.specs.Layouts.{Layout, Rules, lines_of, visuals}
use Rattle.lines.specs.Matching.{MatchAtEnd, MatchAtStart}
use Rattle.session.specs.Kept.{rules_for, BringsTo, IsFresh}
use Rattle.session.specs.declared.changed.Matching.{Matching}

-- whether `is_whole` is true exactly if all lines of both paragraphs match
pub record IsWhole (lines others : ℕ) (matching : Matching) : Type 0 where
  pub all : matching.is_whole ≡ true → (lines ≤ matching.count) × (others ≤ matching.count)
  pub some : matching.is_whole ≡ false → (matching.count < lines) ⊎ (matching.count < others)

pub record MatchingAtStart (old new : Layout) (matching : Matching) : Type 0 where
  pub lines : MatchAtStart (visuals old) (visuals new) matching.count
  pub whole : IsWhole (length old.lines) (length new.lines) matching

pub record MatchingAtEnd (old new : Layout) (matching : Matching) : Type 0 where
  pub lines : MatchAtEnd (visuals old) (visuals new) matching.count
  pub whole : IsWhole (length old.lines) (length new.lines) matching

-- a paragraph with its lines at another width
abbrev pub at_width : Rules → ℕ → Layout → Layout
at_width rules width l = record l { lines = lines_of (rules_for rules l) width l.text }

-- each paragraph is laid out; `parts` has the extents of its lines at a width, or `None` if it keeps its only
-- line
pub record AreBrought (rules : Rules) (width : ℕ) (kept : List Layout) (parts : List (Option LineExtents)) : Type 0 where
  pub laid : All (IsFresh rules) kept
  pub brought : AllZip (BringsTo rules width) kept parts
