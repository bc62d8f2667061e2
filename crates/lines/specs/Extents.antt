-- Where the lines of a paragraph start, and how much of each is shown. A layout depends on the width only
-- through these extents.
use Rattle.std.specs.Prelude.{ℕ, ◌/◌, List, [], ◌∷◌, length, map, take, drop, slice_range, Option, None, Some}
use Rattle.lines.specs.Filling.{columns, line_starts_of}
use Rattle.lines.specs.Layouts.{Layout, Rules, start_of}
use Rattle.lines.specs.CharInfos.{infos_of}
use Rattle.lines.specs.Showing.{lines_shown}
use Rattle.lines.specs.ShownParts.{margin_of, shown}
use Rattle.lines.specs.Visual.{Line}
use Rattle.lines.specs.declared.char_info.CharInfo.{CharInfo}
use Rattle.lines.specs.declared.fill.Shown.{Shown}

pub record LineExtents : Type 0 where
  pub starts : List ℕ
  pub shown : List Shown

-- a list with the length and the columns of each shown part
abbrev pub in_pairs : List Shown → List ℕ
in_pairs [] = []
in_pairs (part ∷ parts) = part.len ∷ part.columns ∷ in_pairs parts

-- the shown parts that such a list describes
abbrev pub from_pairs : List ℕ → List Shown
from_pairs (len ∷ columns ∷ items) = record { len = len; columns = columns } ∷ from_pairs items
from_pairs items = []

-- the extents stored in a list: first the start of each line, and then the length and the columns of each
-- shown part
abbrev pub unpacked : List ℕ → LineExtents
unpacked items = record { starts = take (length items / 3) items; shown = from_pairs (drop (length items / 3) items) }

-- the extents stored as the shown part of the only line, if it is given, or else in a list
abbrev pub stored : Option Shown → List ℕ → LineExtents
stored (Some part) items = record { starts = 0 ∷ []; shown = part ∷ [] }
stored None items = unpacked items

-- how many characters of the line from s to e are shown, and their total columns
abbrev pub shown_between : Option ℕ → List CharInfo → ℕ → ℕ → Shown
shown_between margin infos s e =
    let part = shown margin (slice_range infos s e) in
    record { len = length part; columns = columns part }

-- The shown parts of the lines that start at the given positions. Each line ends where the next one starts,
-- and the last line ends at n.
abbrev pub shown_from : Option ℕ → ℕ → List CharInfo → List ℕ → List Shown
shown_from margin n infos [] = []
shown_from margin n infos (s ∷ []) = shown_between margin infos s n ∷ []
shown_from margin n infos (s ∷ t ∷ starts) = shown_between margin infos s t ∷ shown_from margin n infos (t ∷ starts)

-- the extents of a paragraph's lines at a width
abbrev pub extents_of : Rules → ℕ → List ℕ → LineExtents
extents_of rules width text =
    let infos = infos_of rules.tables rules.options rules.advances text in
    let starts = line_starts_of rules.options.nobreak width infos in
    record { starts = starts; shown = shown_from (margin_of rules.options width) (length text) infos starts }

-- the shown part of a line
abbrev pub shown_in : Line → Shown
shown_in line = record { len = length line.levels; columns = line.columns }

-- the extents of given lines
abbrev pub extents_in : List Line → LineExtents
extents_in lines = record { starts = map start_of lines; shown = map shown_in lines }

-- a layout with its lines replaced by the lines with these extents
abbrev pub reflowed : Rules → Layout → LineExtents → Layout
reflowed rules l extents =
    record l { lines = lines_shown rules.tables rules.options l.base l.text l.levels extents.starts extents.shown }

-- Scratch space: its capacity in characters, and the number of characters whose lines were written with it.
pub record ScratchState : Type 0 where
  pub len : ℕ
  pub written : ℕ
