-- Lines of a paragraph, of which others replace a part, and the lists in which they are stored. No contract of an
-- exported function uses these definitions.
use Rattle.std.specs.Prelude.{ℕ, ◌+◌, List, ◌++◌, map, take, drop}
use Rattle.lines.specs.Splicing.{moved, moved_start}
use Rattle.lines.specs.Visual.{Line}
use Rattle.lines.specs.declared.fill.Shown.{Shown}
use Rattle.lines.specs.declared.splicing.Gap.{Gap}

-- the old lines before a gap, the lines of a text of n characters that fills the gap, and the old lines after the gap,
-- which move with their characters
abbrev pub spliced_lines : Gap → ℕ → List Line → List Line → List Line
spliced_lines gap n old between = take gap.line old ++ (map (moved 0 gap.start) between ++ map (moved gap.end (gap.start + n)) (drop gap.end_line old))

-- where these lines start
abbrev pub spliced_starts : Gap → ℕ → List ℕ → List ℕ → List ℕ
spliced_starts gap n old between =
    take gap.line old ++ (map (moved_start 0 gap.start) between ++ map (moved_start gap.end (gap.start + n)) (drop gap.end_line old))

-- the shown parts of these lines
abbrev pub spliced_shown : Gap → List Shown → List Shown → List Shown
spliced_shown gap old between = take gap.line old ++ (between ++ drop gap.end_line old)

-- a list with one item per character, in which other items replace those in a gap
abbrev pub spliced : {X : Type 0} → Gap → List X → List X → List X
spliced gap old between = take gap.start old ++ (between ++ drop gap.end old)
