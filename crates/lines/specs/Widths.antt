-- The width of each character of a line.
use Rattle.std.specs.Prelude.{ℕ, ◌+◌, List, [], ◌∷◌, map, Option, None, Some, if◌then◌else◌}
use Rattle.lines.specs.CharInfos.{size_in}
use Rattle.lines.specs.Tabs.{is_tab, to_stop}

-- the advances of a text's characters, with 0 for each character that has no advance
abbrev pub advances_on : List ℕ → List ℕ → List ℕ
advances_on advances [] = []
advances_on [] (c ∷ text) = 0 ∷ advances_on [] text
advances_on (size ∷ advances) (c ∷ text) = size ∷ advances_on advances text

-- the size of each character, which is its advance in a measured paragraph
abbrev pub sizes_of : ℕ → Option (List ℕ) → List ℕ → List ℕ
sizes_of tab_width None text = map (size_in tab_width) text
sizes_of tab_width (Some advances) text = advances_on advances text

-- the width of a character that starts at a column: its size or, for a tab, the columns to the next multiple
-- of its size
abbrev pub width_from : ℕ → ℕ → ℕ → ℕ → ℕ
width_from tab_width column c size = if is_tab tab_width c then to_stop size column else size

-- the width of each character of a text that starts at a column
abbrev pub widths_from : ℕ → ℕ → List ℕ → List ℕ → List ℕ
widths_from tab_width column (c ∷ text) (size ∷ sizes) =
    width_from tab_width column c size ∷ widths_from tab_width (column + width_from tab_width column c size) text sizes
widths_from tab_width column text sizes = []

unfoldable pub widths_of : ℕ → Option (List ℕ) → List ℕ → List ℕ
widths_of tab_width advances text = widths_from tab_width 0 text (sizes_of tab_width advances text)
