-- The printed bytes of a line.
use Rattle.std.specs.Prelude.{ℕ, ◌-◌, nat_lt, ◌&&◌, not, List, [], ◌∷◌, ◌++◌, codes, map, replicate, slice_index, encode_utf8_all, if◌then◌else◌}
use Rattle.std.specs.Fmt.{decimal}
use Rattle.std.specs.List.{join_with_byte}
use Rattle.reorder.specs.Order.{is_odd}
use Rattle.lines.specs.Columns.{width_at}
use Rattle.lines.specs.Tabs.{is_tab}
use Rattle.lines.specs.Visual.{Visual, is_measured}
use Rattle.lines.specs.declared.printing.print.Print.{Print}

-- the line `RTL` if the base level is odd, and the line `LTR` otherwise
abbrev pub direction_line : ℕ → List ℕ
direction_line base = if is_odd base then codes "RTL\n" else codes "LTR\n"

-- a line of decimal numbers, separated by single spaces
abbrev pub numbers_line : List ℕ → List ℕ
numbers_line numbers = join_with_byte 32 (map decimal numbers) ++ codes "\n"

-- the spaces that pad a line of a right-to-left paragraph to the width; none with `nopad`, or if the
-- paragraph is measured
abbrev pub padding : ℕ → Print → Visual → List ℕ
padding width print visual =
    if is_odd visual.base && (not print.nopad && not (is_measured visual)) then replicate (width - visual.columns) 32 else []

-- the characters in visual order, mirrored or unchanged
abbrev pub ordered_chars : Print → Visual → List ℕ
ordered_chars print visual = if print.nomirror then map (slice_index visual.text) visual.vtol else visual.chars

-- what is printed for a character, given its position in the line: the character, or spaces for a tab
abbrev pub cells : Visual → ℕ → ℕ → List ℕ
cells visual c k = if is_tab visual.tab_width (slice_index visual.text k) then replicate (width_at visual k) 32 else c ∷ []

-- characters in visual order, with spaces in place of tabs; `vtol` holds each character's position in the
-- line
abbrev pub expanded : Visual → List ℕ → List ℕ → List ℕ
expanded visual (c ∷ chars) (k ∷ vtol) = cells visual c k ++ expanded visual chars vtol
expanded visual chars vtol = []

-- the characters that are printed; tabs become spaces if there are tab stops and the paragraph is not
-- measured
abbrev pub shown_chars : Print → Visual → List ℕ
shown_chars print visual =
    if nat_lt 0 visual.tab_width && not (is_measured visual) then expanded visual (ordered_chars print visual) visual.vtol else ordered_chars print visual

abbrev pub visual_line : ℕ → Print → Visual → List ℕ
visual_line width print visual = padding width print visual ++ encode_utf8_all (shown_chars print visual) ++ codes "\n"

abbrev pub line_bytes : ℕ → Print → Visual → List ℕ
line_bytes width print visual =
    (if print.novisual then [] else visual_line width print visual)
    ++ (if print.basedir && visual.is_first then direction_line visual.base else [])
    ++ (if print.ltov then numbers_line visual.ltov else [])
    ++ (if print.vtol then numbers_line visual.vtol else [])
    ++ (if print.levels then numbers_line visual.levels else [])
