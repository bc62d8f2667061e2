-- The printed characters of a line with styles.
use Rattle.std.specs.Prelude.{ℕ, ◌&&◌, Bool, List, [], ◌∷◌, ◌++◌, codes, map, slice_index_or, Option, None, Some, if◌then◌else◌}
use Rattle.lines.specs.Bytes.{cells, direction_line, ordered_chars, padding}
use Rattle.lines.specs.Visual.{Visual, is_measured}
use Rattle.lines.specs.declared.printing.print.Print.{Print}
use Rattle.sequences.specs.Output.{written}
use Rattle.sequences.specs.Styled.{DEFAULT, Style}

-- characters that all have the same style
abbrev pub in_style : Style → List ℕ → List (ℕ × Style)
in_style style chars = map (λ c. (c, style)) chars

-- the style of the character at a position, given the styles of a line's characters in logical order
abbrev pub style_on : List Style → ℕ → Style
style_on styles k = slice_index_or styles k DEFAULT

-- what is printed for the character at a position in the line: spaces for a tab unless the paragraph is measured, and
-- otherwise the character itself
abbrev pub line_cells : Visual → ℕ → ℕ → List ℕ
line_cells visual c k = if is_measured visual then c ∷ [] else cells visual c k

-- characters in visual order, each with its style, given the positions of these characters in the line
abbrev pub styled_chars : Visual → List Style → List ℕ → List ℕ → List (ℕ × Style)
styled_chars visual styles (c ∷ chars) (k ∷ vtol) = in_style (style_on styles k) (line_cells visual c k) ++ styled_chars visual styles chars vtol
styled_chars visual styles chars vtol = []

-- the characters of a line in visual order, with their styles
abbrev pub line_chars : Print → Visual → List Style → List (ℕ × Style)
line_chars print visual styles = styled_chars visual styles (ordered_chars print visual) visual.vtol

-- the padding, which has the default style, and the characters of a line
abbrev pub shown_line : ℕ → Print → Visual → List Style → List (ℕ × Style)
shown_line width print visual styles = in_style DEFAULT (padding width print visual) ++ line_chars print visual styles

-- the prefix of a paragraph's lines: what is printed on the first line and on each other line, and whether the prefix is
-- to the right of the line
pub record LinePrefix : Type 0 where
  pub first : List (ℕ × Style)
  pub others : List (ℕ × Style)
  pub is_right : Bool

-- a line with its prefix, if the paragraph has one
abbrev pub with_prefix : Option LinePrefix → Visual → List (ℕ × Style) → List (ℕ × Style)
with_prefix None visual line = line
with_prefix (Some prefix) visual line =
    let own = if visual.is_first then prefix.first else prefix.others in
    if prefix.is_right then line ++ own else own ++ line

module _ (prefix : Option LinePrefix) (width : ℕ) (print : Print) (visual : Visual) (styles : List Style) where
  abbrev pub styled_line : List ℕ
  styled_line = written (with_prefix prefix visual (shown_line width print visual styles)) ++ codes "\n"

  -- a line; the base direction, if it is printed, follows the first line
  abbrev pub styled_lines : List ℕ
  styled_lines = styled_line ++ (if print.basedir && visual.is_first then direction_line visual.base else [])
