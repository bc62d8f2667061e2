-- The printed bytes of a paragraph with styles.
use Rattle.std.specs.Prelude.{ℕ, List, map, drop, Option, None, encode_utf8_all}
use Rattle.std.specs.List.{enumerate_from, flat_map}
use Rattle.lines.specs.Layouts.{Layout, Rules, layout_of}
use Rattle.lines.specs.Visual.{Line, visual_of}
use Rattle.lines.specs.declared.printing.print.Print.{Print}
use Rattle.sequences.specs.Laws.{characters_of}
use Rattle.sequences.specs.Styled.{Style}
use Rattle.terminal.specs.Lines.{LinePrefix, styled_lines}

abbrev pub styles_of : List (ℕ × Style) → List Style
styles_of shown = map (λ c. c.1) shown

module _ (prefix : Option LinePrefix) (width : ℕ) (print : Print) (layout : Layout) (styles : List Style) where
  -- the printed characters of a layout's n-th line, given the styles of the paragraph's characters
  abbrev pub styled_nth : ℕ × Line → List ℕ
  styled_nth nth =
      styled_lines prefix width print (visual_of layout.base layout.tab_width layout.advances layout.text layout.lines nth.0 nth.1) (drop nth.1.start styles)

  -- the printed characters of all lines of a layout, in order
  abbrev pub styled_layout : List ℕ
  styled_layout = flat_map styled_nth (enumerate_from 0 layout.lines)

-- the printed bytes of a paragraph that is laid out anew, given the styles of its characters
unfoldable pub styled_bytes : Option LinePrefix → Rules → ℕ → Print → List ℕ → List Style → List ℕ
styled_bytes prefix rules width print text styles = encode_utf8_all (styled_layout prefix width print (layout_of rules width text) styles)

-- the printed bytes of a paragraph without a prefix, given its characters with their styles
abbrev pub styled_paragraph : Rules → ℕ → Print → List (ℕ × Style) → List ℕ
styled_paragraph rules width print shown = styled_bytes None rules width print (characters_of shown) (styles_of shown)
