-- The printed bytes of paragraphs.
use Rattle.std.specs.Prelude.{ℕ, List, Option}
use Rattle.std.specs.List.{enumerate_from, flat_map}
use Rattle.lines.specs.Bytes.{line_bytes}
use Rattle.lines.specs.Layouts.{Layout, Rules, layout_of}
use Rattle.lines.specs.Visual.{Line, visual_of}
use Rattle.lines.specs.declared.printing.print.Print.{Print}

-- the printed bytes of a paragraph's lines, in order
abbrev pub lines_bytes : ℕ → Print → ℕ → ℕ → Option (List ℕ) → List ℕ → List Line → List ℕ
lines_bytes width print base tab_width advances text lines =
    flat_map (λ nth. line_bytes width print (visual_of base tab_width advances text lines nth.0 nth.1)) (enumerate_from 0 lines)

-- the printed bytes of a layout's lines, in order
abbrev pub layout_bytes : ℕ → Print → Layout → List ℕ
layout_bytes width print layout =
    flat_map (λ nth. line_bytes width print (visual_of layout.base layout.tab_width layout.advances layout.text layout.lines nth.0 nth.1)) (enumerate_from 0 layout.lines)

module _ (rules : Rules) (width : ℕ) (print : Print) where
  -- the printed bytes of a paragraph's fresh layout
  abbrev pub paragraph_bytes : List ℕ → List ℕ
  paragraph_bytes text = layout_bytes width print (layout_of rules width text)

  -- the printed bytes of several paragraphs, in order
  abbrev pub page : List (List ℕ) → List ℕ
  page pars = flat_map paragraph_bytes pars
