-- The characters of a `StyledText`, each with its style.
use Rattle.std.specs.Prelude.{ℕ, ◌+◌, nat_le, List, [], ◌∷◌, take, drop, if◌then◌else◌}
use Rattle.sequences.specs.Styled.{DEFAULT, Style}
use Rattle.sequences.specs.declared.look.Look.{Look}
use Rattle.sequences.specs.declared.style.Link.{Link}
use Rattle.sequences.specs.declared.style.StyleRun.{StyleRun}
use Rattle.sequences.specs.declared.style.StyledText.{StyledText}

abbrev pub style_of : List ℕ → Look → Link → Style
style_of links look link = record { look = look; link = take link.len (drop link.start links) }

abbrev pub style_in : List ℕ → StyleRun → Style
style_in links run = style_of links run.look run.link

-- the style at an index: the style of the last run that starts at or before the index, or else the given style
abbrev pub style_at : List ℕ → Style → List StyleRun → ℕ → Style
style_at links style [] k = style
style_at links style (run ∷ runs) k = style_at links (if nat_le run.start k then style_in links run else style) runs k

-- characters with their styles, where the first character is at index k
abbrev pub with_styles : List ℕ → List StyleRun → ℕ → List ℕ → List (ℕ × Style)
with_styles links runs k [] = []
with_styles links runs k (c ∷ characters) = (c, style_at links DEFAULT runs k) ∷ with_styles links runs (k + 1) characters

unfoldable pub styled_of : StyledText → List (ℕ × Style)
styled_of text = with_styles text.links.items text.runs.items 0 text.characters.items
