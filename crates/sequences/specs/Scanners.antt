-- The state of a `Scanner`.
use Rattle.std.specs.Prelude.{ℕ, Bool, List, length}
use Rattle.sequences.specs.Styled.{Pen}
use Rattle.sequences.specs.StyledTexts.{style_of}
use Rattle.sequences.specs.declared.look.Look.{Look}
use Rattle.sequences.specs.declared.style.Link.{Link}
use Rattle.sequences.specs.declared.scanner.Scanner.{Scanner}

abbrev pub pen_at : List ℕ → Look → Link → Bool → Pen
pen_at links look link after_underline = record { style = style_of links look link; links_len = length links; after_underline = after_underline }

-- the part of the state that determines what later text shows
unfoldable pub pen_of : Scanner → Pen
pen_of scanner = pen_at scanner.text.links.items scanner.look scanner.link scanner.after_underline
