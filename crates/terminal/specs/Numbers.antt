-- The numbers of styles. No contract of an exported function uses these definitions.
use Rattle.std.specs.Prelude.{ℕ, zero, suc, List, slice_get}
use Rattle.std.specs.Option.{option_map_or}
use Rattle.sequences.specs.Styled.{DEFAULT, Style}
use Rattle.sequences.specs.StyledTexts.{style_in}
use Rattle.sequences.specs.declared.style.StyleRun.{StyleRun}

-- the style with this number: 0 is the default style, and n is the style of the n-th run
abbrev pub numbered : List ℕ → List StyleRun → ℕ → Style
numbered links runs zero = DEFAULT
numbered links runs (suc n) = option_map_or (style_in links) (slice_get runs n) DEFAULT
