-- The style that a `StyleRef` represents.
use Rattle.sequences.specs.Styled.{Style}
use Rattle.sequences.specs.declared.style.StyleRef.{StyleRef}

abbrev pub style_by : StyleRef → Style
style_by style = record { look = style.look; link = style.link.now }
