-- The styles of a `Part`. No contract of an exported function uses this definition.
use Rattle.std.specs.Prelude.{List, map}
use Rattle.sequences.specs.Styled.{Style}
use Rattle.terminal.specs.Numbers.{numbered}
use Rattle.terminal.specs.declared.numbers.Part.{Part}

abbrev pub styles_in : Part → List Style
styles_in part = map (numbered part.text.now.links.items part.text.now.runs.items) part.numbers.now
