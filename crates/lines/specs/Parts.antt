-- The line that a `Part` of a `Fill` describes.
use Rattle.lines.specs.Visual.{Line}
use Rattle.lines.specs.declared.fill.Part.{Part}

abbrev pub line_of : Part → Line
line_of part = record {
  start = part.start;
  columns = part.columns;
  levels = part.levels.now;
  ltov = part.ltov.now;
  vtol = part.vtol.now;
  chars = part.chars.now;
}
