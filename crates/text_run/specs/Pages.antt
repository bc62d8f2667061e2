-- Whether any part of a paragraph is printed.
use Rattle.std.specs.Prelude.{Bool, ◌||◌, not}
use Rattle.lines.specs.Printing.{skips_lines}
use Rattle.lines.specs.declared.printing.print.Print.{Print}

-- whether the options print any part of a paragraph
abbrev pub prints_some : Print → Bool
prints_some print = print.basedir || not (skips_lines print)
