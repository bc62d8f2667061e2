use Rattle.std.proofs.Common.{◌≡◌, take}
use Rattle.std.specs.List.{list_all}
use Rattle.lines.specs.KnownWidths.{is_printable}
use Rattle.lines.proofs.widths.are_printable.Given as goal

abbrev pub invariant-loop-c : goal.invariant-loop-c
invariant-loop-c l = l.all ≡ list_all is_printable (take l.c-index l.text)
