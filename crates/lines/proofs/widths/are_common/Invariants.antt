use Rattle.std.proofs.Common.{◌≡◌, take}
use Rattle.std.specs.List.{list_all}
use Rattle.lines.specs.KnownWidths.{is_common}
use Rattle.lines.proofs.widths.are_common.Given as goal

abbrev pub invariant-loop-c : goal.invariant-loop-c
invariant-loop-c l = l.all ≡ list_all is_common (take l.c-index l.text)
