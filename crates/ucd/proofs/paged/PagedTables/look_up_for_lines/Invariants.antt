use Rattle.std.proofs.Common.{◌≡◌, map, take}
use Rattle.ucd.specs.LineSeparators.{with_line_separators}
use Rattle.ucd.specs.Properties.{properties_of}
use Rattle.ucd.proofs.paged.PagedTables.look_up_for_lines.Given as goal

abbrev pub invariant-loop-k : goal.invariant-loop-k
invariant-loop-k l = take l.k l.properties ≡ map (properties_of (with_line_separators l.self)) (take l.k l.text)
