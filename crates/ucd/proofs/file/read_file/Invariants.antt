use Rattle.std.proofs.Common.{◌≡◌, ◌+◌, ◌≤◌, length, drop, option_map}
use Rattle.ucd.specs.Grammar.{lines_of}
use Rattle.ucd.proofs.FileLines.{HoldsLines, lines_left, size_left}
use Rattle.ucd.proofs.file.read_file.Given as goal

-- the entries hold the values of the first `line` lines, and `rest` is the text after these lines
abbrev pub invariant-loop-rest : goal.invariant-loop-rest
invariant-loop-rest g l = record {
  held : HoldsLines (g.V.Property.form l.version) (lines_of l.file) l.line l.table;
  left : drop l.line (lines_of l.file) ≡ lines_left (option_map (λ rest. rest.now) l.rest);
  count : l.line + size_left (option_map (λ rest. rest.now) l.rest) ≤ length l.file + 1;
}

abbrev pub decreases-loop-rest : goal.decreases-loop-rest
decreases-loop-rest g l = size_left (option_map (λ rest. rest.now) l.rest)
