use Rattle.std.proofs.Common.{◌≡◌, ◌+◌, ◌≤◌, length, drop, option_map}
use Rattle.ucd.specs.Grammar.{lines_of}
use Rattle.ucd.specs.JoiningFiles.{readings, readings_from}
use Rattle.ucd.proofs.FileLines.{lines_left, size_left}
use Rattle.ucd.proofs.JoiningReadings.{HoldsFirst}
use Rattle.ucd.proofs.joining_file.read_claims.Given as goal

-- the claims are those of the first `line` lines, and `rest` is the text after these lines
abbrev pub invariant-loop-rest : goal.invariant-loop-rest
invariant-loop-rest l = record {
  held : HoldsFirst (readings l.file (lines_of l.text)) l.line l.claims;
  left : drop l.line (readings l.file (lines_of l.text)) ≡ readings_from l.file l.before (lines_left (option_map (λ rest. rest.now) l.rest));
  count : l.line + size_left (option_map (λ rest. rest.now) l.rest) ≤ length l.text + 1;
}

abbrev pub decreases-loop-rest : goal.decreases-loop-rest
decreases-loop-rest l = size_left (option_map (λ rest. rest.now) l.rest)
