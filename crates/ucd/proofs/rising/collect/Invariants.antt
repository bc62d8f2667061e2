use Rattle.std.proofs.Common.{◌≡◌, ◌++◌, option_map}
use Rattle.ucd.specs.Grammar.{lines_of}
use Rattle.ucd.specs.Rising.{entries_in, AreRead}
use Rattle.ucd.proofs.FileLines.{lines_left, size_left}
use Rattle.ucd.proofs.rising.collect.Given as goal

-- the entries of the remaining lines follow the collected ones, and only the remaining lines may be faulty
abbrev pub invariant-loop-rest : goal.invariant-loop-rest
invariant-loop-rest g l = record {
  entries : l.entries.items ++ entries_in (g.V.Property.form l.version) (lines_left (option_map (λ rest. rest.now) l.rest)) ≡ entries_in (g.V.Property.form l.version) (lines_of l.file);
  read : AreRead (g.V.Property.form l.version) (lines_left (option_map (λ rest. rest.now) l.rest)) → AreRead (g.V.Property.form l.version) (lines_of l.file);
}

abbrev pub decreases-loop-rest : goal.decreases-loop-rest
decreases-loop-rest g l = size_left (option_map (λ rest. rest.now) l.rest)
