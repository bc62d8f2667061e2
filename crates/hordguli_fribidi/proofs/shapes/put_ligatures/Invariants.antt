use Rattle.std.proofs.Common.{◌≡◌}
use Rattle.hordguli_fribidi.specs.Shapes.{ligated_at, ligature_before, marked_at}
use Rattle.hordguli_fribidi.proofs.InPlaceLemmas.{IsWritten}
use Rattle.hordguli_fribidi.proofs.shapes.put_ligatures.Given as goal

abbrev pub invariant-loop-k : goal.invariant-loop-k
invariant-loop-k l = record {
  before : l.before ≡ ligature_before l.levels l.fn.string l.k;
  string : IsWritten (ligated_at l.levels l.fn.string) l.fn.string l.string l.k;
  properties : IsWritten (marked_at l.levels l.fn.string l.fn.properties) l.fn.properties l.properties l.k;
}
