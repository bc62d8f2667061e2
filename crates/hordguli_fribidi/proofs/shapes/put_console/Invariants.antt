use Rattle.std.proofs.Common.{◌≡◌}
use Rattle.hordguli_fribidi.specs.Shapes.{console_at, console_marked_at, first_at}
use Rattle.hordguli_fribidi.proofs.InPlaceLemmas.{IsWritten}
use Rattle.hordguli_fribidi.proofs.shapes.put_console.Given as goal

abbrev pub invariant-loop-k : goal.invariant-loop-k
invariant-loop-k l = record {
  first : l.first ≡ first_at l.pairs l.ligatures l.levels l.fn.string l.k;
  string : IsWritten (console_at l.pairs l.ligatures l.levels l.fn.string) l.fn.string l.string l.k;
  properties : IsWritten (console_marked_at l.pairs l.ligatures l.levels l.fn.string l.fn.properties) l.fn.properties l.properties l.k;
}
