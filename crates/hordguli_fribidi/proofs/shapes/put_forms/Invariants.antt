use Rattle.hordguli_fribidi.specs.Shapes.{form_at}
use Rattle.hordguli_fribidi.proofs.InPlaceLemmas.{IsWritten}
use Rattle.hordguli_fribidi.proofs.shapes.put_forms.Given as goal

abbrev pub invariant-loop-k : goal.invariant-loop-k
invariant-loop-k l = IsWritten (form_at l.forms l.properties l.fn.string) l.fn.string l.string l.k
