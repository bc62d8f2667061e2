use Rattle.hordguli_fribidi.specs.Shapes.{mirrored_at}
use Rattle.hordguli_fribidi.proofs.InPlaceLemmas.{IsWritten}
use Rattle.hordguli_fribidi.proofs.shapes.put_mirrors.Given as goal

abbrev pub invariant-loop-k : goal.invariant-loop-k
invariant-loop-k l = IsWritten (mirrored_at l.index l.pages l.numbers l.levels l.fn.string) l.fn.string l.string l.k
