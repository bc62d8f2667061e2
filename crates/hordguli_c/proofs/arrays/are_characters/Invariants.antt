use Rattle.std.proofs.Common.{◌<◌, ℕ, slice_index_or}
use Rattle.std.specs.Char.{IsScalar}
use Rattle.hordguli_c.proofs.arrays.are_characters.Given as goal

abbrev pub invariant-loop-k : goal.invariant-loop-k
invariant-loop-k l = (j d : ℕ) → j < l.k → IsScalar (slice_index_or l.numbers j d)
