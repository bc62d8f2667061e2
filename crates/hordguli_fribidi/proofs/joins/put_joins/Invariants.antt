use Rattle.std.proofs.Common.{◌≡◌}
use Rattle.hordguli_fribidi.specs.Joining.{joined_at, joiners, sides_over}
use Rattle.hordguli_fribidi.proofs.InPlaceLemmas.{IsWritten}
use Rattle.hordguli_fribidi.proofs.joins.put_joins.Given as goal

abbrev pub invariant-loop-k : goal.invariant-loop-k
invariant-loop-k l =
    let text = joiners l.types l.levels l.fn.properties in
    record { before : l.before ≡ sides_over text l.k; written : IsWritten (joined_at text l.fn.properties) l.fn.properties l.properties l.k }
