use Rattle.std.proofs.Common.{◌≡◌, ◌++◌, length, reverse, vec_capacity}
use Rattle.store.proofs.vec_store.move_last.Given as goal

abbrev pub invariant-loop : goal.invariant-loop
invariant-loop g l =
    (l.initial.items.items ≡ l.items.items ++ reverse l.old.items) × (length l.old.items ≡ l.counter)
    × (vec_capacity l.items ≡ vec_capacity l.initial.items) × (vec_capacity l.old ≡ vec_capacity l.initial.old)
