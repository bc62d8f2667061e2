use Rattle.std.proofs.Common.{◌≡◌, ◌++◌, length, reverse, vec_capacity}
use Rattle.store.proofs.tree_store.hang.Given as goal

abbrev pub invariant-loop : goal.invariant-loop
invariant-loop g l =
    (l.items.items ++ reverse l.nodes.items ≡ l.initial.items.items)
    × (length l.nodes.items ≡ l.counter)
    × (vec_capacity l.items ≡ vec_capacity l.initial.items)
    × (vec_capacity l.nodes ≡ vec_capacity l.initial.nodes)
