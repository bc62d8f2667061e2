use Rattle.std.proofs.Common.{◌≡◌, ◌+◌, ◌++◌, length, reverse, vec_capacity}
use Rattle.store.proofs.tree_store.take_down.Given as goal

abbrev pub invariant-loop : goal.invariant-loop
invariant-loop g l =
    (l.items.items ++ reverse l.nodes.items ≡ l.initial.items.items ++ reverse l.initial.nodes.items)
    × (length l.nodes.items + l.counter ≡ length l.initial.nodes.items)
    × (vec_capacity l.items ≡ vec_capacity l.initial.items)
