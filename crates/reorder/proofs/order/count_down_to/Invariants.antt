use Rattle.std.proofs.Common.{◌≡◌, ◌+◌, length, reverse, take}
use Rattle.std.specs.List.{range_with_len}
use Rattle.reorder.proofs.order.count_down_to.Given as goal

abbrev pub invariant-loop-item : goal.invariant-loop-item
invariant-loop-item l =
    (take l.item-index l.items ≡ reverse (range_with_len l.next l.item-index))
    × (l.next + l.item-index ≡ l.fn.start + length l.fn.items)
