use Rattle.std.proofs.Common.{◌≡◌, ℕ, ◌+◌, ◌-◌, ◌<◌, true, length, get_or}
use Rattle.reorder.specs.Groups.{is_bound}
use Rattle.reorder.proofs.order.bound_len.Given as goal

abbrev pub invariant-loop-len : goal.invariant-loop-len
invariant-loop-len g l =
    (l.len < length l.items)
    × ((k : ℕ) → k < l.len → is_bound (g.C.Classes.all l.line) l.levels (get_or l.items k 0) (get_or l.items (k + 1) 0) ≡ true)

abbrev pub decreases-loop-len : goal.decreases-loop-len
decreases-loop-len g l = length l.items - l.len
