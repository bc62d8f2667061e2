use Rattle.std.proofs.Common.{◌≡◌, ◌-◌, ◌^◌, ◌<◌, take, sum_by}
use Rattle.tests.proofs.stores.sums.Given as goal

abbrev pub invariant-loop-item : goal.invariant-loop-item
invariant-loop-item l =
    (l.chars < 2 ^ 64 - 1 → l.chars ≡ sum_by (λ item. item.chars) (take l.item-index l.items))
    × (l.lines < 2 ^ 64 - 1 → l.lines ≡ sum_by (λ item. item.lines) (take l.item-index l.items))
