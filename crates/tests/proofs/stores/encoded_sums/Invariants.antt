use Rattle.std.proofs.Common.{◌≡◌, ◌-◌, ◌^◌, ◌<◌, take, sum_by}
use Rattle.tests.proofs.stores.encoded_sums.Given as goal

abbrev pub invariant-loop-item : goal.invariant-loop-item
invariant-loop-item l =
    (l.bytes < 2 ^ 64 - 1 → l.bytes ≡ sum_by (λ item. item.bytes) (take l.item-index l.items))
    × (l.utf16 < 2 ^ 64 - 1 → l.utf16 ≡ sum_by (λ item. item.utf16) (take l.item-index l.items))
