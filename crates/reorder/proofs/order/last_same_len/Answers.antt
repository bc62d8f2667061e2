use Rattle.std.proofs.Common.{◌-◌, ◌/◌, ◌^◌, length, ap, ◌∙◌, arith}
use Rattle.reorder.specs.Lanes.{first_set}
use Rattle.reorder.proofs.LaneLemmas.{IsSameLen, last_len_is}
use Rattle.reorder.proofs.order.last_same_len.Goals as goal

is_len : (c : goal.After-first_set) → IsSameLen c.args.levels.now c.args.level c.args.start (length c.args.levels.now - c.args.start) c.first_set.result
is_len c =
    let levels = c.args.levels.now in
    let first = length levels - 16 in
    let n = length levels - c.args.start in
    last_len_is levels c.args.level first c.args.start n c.first_set.result (omega (arith, c.requires.enough)) (omega (arith, c.requires.last)) (omega (arith, c.requires.within))
    (c.first_set.ensures ∙ ap (λ bits. first_set (bits / 2 ^ (c.args.start - first)) n) c.others.ensures)

pub returns-clause-within : goal.returns-clause-within
returns-clause-within c = omega (arith, (is_len c).0, c.requires.within)

pub returns-clause-same : goal.returns-clause-same
returns-clause-same c = (is_len c).1

pub returns-clause-stops : goal.returns-clause-stops
returns-clause-stops c = λ inside. (is_len c).2 (omega (arith, inside))
