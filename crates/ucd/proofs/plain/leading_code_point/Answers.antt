use Rattle.std.proofs.Common.{◌+◌, ◌*◌, ◌≤◌, ◌^◌, arith, lit<}
use Rattle.std.proofs.Math.Nat.{pow-le-pow_right}
use Rattle.ucd.proofs.HexLemmas.{HasValue, value_more}
use Rattle.ucd.proofs.plain.leading_code_point.Goals as goal

pub overflow_mul-number : goal.overflow_mul-number
overflow_mul-number c =
    let few : c.loop-count.count ≤ 5 = omega arith in
    let small : 16 ^ c.loop-count.count ≤ 16 ^ 5 = pow-le-pow_right (lit< tt) few in
    omega (arith, small)

pub overflow_add-number : goal.overflow_add-number
overflow_add-number c =
    let few : c.loop-count.count ≤ 5 = omega arith in
    let small : 16 ^ c.loop-count.count ≤ 16 ^ 5 = pow-le-pow_right (lit< tt) few in
    omega (arith, small)

pub loop-count-preserved : goal.loop-count-preserved
loop-count-preserved c =
    let before = c.loop-count.invariant in
    let more : HasValue c.args.text.now (c.loop-count.count + 1) (16 * c.loop-count.number + c.digit_of-digit.result) =
    value_more c.args.text.now c.loop-count.count c.loop-count.number c.digit_of-digit.result (omega arith) before.so_far before.digits before.bound c.digit_of-digit.ensures (omega arith) in
    record { few = omega arith; most = c.loop-count.invariant.most; so_far = more.so_far; digits = more.digits; bound = more.bound }
