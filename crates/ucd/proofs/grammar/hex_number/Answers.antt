use Rattle.std.proofs.Common.{◌+◌, ◌*◌, ◌≤◌, ◌^◌, arith, lit<}
use Rattle.std.proofs.Math.Nat.{pow-le-pow_right}
use Rattle.ucd.proofs.HexLemmas.{HasValue, value_more}
use Rattle.ucd.proofs.grammar.hex_number.Goals as goal

pub overflow_mul-number : goal.overflow_mul-number
overflow_mul-number c =
    let few : c.loop-digit.digit-index ≤ 5 = omega arith in
    let small : 16 ^ c.loop-digit.digit-index ≤ 16 ^ 5 = pow-le-pow_right (lit< tt) few in
    omega (arith, small)

pub overflow_add-number : goal.overflow_add-number
overflow_add-number c =
    let few : c.loop-digit.digit-index ≤ 5 = omega arith in
    let small : 16 ^ c.loop-digit.digit-index ≤ 16 ^ 5 = pow-le-pow_right (lit< tt) few in
    omega (arith, small)

pub loop-digit-preserved : goal.loop-digit-preserved
loop-digit-preserved c =
    let before = c.loop-digit.invariant in
    let more : HasValue c.args.digits.now (c.loop-digit.digit-index + 1) (16 * c.loop-digit.number + c.digit_of-value.result) =
    value_more c.args.digits.now c.loop-digit.digit-index c.loop-digit.number c.digit_of-value.result (omega arith) before.so_far before.digits before.bound c.digit_of-value.ensures (omega arith) in
    record { so_far = more.so_far; digits = more.digits; bound = more.bound }
