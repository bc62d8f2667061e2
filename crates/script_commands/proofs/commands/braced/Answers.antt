use Rattle.std.proofs.Common.{◌^◌, ◌≤◌, length, take, arith, lit<}
use Rattle.std.proofs.Math.Nat.{pow-le-pow_right}
use Rattle.std.proofs.lemmas.List.{length-take-le}
use Rattle.script_commands.proofs.commands.braced.Goals as goal

pub overflow_cast-number : goal.overflow_cast-number
overflow_cast-number c =
    let digits = take c.hex_len-len.result c.args.text.now in
    let few : length digits ≤ 6 = omega (arith, length-take-le c.hex_len-len.result c.args.text.now c.hex_len-len.ensures.within) in
    let small : 16 ^ length digits ≤ 16 ^ 6 = pow-le-pow_right (lit< tt) few in
    omega (arith, small, c.value-number.ensures.bound)
