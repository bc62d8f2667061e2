use Rattle.std.proofs.Common.{arith}
use Rattle.script_commands.proofs.NumberLemmas.{product_fits}
use Rattle.script_commands.proofs.commands.value.Goals as goal

pub overflow_mul-number : goal.overflow_mul-number
overflow_mul-number c =
    let fits = product_fits c.args.radix c.loop-c.number c.loop-c.c-index c.requires.radix.0 c.requires.radix.1 (omega arith) c.loop-c.invariant.bound in
    omega (arith, fits)

pub overflow_add-number : goal.overflow_add-number
overflow_add-number c =
    let fits = product_fits c.args.radix c.loop-c.number c.loop-c.c-index c.requires.radix.0 c.requires.radix.1 (omega arith) c.loop-c.invariant.bound in
    let digit = c.in-Some.ensures.value in
    omega (arith, fits, digit.0, digit.1, c.requires.radix.1)
