use Rattle.std.proofs.Common.{arith}
use Rattle.store.specs.declared.sums.Unit.TheVariants.{Byte, Char, Line, Utf16}
use Rattle.store.proofs.sums.Sums.plus.Goals as goal

pub overflow_add-result : goal.overflow_add-result
overflow_add-result c = omega (arith, c.requires Char)

pub overflow_add-result-2 : goal.overflow_add-result-2
overflow_add-result-2 c = omega (arith, c.requires Line)

pub overflow_add-result-3 : goal.overflow_add-result-3
overflow_add-result-3 c = omega (arith, c.requires Byte)

pub overflow_add-result-4 : goal.overflow_add-result-4
overflow_add-result-4 c = omega (arith, c.requires Utf16)
