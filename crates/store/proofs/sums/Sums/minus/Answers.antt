use Rattle.std.proofs.Common.{arith}
use Rattle.store.specs.declared.sums.Unit.TheVariants.{Byte, Char, Line, Utf16}
use Rattle.store.proofs.sums.Sums.minus.Goals as goal

pub overflow_sub-result : goal.overflow_sub-result
overflow_sub-result c = omega (arith, c.requires Char)

pub overflow_sub-result-2 : goal.overflow_sub-result-2
overflow_sub-result-2 c = omega (arith, c.requires Line)

pub overflow_sub-result-3 : goal.overflow_sub-result-3
overflow_sub-result-3 c = omega (arith, c.requires Byte)

pub overflow_sub-result-4 : goal.overflow_sub-result-4
overflow_sub-result-4 c = omega (arith, c.requires Utf16)
