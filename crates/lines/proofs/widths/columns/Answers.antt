use Rattle.std.proofs.Common.{arith}
use Rattle.lines.proofs.InfoLemmas.{printable_columns}
use Rattle.lines.proofs.widths.columns.Goals as goal

pub returns-then-code-lt127-clause-value : goal.returns-then-code-lt127-clause-value
returns-then-code-lt127-clause-value c = printable_columns c.args.c (omega (arith, c.if-code-ge32.true)) (omega (arith, c.if-code-lt127.true))
