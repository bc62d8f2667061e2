use Rattle.std.proofs.Common.{arith}
use Rattle.lines.proofs.ColumnSumLemmas.{ones}
use Rattle.lines.proofs.column_cache.ColumnCache.sum_of_group.Goals as goal

pub returns-then-have_one_column-clause-sum : goal.returns-then-have_one_column-clause-sum
returns-then-have_one_column-clause-sum c = omega (arith, ones c.args.group.now (c.have_one_column.ensures c.if-have_one_column.true))
