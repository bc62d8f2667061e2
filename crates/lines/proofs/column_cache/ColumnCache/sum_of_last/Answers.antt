use Rattle.std.proofs.Common.{sym, arith}
use Rattle.lines.proofs.ColumnSumLemmas.{last_ones}
use Rattle.lines.proofs.column_cache.ColumnCache.sum_of_last.Goals as goal

pub returns-then-have_one_column-clause-sum : goal.returns-then-have_one_column-clause-sum
returns-then-have_one_column-clause-sum c =
    sym (last_ones c.args.text.now 8 c.args.len (omega (arith, c.requires.few)) (omega (arith, c.if-text-ge-AT_ONCE.true)) (c.have_one_column.ensures c.if-have_one_column.true))
