use Rattle.std.proofs.Common.{◌+◌, ◌*◌, ◌%◌, ◌∙◌, arith}
use Rattle.lines.proofs.ColumnCacheLemmas.{entry_right, set_right}
use Rattle.lines.proofs.column_cache.ColumnCache.look_up.Goals as goal

pub invariant_of-self : goal.invariant_of-self
invariant_of-self c =
    set_right c.self.inside.entries.items (c.args.c % 1024) (4 * c.args.c + c.from.result) c.self.invariant
    (entry_right c.args.c c.from.result (c.from.ensures ∙ c.columns-columns.ensures.value) (omega (arith, c.from.ensures, c.columns-columns.ensures.few)))
