use Rattle.std.proofs.Common.{sym, ◌∙◌}
use Rattle.lines.proofs.KnownWidthLemmas.{all_common, all_printable}
use Rattle.lines.proofs.column_cache.have_one_column.Goals as goal

pub returns-then-are_printable : goal.returns-then-are_printable
returns-then-are_printable c = λ _. λ k. λ below. all_printable c.args.group.now k 0 (sym c.are_printable.ensures ∙ c.if-are_printable.true) below

pub returns-else-are_printable : goal.returns-else-are_printable
returns-else-are_printable c = λ yes. λ k. λ below. all_common c.args.group.now k 0 (sym c.are_common.ensures ∙ yes) below
