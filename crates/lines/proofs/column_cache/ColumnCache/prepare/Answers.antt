use Rattle.std.proofs.Common.{ap, ◌∙◌}
use Rattle.std.specs.List.{list_all}
use Rattle.lines.specs.ColumnCache.{is_right}
use Rattle.lines.proofs.ColumnCacheLemmas.{longer_right}
use Rattle.lines.proofs.column_cache.ColumnCache.prepare.Goals as goal

pub invariant_of-self : goal.invariant_of-self
invariant_of-self c = ap (list_all is_right) c.reserve.ensures ∙ c.self.invariant

pub invariant_of-self-in-Continue-branch-2 : goal.invariant_of-self-in-Continue-branch-2
invariant_of-self-in-Continue-branch-2 c =
    let kept = ap (list_all is_right) c.reserve.ensures ∙ c.self.invariant in
    let old = c.reserve.new.list.items in
    ap (list_all is_right) c.in_ok-resize.ensures.items ∙ longer_right old 1024 _ kept
