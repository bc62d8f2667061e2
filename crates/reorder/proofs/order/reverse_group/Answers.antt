use Rattle.std.proofs.Common.{◌∙◌, sym, arith}
use Rattle.reorder.proofs.GroupLemmas.{group_written, marks_kept, rest_within}
use Rattle.reorder.proofs.order.reverse_group.Goals as goal
use Rattle.reorder.proofs.order.reverse_group.Goals.{then-not-is_nonspacing_mark_at, else-not-is_nonspacing_mark_at}

pub bound_len-len-requires-clause-items : goal.bound_len-len-requires-clause-items
bound_len-len-requires-clause-items g c = rest_within c.args.levels.now c.args.items.now c.requires.items.0 c.requires.items.1

pub is_nonspacing_mark_at-requires : goal.is_nonspacing_mark_at-requires
is_nonspacing_mark_at-requires g c =
    omega (arith, c.requires.line, rest_within c.args.levels.now c.args.items.now c.requires.items.0 c.requires.items.1 c.bound_len-len.result c.bound_len-len.ensures.within)

pub returns-clause-done : goal.returns-clause-done
returns-clause-done g c =
    let n = c.bound_len-len.result in
    let classes = g.C.Classes.all c.args.line.now in
    let levels = c.args.levels.now in
    let items = c.args.items.now in
    let start = c.requires.items.0 in
    elim c.if-not-is_nonspacing_mark_at.branch [
      | then-not-is_nonspacing_mark_at w ↦
          group_written classes levels start items n c.requires.items.1 c.bound_len-len.ensures w.reverse.new.self c.if-not-is_nonspacing_mark_at.items
          (sym c.is_nonspacing_mark_at.ensures ∙ w.if-not-is_nonspacing_mark_at.true) w.reverse.ensures.after w.items-is
      | else-not-is_nonspacing_mark_at w ↦
          marks_kept classes levels start items n c.requires.items.1 c.bound_len-len.ensures c.if-not-is_nonspacing_mark_at.items
          (sym c.is_nonspacing_mark_at.ensures ∙ w.if-not-is_nonspacing_mark_at.false) w.items-is
    ]
