use Rattle.std.proofs.Common.{◌∙◌, List, ℕ, get_or, map, ap, sym}
use Rattle.reorder.specs.Order.{order_of, vtol_of}
use Rattle.reorder.proofs.ChunkLemmas.{plain_order, stays, without_marks}
use Rattle.reorder.proofs.in_place.reorder_in_place.Goals as goal
use Rattle.reorder.proofs.in_place.reorder_in_place.Goals.{then-reordernsm+then-has_nonspacing_mark, else-reordernsm, else-reordernsm-via-then-reordernsm+else-has_nonspacing_mark, else-reordernsm-via-else-reordernsm}

pub returns-after-reordernsm : goal.returns-after-reordernsm
returns-after-reordernsm g c =
    let classes = g.C.Classes.all c.args.line.now in
    let levels = c.args.levels.now in
    let old = c.args.items.now in
    c.reverse_levels.ensures ∙ elim c.if-reordernsm.branch [
      | then-reordernsm+then-has_nonspacing_mark w ↦
          ap (λ (xs : List ℕ). map (λ p. get_or xs p 0) (order_of levels)) w.items-is
          ∙ w.reverse_groups.ensures
          ∙ ap (λ asked. map (λ p. get_or old p 0) (vtol_of asked classes levels)) (sym w.if-reordernsm.true)
      | else-reordernsm w ↦
          ap (λ (xs : List ℕ). map (λ p. get_or xs p 0) (order_of levels)) w.items-is
          ∙ ap (map (λ p. get_or old p 0)) (elim w.else-reordernsm.branch [
            | else-reordernsm-via-then-reordernsm+else-has_nonspacing_mark u ↦
                sym (without_marks c.args.reordernsm classes levels (sym u.has_nonspacing_mark.ensures ∙ u.if-has_nonspacing_mark.false))
            | else-reordernsm-via-else-reordernsm u ↦
                sym (plain_order classes levels) ∙ ap (λ asked. vtol_of asked classes levels) (sym u.if-reordernsm.false)
          ])
    ]

pub returns-in_default : goal.returns-in_default
returns-in_default g c =
    stays c.args.reordernsm (g.C.Classes.all c.args.line.now) c.args.levels.now c.args.items.now
    (sym c.in_default.is ∙ c.highest_and_lowest_odd-highest.ensures.lowest)
    (c.highest_and_lowest_odd-highest.ensures.even c.in_default.is) c.requires.items
