use Rattle.std.proofs.Common.{◌∷◌, ap, append_assoc, arith, length, length-append}
use Rattle.store.specs.Trees.{in_order}
use Rattle.store.proofs.joining.+move_items.Goals as goal

pub push_reserved-requires : goal.push_reserved-requires
push_reserved-requires g t c =
    omega (
      arith,
      c.requires,
      ap (λ tree. length (in_order tree)) c.in-Some.ensures.parts,
      length-append (in_order c.in-Some.left) (c.in-Some.top ∷ in_order c.in-Some.right),
      ap length c.move_items.ensures.items,
      length-append c.args.items.now.items (in_order c.in-Some.left),
      c.move_items.new.items.ok,
      c.move_items.ensures.capacity,
    )

pub returns-clause-items : goal.returns-clause-items
returns-clause-items g t c =
    rw (c.move_items-2.ensures.items, c.push_reserved.ensures.items, c.move_items.ensures.items, c.into_item.ensures, c.in-Some.ensures.parts) (simp append_assoc)
