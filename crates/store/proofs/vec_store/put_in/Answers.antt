use Rattle.std.proofs.Common.{◌≡◌, ◌+◌, ◌-◌, ◌++◌, length, arith}
use Rattle.std.proofs.lemmas.Grind.{common_steps}
use Rattle.store.proofs.ListLemmas.{replaced}
use Rattle.store.proofs.vec_store.put_in.Goals as goal

pub returns-clause-items : goal.returns-clause-items
returns-clause-items g c =
    let all : c.append.new.self.items ≡ c.args.items.now.items ++ c.args.new_items.now.items = grind (arith, common_steps) in
    let n_is : (c.len.result - c.len-added.result) + length c.args.new_items.now.items ≡ length c.move_last.new.items.items = grind (arith, common_steps) in
    (replaced c.args.items.now.items c.args.new_items.now.items c.append.new.self.items c.rotate.new.items.items
    c.move_last.new.items.items c.move_last.new.old.items c.rotate-2.new.items.items c.args.first c.args.second
    (c.len.result - c.len-added.result)
    c.requires.order.0 c.requires.order.1 n_is all c.rotate.ensures.items c.move_last.ensures.kept c.move_last.ensures.moved c.rotate-2.ensures.items).0

pub returns-clause-moved : goal.returns-clause-moved
returns-clause-moved g c =
    let all : c.append.new.self.items ≡ c.args.items.now.items ++ c.args.new_items.now.items = grind (arith, common_steps) in
    let n_is : (c.len.result - c.len-added.result) + length c.args.new_items.now.items ≡ length c.move_last.new.items.items = grind (arith, common_steps) in
    (replaced c.args.items.now.items c.args.new_items.now.items c.append.new.self.items c.rotate.new.items.items
    c.move_last.new.items.items c.move_last.new.old.items c.rotate-2.new.items.items c.args.first c.args.second
    (c.len.result - c.len-added.result)
    c.requires.order.0 c.requires.order.1 n_is all c.rotate.ensures.items c.move_last.ensures.kept c.move_last.ensures.moved c.rotate-2.ensures.items).1
