use Rattle.std.proofs.Common.{take, drop, reverse, append_assoc}
use Rattle.store.specs.Trees.{in_order}
use Rattle.store.proofs.FitsLemmas.{fit_spliced}
use Rattle.store.proofs.ListLemmas.{drop_range}
use Rattle.store.proofs.joining.put_in.Goals as goal

pub build_all-middle-requires : goal.build_all-middle-requires
build_all-middle-requires g c =
    let xs = in_order c.args.tree.now in
    (fit_spliced g.P.Measured (take c.args.first xs) (reverse c.args.nodes.items) (drop c.args.second xs) c.requires.fits).new_fits

pub append-requires : goal.append-requires
append-requires g c =
    let xs = in_order c.args.tree.now in
    rw (c.split-front.ensures.front, c.replace-whole.ensures.value, c.build_all-middle.ensures)
    (fit_spliced g.P.Measured (take c.args.first xs) (reverse c.args.nodes.items) (drop c.args.second xs) c.requires.fits).front_fits

pub append-requires-2 : goal.append-requires-2
append-requires-2 g c =
    let xs = in_order c.args.tree.now in
    rw (
      c.append.ensures,
      c.split-front.ensures.front,
      c.build_all-middle.ensures,
      c.split-gone.ensures.after,
      c.split-front.ensures.after,
      c.replace-whole.ensures.value,
      drop_range xs c.args.first c.args.second c.requires.order.0,
    )
    (fit_spliced g.P.Measured (take c.args.first xs) (reverse c.args.nodes.items) (drop c.args.second xs) c.requires.fits).all_fit

pub returns-clause-items : goal.returns-clause-items
returns-clause-items g c =
    let xs = in_order c.args.tree.now in
    rw (
      c.replace.ensures.after,
      c.append-2.ensures,
      c.append.ensures,
      c.split-front.ensures.front,
      c.build_all-middle.ensures,
      c.split-gone.ensures.after,
      c.split-front.ensures.after,
      c.replace-whole.ensures.value,
      drop_range xs c.args.first c.args.second c.requires.order.0,
    )
    (append_assoc (take c.args.first xs) (reverse c.args.nodes.items) (drop c.args.second xs))
