-- Each subtree of a node has fewer items than the node's tree.
use Rattle.std.specs.Prelude.{◌≤◌, ◌∷◌, length, Option, Some, None, Box}
use Rattle.std.specs.declared.alloc.Global.{Global}
use Rattle.store.specs.declared.subtree.Node.{Node}
use Rattle.std.proofs.Common.{arith, length-append}
use Rattle.store.specs.Trees.{in_order}
use Rattle.store.specs.Subtrees.{tree_of}
use Rattle.store.specs.declared.measured.Measured.{Ghosts}
use Rattle.store.specs.declared.subtree.Subtree.TheInside.{Inside}
use Rattle.store.specs.declared.subtree.Subtree.TheDeep.{deep-Subtree}

by_root : {P : Type 0} (G : Ghosts P) (root : Option (Box (Node P) Global)) → deep-Subtree P G (record { root = root }) ≤ length (in_order (tree_of root))
by_root G None = omega arith
by_root G (Some b) = omega (arith, length-append (in_order b.value.left) (b.value.item ∷ in_order b.value.right))

pub depth_le_length : {P : Type 0} (G : Ghosts P) (a : Inside P) → deep-Subtree P G a ≤ length (in_order (tree_of a.root))
depth_le_length G a = by_root G a.root
