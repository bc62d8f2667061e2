-- The trees that the nodes of a tree store represent, and their invariant.
use Rattle.std.specs.Prelude.{◌≡◌, ◌<◌, ◌^◌, List, length, Option, Some, None, Box}
use Rattle.std.specs.declared.alloc.Global.{Global}
use Rattle.store.specs.Sums.{AreSums, SumsFit}
use Rattle.store.specs.Trees.{Tree, Empty, Fork, in_order, height, IsBalanced}
use Rattle.store.specs.declared.measured.Measured.{Ghosts}
use Rattle.store.specs.declared.subtree.Node.{Node}

-- whether the number of items and their sums fit in a `usize`
pub record Fits {P : Type 0} (G : Ghosts P) (items : List P) : Type 0 where
  pub count : length items < 2 ^ 64
  pub sums : SumsFit G items

module _ {P : Type 0} where
  abbrev pub tree_of_node : Node P → Tree P
  tree_of_node n = Fork n.left n.item n.right

  abbrev pub tree_of : Option (Box (Node P) Global) → Tree P
  tree_of None = Empty
  tree_of (Some b) = tree_of_node b.value

-- A node stores the height of its tree, the number of its items, and their sums. The tree is balanced.
pub record IsSummed {P : Type 0} (G : Ghosts P) (n : Node P) : Type 0 where
  pub height_is : n.height ≡ height (tree_of_node n)
  pub count_is : n.count ≡ length (in_order (tree_of_node n))
  pub sums_are : AreSums G (in_order (tree_of_node n)) n.sums
  pub balanced : IsBalanced (tree_of_node n)

abbrev pub IsSound : {P : Type 0} → Ghosts P → Option (Box (Node P) Global) → Type 0
IsSound G None = Unit {0}
IsSound G (Some b) = IsSummed G b.value
