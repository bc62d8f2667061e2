-- The properties of a node that do not change when its items exchange parts.
use Rattle.std.proofs.Common.{◌≡◌, ◌+◌, ◌≤◌, ◌∷◌, ◌++◌, length, arith, length-append}
use Rattle.store.specs.Subtrees.{IsSummed}
use Rattle.store.specs.Sums.{AreSums}
use Rattle.store.specs.Trees.{Tree, Fork, in_order, height, IsBalanced}
use Rattle.store.specs.declared.measured.Measured.{Ghosts}
use Rattle.store.specs.declared.subtree.Node.{Node}

-- whether the new tree is balanced, and has the same height and number of items as the old tree
pub record IsLike {P : Type 0} (old new : Tree P) : Type 0 where
  pub balanced : IsBalanced new
  pub height_is : height new ≡ height old
  pub count_is : length (in_order new) ≡ length (in_order old)

-- if the subtrees of a balanced tree are replaced by balanced ones of the same heights, the tree is still
-- balanced
pub balanced_again : {A : Type 0} (l r left right : Tree A) (x : A) → IsBalanced (Fork l x r) → IsBalanced left → IsBalanced right
    → height left ≡ height l → height right ≡ height r
    → IsBalanced left × IsBalanced right × (height left ≤ height right + 1) × (height right ≤ height left + 1)
balanced_again l r left right x old b d h k = (b, d, omega (arith, old.2, h, k), omega (arith, old.3, h, k))

pub summed_again : {P : Type 0} (G : Ghosts P) (n m : Node P) → IsSummed G n → IsLike n.left m.left → IsLike n.right m.right
    → m.height ≡ n.height → m.count ≡ n.count → AreSums G (in_order m.left ++ m.item ∷ in_order m.right) m.sums → IsSummed G m
summed_again G n m s l r h k sums_are = record {
  height_is = omega (arith, s.height_is, l.height_is, r.height_is);
  count_is = omega (arith, s.count_is, l.count_is, r.count_is, length-append (in_order n.left) (n.item ∷ in_order n.right), length-append (in_order m.left) (m.item ∷ in_order m.right));
  sums_are = sums_are;
  balanced = balanced_again n.left n.right m.left m.right n.item s.balanced l.balanced r.balanced l.height_is r.height_is;
}
