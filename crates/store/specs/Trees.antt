-- Binary trees of items, balanced trees, and the minimum number of nodes of a balanced tree of some height.
use Rattle.std.specs.Prelude.{◌≡◌, ℕ, zero, suc, ◌+◌, ◌-◌, ◌≤◌, nat_lt, max, List, [], ◌∷◌, ◌++◌, length, Option, Some, None, refl, if◌then◌else◌}
use Rattle.std.proofs.Common.{ap, ◌∙◌}
use Rattle.std.specs.Coded.{Coded, code_by, coded_list, coded_option}

pub data Tree (A : Type 0) : Type 0 where
  Empty : Tree A
  Fork : Tree A → A → Tree A → Tree A

module _ {A : Type 0} where
  -- the items in order
  abbrev pub in_order : Tree A → List A
  in_order Empty = []
  in_order (Fork l x r) = in_order l ++ x ∷ in_order r

  -- the number of nodes on the longest path from the root
  abbrev pub height : Tree A → ℕ
  height Empty = 0
  height (Fork l x r) = max (height l) (height r) + 1

  -- whether, in each node, the heights of the two subtrees differ by at most 1
  abbrev pub IsBalanced : Tree A → Type 0
  IsBalanced Empty = Unit {0}
  IsBalanced (Fork l x r) = IsBalanced l × IsBalanced r × (height l ≤ height r + 1) × (height r ≤ height l + 1)

  -- the number of nodes on the path from the root to an item, including both
  abbrev pub nodes_to : Tree A → ℕ → ℕ
  nodes_to Empty i = 0
  nodes_to (Fork l x r) i =
      let n = length (in_order l) in
      (if nat_lt i n then nodes_to l i + 1 else (if nat_lt n i then nodes_to r (i - n - 1) + 1 else 1))

  -- the items of a tree in postorder, with `None` for each empty subtree
  abbrev pub listed : Tree A → List (Option A)
  listed Empty = None ∷ []
  listed (Fork l x r) = listed l ++ (listed r ++ Some x ∷ [])

  abbrev grown : List (Tree A) → Option A → List (Tree A)
  grown trees None = Empty ∷ trees
  grown (r ∷ l ∷ trees) (Some x) = Fork l x r ∷ trees
  grown trees (Some x) = trees

  abbrev grown_all : List (Tree A) → List (Option A) → List (Tree A)
  grown_all trees [] = trees
  grown_all trees (o ∷ os) = grown_all (grown trees o) os

  abbrev first : List (Tree A) → Tree A
  first [] = Empty
  first (t ∷ ts) = t

  grown_all-append : (ts : List (Tree A)) (os ps : List (Option A)) → grown_all ts (os ++ ps) ≡ grown_all (grown_all ts os) ps
  grown_all-append ts [] ps = refl
  grown_all-append ts (o ∷ os) ps = grown_all-append (grown ts o) os ps

  pub grown_listed : (t : Tree A) (ts : List (Tree A)) → grown_all ts (listed t) ≡ t ∷ ts
  grown_listed Empty ts = refl
  grown_listed (Fork l x r) ts =
      grown_all-append ts (listed l) (listed r ++ Some x ∷ [])
      ∙ ap (λ us. grown_all us (listed r ++ Some x ∷ [])) (grown_listed l ts)
      ∙ grown_all-append (l ∷ ts) (listed r) (Some x ∷ [])
      ∙ ap (λ us. grown_all us (Some x ∷ [])) (grown_listed r (l ∷ ts))

  abbrev pub tree_code : Coded A → Coded (Tree A)
  tree_code c = code_by (List (Option A)) (coded_list (coded_option c)) listed (λ os. first (grown_all [] os)) (λ t. ap first (grown_listed t []))

-- the minimum number of nodes of a balanced tree of the given height
abbrev pub fewest_nodes : ℕ → ℕ
fewest_nodes zero = 0
fewest_nodes (suc zero) = 1
fewest_nodes (suc (suc h)) = fewest_nodes (suc h) + fewest_nodes h + 1
