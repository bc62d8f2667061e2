-- Exchanging one item of a tree for another: the position of the item, and the resulting sums.
use Rattle.std.proofs.Common.{◌≡◌, ℕ, suc, ◌+◌, ◌-◌, ◌^◌, ◌<◌, ◌≤◌, List, [], ◌∷◌, ◌++◌, length, take, drop, get_or, slice_range, sum_by, Some, refl, ap, ap₂, sym, ◌∙◌, subst, arith, append_assoc, length-drop}
use Rattle.std.specs.List.{slice_get, slice_set, splice}
use Rattle.std.proofs.Math.Seq.{take-append_seam, drop-append_seam, take-append-add, drop-append-add}
use Rattle.std.proofs.lemmas.List.{take-append-le, drop-append-le, drop-drop, drop_more, length-take-le}
use Rattle.std.proofs.lemmas.List.Sums.{sum_by-append, sum_by-cons}
use Rattle.std.proofs.lemmas.Option.{get_or_from_slice_get, slice_get_within}
use Rattle.store.specs.Subtrees.{tree_of_node, IsSummed}
use Rattle.store.specs.Sums.{measure, part, AreSums, SumsFit}
use Rattle.store.specs.Trees.{Tree, in_order}
use Rattle.store.specs.declared.measured.Measured.{Ghosts}
use Rattle.store.specs.declared.subtree.Node.{Node}
use Rattle.store.specs.declared.sums.Sums.{Sums}
use Rattle.store.specs.declared.sums.Unit.{Unit as Counted}
use Rattle.store.proofs.FitsLemmas.{sums_less}
use Rattle.store.proofs.ListLemmas.{sum_of_splice}
use Rattle.store.proofs.SubtreeLemmas.{summed_again, IsLike}
use Rattle.store.proofs.SumsLemmas.{new_are, new_fit, old_within, AreAdded, AreSizes}

-- the list with one item exchanged
abbrev pub swapped : {A : Type 0} → List A → ℕ → A → List A
swapped xs i y = splice xs i (i + 1) (y ∷ [])

module _ {A : Type 0} where
  -- the range from i to i + 1 contains only item i
  pub range_at : (xs : List A) (i : ℕ) (x : A) → slice_get xs i ≡ Some x → slice_range xs i (i + 1) ≡ x ∷ []
  range_at xs i x e =
      let n : i + 1 - i ≡ 1 = omega arith in
      ap (λ (m : ℕ). take m (drop i xs)) n ∙ ap (λ ys. take 1 ys) (drop_more xs i x (slice_get_within xs i x e))
      ∙ ap (λ y. y ∷ []) (get_or_from_slice_get xs i x x e)

  -- a list of length 1 consists of its first item
  pub only : (xs : List A) (x : A) → length xs ≡ 1 → x ≡ get_or xs 0 x → xs ≡ x ∷ []
  only [] x l e = absurd (omega arith)
  only (y ∷ []) x l e = ap (λ z. z ∷ []) (sym e)
  only (y ∷ z ∷ zs) x l e = absurd (omega arith)

  -- a list of length 2 consists of its first two items
  pub both : (xs : List A) (x y z : A) → length xs ≡ 2 → x ≡ get_or xs 0 x → y ≡ get_or (slice_set xs 0 z) 1 y → xs ≡ x ∷ y ∷ []
  both [] x y z l e f = absurd (omega arith)
  both (v ∷ []) x y z l e f = absurd (omega arith)
  both (v ∷ w ∷ []) x y z l e f = ap₂ (λ s t. s ∷ t ∷ []) (sym e) (sym f)
  both (v ∷ w ∷ u ∷ us) x y z l e f = absurd (omega arith)

  pub both_set : (xs : List A) (x y : A) → length xs ≡ 2 → slice_set (slice_set xs 0 x) 1 y ≡ x ∷ y ∷ []
  both_set [] x y l = absurd (omega arith)
  both_set (v ∷ []) x y l = absurd (omega arith)
  both_set (v ∷ w ∷ []) x y l = refl
  both_set (v ∷ w ∷ u ∷ us) x y l = absurd (omega arith)

  pub first_of : (xs : List A) (x : A) → length xs ≡ 2 → x ≡ get_or xs 0 x → take 1 xs ≡ x ∷ []
  first_of [] x l e = absurd (omega arith)
  first_of (v ∷ xs) x l e = ap (λ z. z ∷ []) (sym e)

  -- exchanging two adjacent items one after the other replaces the range of both
  module _ (xs : List A) (i : ℕ) (within : i + 2 ≤ length xs) (x y : A) where
    size : length (take i xs) ≡ i
    size = length-take-le i xs (omega (arith, within))

    past_first : drop (i + 1) (swapped xs i x) ≡ drop (i + 1) xs
    past_first =
        let n : i + 1 ≡ length (take i xs) + 1 = omega (arith, size) in
        ap (λ m. drop m (swapped xs i x)) n ∙ drop-append-add (take i xs) (x ∷ drop (i + 1) xs) 1

    pub swapped_twice : swapped (swapped xs i x) (i + 1) y ≡ splice xs i (i + 2) (x ∷ y ∷ [])
    swapped_twice =
        let n : i + 1 ≡ length (take i xs) + 1 = omega (arith, size) in
        let m : i + 1 + 1 ≡ length (take i xs) + 2 = omega (arith, size) in
        let k : i + 1 + 1 ≡ i + 2 = omega arith in
        let front : take (i + 1) (swapped xs i x) ≡ take i xs ++ x ∷ [] = ap (λ j. take j (swapped xs i x)) n ∙ take-append-add (take i xs) (x ∷ drop (i + 1) xs) 1 in
        let rest : drop (i + 1 + 1) (swapped xs i x) ≡ drop 1 (drop (i + 1) xs) = ap (λ j. drop j (swapped xs i x)) m ∙ drop-append-add (take i xs) (x ∷ drop (i + 1) xs) 2 in
        let back : drop (i + 1 + 1) (swapped xs i x) ≡ drop (i + 2) xs = rest ∙ drop-drop 1 (i + 1) xs ∙ ap (λ j. drop j xs) k in
        ap₂ (λ zs ws. zs ++ y ∷ ws) front back ∙ append_assoc (take i xs) (x ∷ []) (y ∷ drop (i + 2) xs)

    pub range_of_two : (v w : A) → v ∷ [] ≡ slice_range xs i (i + 1) → w ∷ [] ≡ slice_range (swapped xs i x) (i + 1) (i + 1 + 1) → v ∷ w ∷ [] ≡ slice_range xs i (i + 2)
    range_of_two v w first second =
        let one : i + 1 - i ≡ 1 = omega arith in
        let one_2 : i + 1 + 1 - (i + 1) ≡ 1 = omega arith in
        let two : i + 2 - i ≡ 2 = omega arith in
        let whole : drop i xs ≡ get_or xs i v ∷ drop (i + 1) xs = drop_more xs i v (omega (arith, within)) in
        let a : v ∷ [] ≡ get_or xs i v ∷ [] = first ∙ ap (λ m. take m (drop i xs)) one ∙ ap (take 1) whole in
        let b : w ∷ [] ≡ take 1 (drop (i + 1) xs) = second ∙ ap₂ take one_2 past_first in
        ap₂ (λ zs ws. get_or zs 0 v ∷ ws) a b ∙ sym (ap₂ take two whole)

  -- three cases: the exchanged item is before the node's own item x, is x itself, or is after x
  module _ (l r : List A) (x y : A) (i : ℕ) where
    pub swapped_before : i < length l → swapped (l ++ x ∷ r) i y ≡ swapped l i y ++ x ∷ r
    swapped_before h =
        let front : i ≤ length l = omega arith in
        let back : i + 1 ≤ length l = omega arith in
        rw (take-append-le i l (x ∷ r) front, drop-append-le (i + 1) l (x ∷ r) back) (simp append_assoc)

    pub range_before : i < length l → slice_range (l ++ x ∷ r) i (i + 1) ≡ slice_range l i (i + 1)
    range_before h =
        let front : i ≤ length l = omega arith in
        let within : i + 1 - i ≤ length (drop i l) = omega (arith, length-drop i l) in
        ap (λ zs. take (i + 1 - i) zs) (drop-append-le i l (x ∷ r) front) ∙ take-append-le (i + 1 - i) (drop i l) (x ∷ r) within

    pub swapped_here : i ≡ length l → swapped (l ++ x ∷ r) i y ≡ l ++ y ∷ r
    swapped_here e = rw e (rw (take-append_seam l (x ∷ r), drop-append-add l (x ∷ r) 1) (λ k. l ++ y ∷ r))

    pub range_here : i ≡ length l → slice_range (l ++ x ∷ r) i (i + 1) ≡ x ∷ []
    range_here e =
        let n : length l + 1 - length l ≡ 1 = omega arith in
        rw e (rw (n, drop-append_seam l (x ∷ r)) (λ k. x ∷ []))

    pub swapped_after : (k : ℕ) → i ≡ length l + 1 + k → swapped (l ++ x ∷ r) i y ≡ l ++ x ∷ swapped r k y
    swapped_after k e =
        let h : i ≡ length l + suc k = omega arith in
        let j : i + 1 ≡ length l + suc (k + 1) = omega arith in
        let front : take i (l ++ x ∷ r) ≡ l ++ x ∷ take k r = ap (λ (m : ℕ). take m (l ++ x ∷ r)) h ∙ take-append-add l (x ∷ r) (suc k) in
        let back : drop (i + 1) (l ++ x ∷ r) ≡ drop (k + 1) r = ap (λ (m : ℕ). drop m (l ++ x ∷ r)) j ∙ drop-append-add l (x ∷ r) (suc (k + 1)) in
        rw (front, back) (append_assoc l (x ∷ take k r) (y ∷ drop (k + 1) r))

    pub range_after : (k : ℕ) → i ≡ length l + 1 + k → slice_range (l ++ x ∷ r) i (i + 1) ≡ slice_range r k (k + 1)
    range_after k e =
        let h : i ≡ length l + suc k = omega arith in
        let n : i + 1 - i ≡ k + 1 - k = omega arith in
        let back : drop i (l ++ x ∷ r) ≡ drop k r = ap (λ (m : ℕ). drop m (l ++ x ∷ r)) h ∙ drop-append-add l (x ∷ r) (suc k) in
        ap (λ (m : ℕ). take m (drop i (l ++ x ∷ r))) n ∙ ap (λ zs. take (k + 1 - k) zs) back

module _ {P : Type 0} (G : Ghosts P) where
  -- the sizes of an item are the sums of the list that contains only this item
  pub one_sum : (x : P) (sums : Sums) → AreSizes G x sums → AreSums G (x ∷ []) sums
  one_sum x sums are = record { each = λ (u : Counted). omega (arith, are u, sum_by-cons (measure G u) x []) }

  -- if the sums of a node's items fit after an exchange, so do the sums of the subtree with the new item
  pub fit_before : (l r : List P) (x y : P) (i : ℕ) → i < length l → SumsFit G (swapped (l ++ x ∷ r) i y) → SumsFit G (swapped l i y)
  fit_before l r x y i h f =
      sums_less G (swapped (l ++ x ∷ r) i y) (swapped l i y)
      (λ (size : P → ℕ). omega (arith, ap (sum_by size) (swapped_before l r x y i h), sum_by-append size (swapped l i y) (x ∷ r)))
      f

  -- if the sums fit with x appended, they fit with x in place of another item
  pub fit_first : (xs ys : List P) (i : ℕ) (x : P) → length ys ≡ 2 → x ≡ get_or ys 0 x → SumsFit G (xs ++ take 1 ys) → SumsFit G (swapped xs i x)
  fit_first xs ys i x two is f = record {
    each = λ (u : Counted).
        let size = measure G u in
        omega (arith, sum_of_splice size xs i (i + 1) (x ∷ []) (omega arith), f.each u, sum_by-append size xs (take 1 ys), ap (sum_by size) (first_of ys x two is));
  }

  pub fit_after : (l r : List P) (x y : P) (i k : ℕ) → i ≡ length l + 1 + k → SumsFit G (swapped (l ++ x ∷ r) i y) → SumsFit G (swapped r k y)
  fit_after l r x y i k e f =
      sums_less G (swapped (l ++ x ∷ r) i y) (swapped r k y)
      (λ (size : P → ℕ).
      omega (arith, ap (sum_by size) (swapped_after l r x y i k e), sum_by-append size l (x ∷ swapped r k y), sum_by-cons size x (swapped r k y)))
      f

-- What is assumed when item i of a node's tree is exchanged for y: `less` and `more` are the sizes of the old
-- and the new item, and the new sums fit.
pub record Swaps {P : Type 0} (G : Ghosts P) (n : Node P) (i : ℕ) (y : P) (less more : Sums) : Type 0 where
  pub summed : IsSummed G n
  pub within : i < length (in_order (tree_of_node n))
  pub less_are : AreSums G (slice_range (in_order (tree_of_node n)) i (i + 1)) less
  pub more_are : AreSums G (y ∷ []) more
  pub fit : SumsFit G (swapped (in_order (tree_of_node n)) i y)

module _ {P : Type 0} (G : Ghosts P) where
  -- an exchange in a tree is an exchange in its root node
  pub swaps_in : (tree : Tree P) (n : Node P) (i : ℕ) (y : P) (less more : Sums) → tree ≡ tree_of_node n → IsSummed G n → i < length (in_order tree)
      → AreSums G (slice_range (in_order tree) i (i + 1)) less → AreSums G (y ∷ []) more → SumsFit G (swapped (in_order tree) i y) → Swaps G n i y less more
  swaps_in tree n i y less more e summed within less_are more_are fit = record {
    summed = summed;
    within = subst (λ t. i < length (in_order t)) e within;
    less_are = subst (λ t. AreSums G (slice_range (in_order t) i (i + 1)) less) e less_are;
    more_are = more_are;
    fit = subst (λ t. SumsFit G (swapped (in_order t) i y)) e fit;
  }

  module _ (n : Node P) (i : ℕ) (y : P) (less more : Sums) (s : Swaps G n i y less more) where
    abbrev items : List P
    items = in_order (tree_of_node n)

    abbrev IsLess : Sums → Type 0
    IsLess rest = (u : Counted) → part rest u ≡ part n.sums u - part less u

    pub swap_less : (u : Counted) → part less u ≤ part n.sums u
    swap_less = old_within G items (y ∷ []) i (i + 1) (omega arith) n.sums less more more more s.summed.sums_are s.less_are

    pub swap_more : (rest : Sums) → IsLess rest → (u : Counted) → part rest u + part more u < 2 ^ 64
    swap_more rest is =
        new_fit G items (y ∷ []) i (i + 1) (omega arith) n.sums less more rest rest s.summed.sums_are s.less_are s.more_are is s.fit

    -- `IsSummed` still holds after a node's item has been exchanged and its sums have been corrected
    pub swap_summed : (m : Node P) (rest : Sums) → IsLess rest → AreAdded rest more m.sums → IsLike n.left m.left → IsLike n.right m.right
        → m.height ≡ n.height → m.count ≡ n.count → in_order (tree_of_node m) ≡ swapped items i y → IsSummed G m
    swap_summed m rest less_is more_is l r h k items_are =
        summed_again G n m s.summed l r h k
        (subst (λ xs. AreSums G xs m.sums) (sym items_are)
        (new_are G items (y ∷ []) i (i + 1) (omega arith) n.sums less more rest m.sums s.summed.sums_are s.less_are s.more_are less_is more_is))

    -- `IsLike` is reflexive
    pub same_left : IsLike n.left n.left
    same_left = record { balanced = s.summed.balanced.0; height_is = refl; count_is = refl }

    pub same_right : IsLike n.right n.right
    same_right = record { balanced = s.summed.balanced.1; height_is = refl; count_is = refl }
