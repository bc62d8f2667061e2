-- The heights and items of trees, and the least number of nodes that a balanced tree of a given height can
-- have.
use Rattle.std.proofs.Common.{◌≡◌, ℕ, zero, suc, ◌+◌, ◌-◌, ◌/◌, ◌^◌, ◌<◌, ◌≤◌, max, ◌∷◌, length, cond, true, false, nat_lt, inl, inr, refl, arith, length-append, eq-or-lt_of_le, pow-suc, ◌⊎◌}
use Rattle.std.proofs.Math.Nat.{pow-le-pow_right}
use Rattle.store.specs.Trees.{Tree, Empty, Fork, in_order, height, IsBalanced, fewest_nodes, nodes_to}

module _ {A : Type 0} where
  pub height_le_length : (t : Tree A) → height t ≤ length (in_order t)
  height_le_length Empty = omega arith
  height_le_length (Fork l x r) =
      omega (arith, height_le_length l, height_le_length r, length-append (in_order l) (x ∷ in_order r))

  -- no path to an item is longer than the height of the tree
  pub nodes_low : (t : Tree A) (i : ℕ) → nodes_to t i ≤ height t
  nodes_low Empty i = omega arith
  nodes_low (Fork l x r) i =
      let n = length (in_order l) in
      let a = nodes_low l i in
      let b = nodes_low r (i - n - 1) in
      elim (nat_lt i n) as (λ v. cond v (nodes_to l i + 1) (cond (nat_lt n i) (nodes_to r (i - n - 1) + 1) 1) ≤ max (height l) (height r) + 1) [
        | true ↦ omega arith
        | false ↦ elim (nat_lt n i) as (λ w. cond w (nodes_to r (i - n - 1) + 1) 1 ≤ max (height l) (height r) + 1) [
          | true ↦ omega arith
          | false ↦ omega arith
        ]
      ]

fewest_rises : (h : ℕ) → fewest_nodes h ≤ fewest_nodes (suc h)
fewest_rises zero = omega arith
fewest_rises (suc h) = omega arith

-- if a is b or b + 1, the smallest balanced tree of height a + 1 has at most one node more than the smallest
-- balanced trees of heights a and b together
fewest_over : (a b : ℕ) → b ≤ a → a ≤ b + 1 → fewest_nodes (suc a) ≤ fewest_nodes a + fewest_nodes b + 1
fewest_over zero b h k = omega arith
fewest_over (suc a) b h k = elim (eq-or-lt_of_le h) [
  | inl e ↦ rw e (omega (arith, fewest_rises a))
  | inr l ↦ let e : b ≡ a = omega arith in rw e (omega arith)
]

one_way : (a b : ℕ) → (a ≤ b) ⊎ (b ≤ a)
one_way zero b = inl (omega arith)
one_way (suc a) zero = inr (omega arith)
one_way (suc a) (suc b) = elim (one_way a b) [ inl h ↦ inl (omega arith) | inr h ↦ inr (omega arith) ]

fewest_fork : (a b : ℕ) → a ≤ b + 1 → b ≤ a + 1 → fewest_nodes (max a b + 1) ≤ fewest_nodes a + fewest_nodes b + 1
fewest_fork a b h k = elim (one_way a b) [
  | inl l ↦ let e : max a b + 1 ≡ suc b = omega arith in rw e (omega (arith, fewest_over b a l k))
  | inr l ↦ let e : max a b + 1 ≡ suc a = omega arith in rw e (omega (arith, fewest_over a b l h))
]

-- A balanced tree has at least as many items as the smallest balanced tree of its height.
pub fewest_in : {A : Type 0} (t : Tree A) → IsBalanced t → fewest_nodes (height t) ≤ length (in_order t)
fewest_in Empty b = omega arith
fewest_in (Fork l x r) b =
    omega (arith, fewest_in l b.0, fewest_in r b.1, fewest_fork (height l) (height r) b.2 b.3, length-append (in_order l) (x ∷ in_order r))

-- The least number of nodes at least doubles with every two levels of height.
pub fewest_double : (h : ℕ) → 2 ^ (h / 2) ≤ fewest_nodes h + 1
fewest_double zero = omega arith
fewest_double (suc zero) = omega arith
fewest_double (suc (suc h)) =
    let e : suc (suc h) / 2 ≡ suc (h / 2) = omega arith in
    rw (e, pow-suc) (omega (arith, fewest_double h, fewest_rises h))

pub low : {A : Type 0} (t : Tree A) (v : ℕ) → IsBalanced t → v ≤ height t → 2 ^ (v / 2) ≤ length (in_order t) + 1
low t v b h =
    let e : v / 2 ≤ height t / 2 = omega arith in
    let two : zero < 2 = omega arith in
    omega (arith, pow-le-pow_right {n = 2} two e, fewest_double (height t), fewest_in t b)

-- A balanced tree of a given height with the least number of nodes.
module _ {A : Type 0} (x : A) where
  abbrev thinnest : ℕ → Tree A
  thinnest zero = Empty
  thinnest (suc zero) = Fork Empty x Empty
  thinnest (suc (suc h)) = Fork (thinnest (suc h)) x (thinnest h)

  record IsThinnest (h : ℕ) (t : Tree A) : Type 0 where
    balanced : IsBalanced t
    height_is : height t ≡ h
    count_is : length (in_order t) ≡ fewest_nodes h

  is_thinnest : (h : ℕ) → IsThinnest h (thinnest h)
  is_thinnest zero = record { balanced = tt; height_is = refl; count_is = refl }
  is_thinnest (suc zero) = record { balanced = (tt, tt, omega arith, omega arith); height_is = omega arith; count_is = omega arith }
  is_thinnest (suc (suc h)) =
      let l = is_thinnest (suc h) in
      let r = is_thinnest h in
      record {
        balanced = (l.balanced, r.balanced, omega (arith, l.height_is, r.height_is), omega (arith, l.height_is, r.height_is));
        height_is = omega (arith, l.height_is, r.height_is);
        count_is = omega (arith, l.count_is, r.count_is, length-append (in_order (thinnest (suc h))) (x ∷ in_order (thinnest h)));
      }

  pub fewest_reached : (h : ℕ) → (t : Tree A) × IsBalanced t × (height t ≡ h) × (length (in_order t) ≡ fewest_nodes h)
  fewest_reached h = let t = is_thinnest h in (thinnest h, t.balanced, t.height_is, t.count_is)
