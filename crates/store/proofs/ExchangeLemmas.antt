-- Exchanging the parts of items pairwise: sums, costs, and how both lists are split at a node of a tree.
use Rattle.std.proofs.Common.{◌≡◌, ℕ, zero, suc, ◌+◌, ◌<◌, ◌≤◌, List, [], ◌∷◌, ◌++◌, length, get_or, set, take, sum_by, refl, sym, ap, ◌∙◌, subst, arith}
use Rattle.std.specs.List.{AllZip}
use Rattle.std.proofs.lemmas.List.{take_all}
use Rattle.std.proofs.lemmas.List.Sums.{sum_by-append, sum_by-cons, sum_by_more}
use Rattle.store.specs.Exchanging.{pairwise, raised, total_cost}

module _ {P Part : Type 0} (fits : P → Part → Type 0) where
  pub as_many : (items : List P) (parts : List Part) → AllZip fits items parts → length parts ≡ length items
  as_many [] [] h = refl
  as_many [] (p ∷ ps) h = absurd h
  as_many (x ∷ xs) [] h = absurd h
  as_many (x ∷ xs) (p ∷ ps) h = omega (arith, as_many xs ps h.1)

  pub fit_at : (items : List P) (parts : List Part) (k : ℕ) (d : P) (e : Part) → k < length items → AllZip fits items parts
      → fits (get_or items k d) (get_or parts k e)
  fit_at [] parts k d e h f = absurd (omega arith)
  fit_at (x ∷ xs) [] k d e h f = absurd f
  fit_at (x ∷ xs) (p ∷ ps) zero d e h f = f.0
  fit_at (x ∷ xs) (p ∷ ps) (suc k) d e h f = fit_at xs ps k d e (omega arith) f.1

  pub length-pairwise : {A : Type 0} (f : P → Part → A) (items : List P) (parts : List Part) → AllZip fits items parts
      → length (pairwise f items parts) ≡ length items
  length-pairwise f [] [] h = refl
  length-pairwise f [] (p ∷ ps) h = absurd h
  length-pairwise f (x ∷ xs) [] h = absurd h
  length-pairwise f (x ∷ xs) (p ∷ ps) h = omega (arith, length-pairwise f xs ps h.1)

  pub pairwise_at : {A : Type 0} (f : P → Part → A) (items : List P) (parts : List Part) (k : ℕ) (d : P) (e : Part) (a : A)
      → k < length items → AllZip fits items parts → get_or (pairwise f items parts) k a ≡ f (get_or items k d) (get_or parts k e)
  pairwise_at f [] parts k d e a h g = absurd (omega arith)
  pairwise_at f (x ∷ xs) [] k d e a h g = absurd g
  pairwise_at f (x ∷ xs) (p ∷ ps) zero d e a h g = refl
  pairwise_at f (x ∷ xs) (p ∷ ps) (suc k) d e a h g = pairwise_at f xs ps k d e a (omega arith) g.1

  -- The cost of the first k + 1 exchanges is the cost of the first k plus that of exchange k. The cost of all
  -- exchanges is `total_cost`.
  pub cost_all : (cost : P → Part → ℕ) (items : List P) (parts : List Part) (k : ℕ) → length items ≤ k → AllZip fits items parts
      → sum_by (λ (n : ℕ). n) (take k (pairwise cost items parts)) ≡ total_cost cost items parts
  cost_all cost items parts k last g =
      let all = pairwise cost items parts in
      let n = length-pairwise cost items parts g in
      let m : length all ≤ k = omega (arith, n) in
      ap (sum_by (λ (n : ℕ). n)) (take_all k all m)

  pub cost_more : (cost : P → Part → ℕ) (items : List P) (parts : List Part) (k : ℕ) (d : P) (e : Part) → k < length items → AllZip fits items parts
      → sum_by (λ (n : ℕ). n) (take (k + 1) (pairwise cost items parts))
      ≡ sum_by (λ (n : ℕ). n) (take k (pairwise cost items parts)) + cost (get_or items k d) (get_or parts k e)
  cost_more cost items parts k d e h g =
      let all = pairwise cost items parts in
      let n = length-pairwise cost items parts g in
      let m : k < length all = omega (arith, n) in
      sum_by_more (λ (n : ℕ). n) all k 0 m ∙ ap (λ (c : ℕ). sum_by (λ (n : ℕ). n) (take k all) + c) (pairwise_at cost items parts k d e 0 h g)

  -- a sum over the items stays the same if no exchange changes the size of an item
  pub same_sum : (size : P → ℕ) (exchanged : P → Part → P) → ((x : P) (p : Part) → fits x p → size (exchanged x p) ≡ size x)
      → (items : List P) (parts : List Part) → AllZip fits items parts → sum_by size (pairwise exchanged items parts) ≡ sum_by size items
  same_sum size exchanged keeps [] [] h = refl
  same_sum size exchanged keeps [] (p ∷ ps) h = absurd h
  same_sum size exchanged keeps (x ∷ xs) [] h = absurd h
  same_sum size exchanged keeps (x ∷ xs) (p ∷ ps) h =
      sum_by-cons size (exchanged x p) (pairwise exchanged xs ps)
      ∙ (let e : size (exchanged x p) + sum_by size (pairwise exchanged xs ps) ≡ size x + sum_by size xs = omega (arith, keeps x p h.0, same_sum size exchanged keeps xs ps h.1) in e)
      ∙ sym (sum_by-cons size x xs)

  -- if two concatenated lists of parts fit two concatenated lists of items, each list of parts fits its items
  pub fit_front : (xs ys : List P) (ps qs : List Part) → length ps ≡ length xs → AllZip fits (xs ++ ys) (ps ++ qs) → AllZip fits xs ps
  fit_front [] ys [] qs l h = tt
  fit_front [] ys (p ∷ ps) qs l h = absurd (omega arith)
  fit_front (x ∷ xs) ys [] qs l h = absurd (omega arith)
  fit_front (x ∷ xs) ys (p ∷ ps) qs l h = (h.0, fit_front xs ys ps qs (omega arith) h.1)

  pub fit_back : (xs ys : List P) (ps qs : List Part) → length ps ≡ length xs → AllZip fits (xs ++ ys) (ps ++ qs) → AllZip fits ys qs
  fit_back [] ys [] qs l h = h
  fit_back [] ys (p ∷ ps) qs l h = absurd (omega arith)
  fit_back (x ∷ xs) ys [] qs l h = absurd (omega arith)
  fit_back (x ∷ xs) ys (p ∷ ps) qs l h = fit_back xs ys ps qs (omega arith) h.1

module _ {P Part A : Type 0} (f : P → Part → A) where
  pub pairwise-append : (xs ys : List P) (ps qs : List Part) → length ps ≡ length xs
      → pairwise f (xs ++ ys) (ps ++ qs) ≡ pairwise f xs ps ++ pairwise f ys qs
  pairwise-append [] ys [] qs l = refl
  pairwise-append [] ys (p ∷ ps) qs l = absurd (omega arith)
  pairwise-append (x ∷ xs) ys [] qs l = absurd (omega arith)
  pairwise-append (x ∷ xs) ys (p ∷ ps) qs l = ap (λ zs. f x p ∷ zs) (pairwise-append xs ys ps qs (omega arith))

  -- if the first of two lists of parts has one part, the first item is paired with this part
  pub pairwise_one : (x : P) (ys : List P) (one qs : List Part) (d : Part) → length one ≡ 1
      → pairwise f (x ∷ ys) (one ++ qs) ≡ f x (get_or one 0 d) ∷ pairwise f ys qs
  pairwise_one x ys [] qs d l = absurd (omega arith)
  pairwise_one x ys (p ∷ []) qs d l = refl
  pairwise_one x ys (p ∷ q ∷ ps) qs d l = absurd (omega arith)

pub set_one : {A : Type 0} (one : List A) (y : A) → length one ≡ 1 → set one 0 y ≡ y ∷ []
set_one [] y l = absurd (omega arith)
set_one (x ∷ []) y l = refl
set_one (x ∷ z ∷ xs) y l = absurd (omega arith)

-- increasing a saturating count by n and then by m is the same as increasing it by n + m
pub raised_twice : (count n m k once twice : ℕ) → once ≡ raised count n → twice ≡ raised once m → k ≡ n + m → twice ≡ raised count k
raised_twice count n m k once twice first second sum = omega (arith, first, second, sum)

-- The items and parts of a node: those of its left subtree, its own item and part, and those of its right
-- subtree.
module _ {P Part : Type 0} (fits : P → Part → Type 0) (xs : List P) (x : P) (ys : List P) (ps rest one qs : List Part) where
  pub record AreParted (all : List Part) : Type 0 where
    pub all_is : all ≡ ps ++ rest
    pub rest_is : rest ≡ one ++ qs
    pub front_len : length ps ≡ length xs
    pub one_len : length one ≡ 1

  pub fit_left : {all : List Part} → AreParted all → AllZip fits (xs ++ x ∷ ys) all → AllZip fits xs ps
  fit_left p h = fit_front fits xs (x ∷ ys) ps rest p.front_len (subst (AllZip fits (xs ++ x ∷ ys)) p.all_is h)

  fit_rest : {all : List Part} → AreParted all → AllZip fits (xs ++ x ∷ ys) all → AllZip fits (x ∷ ys) (one ++ qs)
  fit_rest p h =
      subst (AllZip fits (x ∷ ys)) p.rest_is (fit_back fits xs (x ∷ ys) ps rest p.front_len (subst (AllZip fits (xs ++ x ∷ ys)) p.all_is h))

  pub fit_item : {all : List Part} (d : Part) → AreParted all → AllZip fits (xs ++ x ∷ ys) all → fits x (get_or one 0 d)
  fit_item d p h =
      let e : length one ≡ length (x ∷ []) = p.one_len in
      fit_at fits (x ∷ []) one 0 x d (omega arith) (fit_front fits (x ∷ []) ys one qs e (fit_rest p h))

  pub fit_right : {all : List Part} → AreParted all → AllZip fits (xs ++ x ∷ ys) all → AllZip fits ys qs
  fit_right p h =
      let e : length one ≡ length (x ∷ []) = p.one_len in
      fit_back fits (x ∷ []) ys one qs e (fit_rest p h)

  pub pairwise_parts : {A : Type 0} (f : P → Part → A) {all : List Part} (d : Part) → AreParted all
      → pairwise f (xs ++ x ∷ ys) all ≡ pairwise f xs ps ++ f x (get_or one 0 d) ∷ pairwise f ys qs
  pairwise_parts f d p =
      ap (pairwise f (xs ++ x ∷ ys)) p.all_is ∙ pairwise-append f xs (x ∷ ys) ps rest p.front_len
      ∙ ap (λ zs. pairwise f xs ps ++ pairwise f (x ∷ ys) zs) p.rest_is ∙ ap (λ zs. pairwise f xs ps ++ zs) (pairwise_one f x ys one qs d p.one_len)

  -- the sum over a node's items is the sum over its left subtree, plus the size of its own item, plus the sum
  -- over its right subtree
  pub sum_parts : {A : Type 0} (size : A → ℕ) (f : P → Part → A) {all : List Part} (d : Part) → AreParted all
      → sum_by size (pairwise f (xs ++ x ∷ ys) all) ≡ sum_by size (pairwise f xs ps) + (size (f x (get_or one 0 d)) + sum_by size (pairwise f ys qs))
  sum_parts size f d p =
      ap (sum_by size) (pairwise_parts f d p) ∙ sum_by-append size (pairwise f xs ps) (f x (get_or one 0 d) ∷ pairwise f ys qs)
      ∙ ap (λ (n : ℕ). sum_by size (pairwise f xs ps) + n) (sum_by-cons size (f x (get_or one 0 d)) (pairwise f ys qs))
