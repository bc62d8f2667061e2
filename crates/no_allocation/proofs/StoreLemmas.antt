-- The items of a store after the parts of the items are exchanged.
use Rattle.std.proofs.Common.{◌≡◌, ℕ, ◌+◌, ◌<◌, ◌≤◌, List, [], ◌∷◌, length, sum_by, arith}
use Rattle.std.specs.List.{AllZip}
use Rattle.std.proofs.lemmas.List.Sums.{sum_by-cons}
use Rattle.store.specs.Exchanging.{pairwise}

-- if the number of parts equals the number of items, each part fits its item, because any part fits any item
pub all_fit : {P : Type 0} (xs : List P) (ps : List ℕ) → length ps ≡ length xs → AllZip (λ _ _. Unit {0}) xs ps
all_fit [] [] h = tt
all_fit [] (p ∷ ps) h = absurd (omega arith)
all_fit (x ∷ xs) [] h = absurd (omega arith)
all_fit (x ∷ xs) (p ∷ ps) h = (tt, all_fit xs ps (omega arith))

-- after the exchange, the sum of the lines is at most the sum of the parts
pub sum_of_parts : {P : Type 0} (lines : P → ℕ) (put : P → ℕ → P) → ((x : P) (n : ℕ) → lines (put x n) ≡ n)
    → (xs : List P) (ps : List ℕ) → sum_by lines (pairwise put xs ps) ≤ sum_by (λ n. n) ps
sum_of_parts lines put e [] ps = omega arith
sum_of_parts lines put e (x ∷ xs) [] = omega arith
sum_of_parts lines put e (x ∷ xs) (p ∷ ps) =
    omega (arith, sum_by-cons lines (put x p) (pairwise put xs ps), sum_by-cons (λ (n : ℕ). n) p ps, e x p, sum_of_parts lines put e xs ps)
