-- Lemmas on lists whose items count 1 each: the sum over a list is at most its length.
use Rattle.std.proofs.Common.{ℕ, ◌+◌, ◌≤◌, List, [], ◌∷◌, ◌++◌, length, take, drop, sum_by, arith, length-append, length-take, length-drop}
use Rattle.std.specs.List.{splice}
use Rattle.std.proofs.lemmas.List.Sums.{sum_by-cons}

module _ {P : Type 0} where
  sum_of_all : (xs : List P) → sum_by (λ _. 1) xs ≤ length xs
  sum_of_all [] = omega arith
  sum_of_all (x ∷ xs) = omega (arith, sum_by-cons (λ _. 1) x xs, sum_of_all xs)

  pub sum_of_splice : (xs : List P) (i j : ℕ) (ys : List P) → i ≤ j → sum_by (λ _. 1) (splice xs i j ys) ≤ length xs + length ys
  sum_of_splice xs i j ys h =
      omega (arith, sum_of_all (splice xs i j ys), length-append (take i xs) (ys ++ drop j xs), length-append ys (drop j xs), length-take i xs, length-drop j xs)
