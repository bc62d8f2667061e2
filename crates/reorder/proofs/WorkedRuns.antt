-- Worked examples: the level runs of a line, from left to right.
use Rattle.std.proofs.Common.{◌≡◌, ℕ, [], ◌∷◌, refl}
use Rattle.reorder.specs.Order.{order_of}
use Rattle.reorder.specs.Runs.{runs_of}
use Rattle.reorder.specs.declared.runs.Run.{Run}

abbrev run : ℕ → ℕ → ℕ → Run
run start len level = record { start = start; len = len; level = level }

-- `abc`, three Hebrew letters and `def`, left to right
hebrew_in_latin : runs_of (0 ∷ 0 ∷ 0 ∷ 0 ∷ 1 ∷ 1 ∷ 1 ∷ 0 ∷ 0 ∷ 0 ∷ 0 ∷ []) ≡ run 0 4 0 ∷ run 4 3 1 ∷ run 7 4 0 ∷ []
unfolding runs_of order_of
hebrew_in_latin = refl

-- the same text from right to left: the Hebrew letters are between the Latin words, and the second word is on
-- the left
right_to_left : runs_of (2 ∷ 2 ∷ 2 ∷ 1 ∷ 1 ∷ 1 ∷ 1 ∷ 1 ∷ 2 ∷ 2 ∷ 2 ∷ []) ≡ run 8 3 2 ∷ run 3 5 1 ∷ run 0 3 2 ∷ []
unfolding runs_of order_of
right_to_left = refl

-- a number in Hebrew text that is embedded in Latin text
number : runs_of (0 ∷ 1 ∷ 1 ∷ 2 ∷ 2 ∷ 1 ∷ 0 ∷ []) ≡ run 0 1 0 ∷ run 5 1 1 ∷ run 3 2 2 ∷ run 1 2 1 ∷ run 6 1 0 ∷ []
unfolding runs_of order_of
number = refl

-- a run at level 4 between two at level 2, all inside a run at level 1
nested : runs_of (1 ∷ 2 ∷ 4 ∷ 2 ∷ 3 ∷ 1 ∷ []) ≡ run 5 1 1 ∷ run 1 1 2 ∷ run 2 1 4 ∷ run 3 1 2 ∷ run 4 1 3 ∷ run 0 1 1 ∷ []
unfolding runs_of order_of
nested = refl

-- no level is odd
no_odd : runs_of (2 ∷ 2 ∷ 4 ∷ 2 ∷ []) ≡ run 0 2 2 ∷ run 2 1 4 ∷ run 3 1 2 ∷ []
unfolding runs_of order_of
no_odd = refl

-- no level is 0 or 1
high : runs_of (3 ∷ 4 ∷ 5 ∷ 5 ∷ 4 ∷ []) ≡ run 1 1 4 ∷ run 2 2 5 ∷ run 4 1 4 ∷ run 0 1 3 ∷ []
unfolding runs_of order_of
high = refl

one_run : runs_of (1 ∷ 1 ∷ 1 ∷ []) ≡ run 0 3 1 ∷ []
unfolding runs_of order_of
one_run = refl

empty : runs_of [] ≡ []
unfolding runs_of order_of
empty = refl
