-- Worked examples: the maximal intervals of covered columns.
use Rattle.std.proofs.Common.{◌≡◌, ℕ, Bool, true, false, List, [], ◌∷◌, length, get_or, refl}
use Rattle.lines.specs.Spans.{intervals_from}
use Rattle.lines.specs.declared.spans.Span.{Span}

-- whether each column is covered
abbrev spans : List Bool → List Span
spans columns = intervals_from (λ column. get_or columns column false) (length columns) 0

abbrev span : ℕ → ℕ → Span
span left right = record { left = left; right = right }

-- Two letters and a space, three Hebrew letters, a space and two letters. The range ends after the second Hebrew
-- letter, which is to the right of the third.
in_two : spans (false ∷ true ∷ true ∷ false ∷ true ∷ true ∷ false ∷ false ∷ false ∷ []) ≡ span 1 3 ∷ span 4 6 ∷ []
in_two = refl

-- the range ends inside the space after the Hebrew letters
in_one : spans (false ∷ true ∷ true ∷ true ∷ true ∷ true ∷ true ∷ false ∷ false ∷ []) ≡ span 1 7 ∷ []
in_one = refl

up_to_both_edges : spans (true ∷ false ∷ true ∷ []) ≡ span 0 1 ∷ span 2 3 ∷ []
up_to_both_edges = refl

all_of_it : spans (true ∷ true ∷ []) ≡ span 0 2 ∷ []
all_of_it = refl

none_of_it : spans (false ∷ false ∷ []) ≡ []
none_of_it = refl

no_columns : spans [] ≡ []
no_columns = refl
