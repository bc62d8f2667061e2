-- The fields of a line, one after the other.
use Rattle.std.proofs.Common.{◌≡◌, ℕ, ◌≤◌, List, [], ◌∷◌, drop, get_or, Option, Some, None, refl, zero, suc, arith}
use Rattle.std.specs.List.{slice_split}
use Rattle.ucd.specs.Grammar.{is_delimiter, parts_of}

-- the fields that have not been passed over
abbrev pub fields_left : Option (List ℕ) → List (List ℕ)
fields_left None = []
fields_left (Some text) = slice_split (is_delimiter 59) text

-- the fields of the remaining text are its first field, followed by those that are left after it
pub first_field : (text front : List ℕ) (rest : Option (List ℕ)) → slice_split (is_delimiter 59) text ≡ parts_of 59 front rest
    → slice_split (is_delimiter 59) text ≡ front ∷ fields_left rest
first_field text front None is = is
first_field text front (Some rest) is = is

-- if nothing is left after the first k of a list, there is nothing at k or later
pub nothing_from : (xs : List (List ℕ)) (k n : ℕ) → drop k xs ≡ [] → k ≤ n → get_or xs n [] ≡ []
nothing_from [] k n is from = refl
nothing_from (x ∷ xs) zero n is from = absurd (let no : ⊥ = cc in no)
nothing_from (x ∷ xs) (suc k) zero is from = absurd (omega arith)
nothing_from (x ∷ xs) (suc k) (suc n) is from = nothing_from xs k n is (omega arith)
