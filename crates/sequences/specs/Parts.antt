-- The parts of a text between separators. The text includes the character before its first part: an
-- introducer or a separator. So an empty text has no parts. Only contracts use these definitions; the
-- definition of what a text shows does not.
use Rattle.std.specs.Prelude.{ℕ, suc, ◌==◌, List, [], ◌∷◌, map}
use Rattle.std.specs.List.{position_or_len, slice_split}
use Rattle.sequences.specs.Parameters.{fields, number}

abbrev pub parts_after : ℕ → List ℕ → List (List ℕ)
parts_after separator [] = []
parts_after separator (c ∷ text) = slice_split (λ x. x == separator) text

-- the length of the first part, including the character before the part
abbrev pub first_len : ℕ → List ℕ → ℕ
first_len separator [] = 0
first_len separator (c ∷ text) = suc (position_or_len (λ x. x == separator) text)

abbrev pub fields_after : List ℕ → List ℕ
fields_after text = map number (parts_after 0x3A text)

abbrev pub parameters_after : List ℕ → List (List ℕ)
parameters_after text = map fields (parts_after 0x3B text)
