-- The names of the seven table files.
use Rattle.std.specs.Prelude.{ℕ, List, [], ◌∷◌, codes, get_or}

abbrev pub file_names : List (List ℕ)
file_names =
    codes "DerivedBidiClass.txt" ∷ codes "BidiBrackets.txt" ∷ codes "BidiMirroring.txt" ∷ codes "LineBreak.txt" ∷ codes "DerivedGeneralCategory.txt"
    ∷ codes "EastAsianWidth.txt" ∷ codes "emoji-data.txt" ∷ []

-- the name of the file at an index from 0 to 6
abbrev pub file_name : ℕ → List ℕ
file_name index = get_or file_names index []
