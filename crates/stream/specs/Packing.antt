-- How vector code encodes characters: tests for their lengths, and the bytes that are kept from each lane.
use Rattle.std.specs.Prelude.{ℕ, ◌/◌, ◌%◌, ◌==◌, ◌++◌, nat_lt, Bool, List, [], ◌∷◌, take, if◌then◌else◌}

-- whether a number is at most U+10FFFF, the highest code point
abbrev pub is_code : ℕ → Bool
is_code c = nat_lt c 0x110000

-- the number of bytes that are kept from a lane, given the lane's bits in the two masks
abbrev pub kept : ℕ → ℕ → ℕ
kept low high = if high == 0 then (if low == 0 then 1 else 2) else (if low == 0 then 4 else 3)

-- the bytes of a lane, with the lowest byte first
abbrev pub bytes_of : ℕ → List ℕ
bytes_of word = (word % 256) ∷ (word / 256 % 256) ∷ (word / 65536 % 256) ∷ (word / 16777216 % 256) ∷ []

-- the UTF-8 bytes of the characters in the lanes; a lane's bits in the two masks encode its number of bytes
abbrev pub packed : List ℕ → ℕ → ℕ → List ℕ
packed [] low high = []
packed (word ∷ words) low high = take (kept (low % 2) (high % 2)) (bytes_of word) ++ packed words (low / 2) (high / 2)

-- whether a character has one or two bytes in UTF-8
abbrev pub fits_two_bytes : ℕ → Bool
fits_two_bytes c = nat_lt c 0x800
