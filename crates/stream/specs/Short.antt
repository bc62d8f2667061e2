-- Characters of one or two bytes.
use Rattle.std.specs.Prelude.{ℕ, zero, suc, ◌+◌, ◌*◌, ◌/◌, ◌%◌, ◌==◌, nat_lt, not, ◌||◌, Bool, List, [], ◌∷◌, slice_index, if◌then◌else◌}

-- whether a byte of a text is the first byte of a character
abbrev pub begins : ℕ → Bool
begins byte = nat_lt byte 0x80 || not (nat_lt byte 0xC0)

-- Each marked byte among the first n, paired with the byte after it. A pair is one number, with the marked
-- byte in its low bits. The lowest bit of `marks` is the mark of the first byte.
abbrev pub pairs : ℕ → ℕ → List ℕ → List ℕ
pairs zero marks bytes = []
pairs (suc n) marks [] = []
pairs (suc n) marks (byte ∷ bytes) =
    if marks % 2 == 1 then (byte + 256 * slice_index bytes 0) ∷ pairs n (marks / 2) bytes else pairs n (marks / 2) bytes

-- the character at the start of a pair: the pair's low byte is its first byte, and the high byte is its
-- second, if it has two
abbrev pub short_char : ℕ → ℕ
short_char pair = if nat_lt (pair % 256) 0x80 then pair % 256 else (pair % 32 * 64 + pair / 256 % 64)
