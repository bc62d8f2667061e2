-- The lead bytes of UTF-8 text, each of which begins a character.
use Rattle.std.specs.Prelude.{ℕ, Bool, ◌||◌, nat_lt, nat_le}

-- whether a byte is a lead byte, that is, any byte except 0x80 to 0xBF
abbrev pub is_lead_byte : ℕ → Bool
is_lead_byte b = nat_lt b 128 || nat_le 192 b
