-- The parameters of SGR and OSC 8 as text.
use Rattle.std.specs.Prelude.{ℕ, ◌+◌, ◌-◌, ◌*◌, min, nat_le, ◌==◌, Bool, ◌&&◌, List, [], ◌∷◌, length, map, fold, take, slice_index, Option, Some, None, if◌then◌else◌}
use Rattle.std.specs.List.{position_or_len, prefix_len, slice_split}

-- digits, colons and semicolons
abbrev pub is_sgr : ℕ → Bool
is_sgr c = nat_le 0x30 c && nat_le c 0x3B

abbrev pub is_semicolon : ℕ → Bool
is_semicolon c = c == 0x3B

abbrev pub is_colon : ℕ → Bool
is_colon c = c == 0x3A

-- a decimal number, or 256 if it is larger, since no number above 255 has a meaning; no digits mean 0
abbrev pub with_digit : ℕ → ℕ → ℕ
with_digit n digit = min 256 (10 * n + (digit - 0x30))

abbrev pub number : List ℕ → ℕ
number digits = fold with_digit 0 digits

-- the fields of a parameter, and the parameters in a text
abbrev pub fields : List ℕ → List ℕ
fields text = map number (slice_split is_colon text)

abbrev pub parameters : List ℕ → List (List ℕ)
parameters text = map fields (slice_split is_semicolon text)

-- the parameters of SGR, given the text after CSI; `None` for any other control sequence
abbrev pub sgr : List ℕ → Option (List (List ℕ))
sgr text = if slice_index text (prefix_len is_sgr text) == 0x6D then Some (parameters (take (prefix_len is_sgr text) text)) else None

-- A link: its parameters, a semicolon and its URI. An empty URI ends a link, and is represented as an empty
-- link. A string without a semicolon is not a link.
abbrev pub uri_link : List ℕ → Option (List ℕ)
uri_link link =
    if position_or_len is_semicolon link == length link then None
    else if position_or_len is_semicolon link + 1 == length link then Some []
    else Some link

-- the link of OSC 8, given the string after OSC; `None` for any other string
abbrev pub osc_link : List ℕ → Option (List ℕ)
osc_link (a ∷ b ∷ link) = if a == 0x38 && b == 0x3B then uri_link link else None
osc_link text = None
