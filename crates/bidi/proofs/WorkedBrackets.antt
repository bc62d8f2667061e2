-- Examples of bracket pairs.
use Rattle.std.proofs.Common.{◌≡◌, ℕ, ◌++◌, ◌==◌, true, false, List, [], ◌∷◌, Option, Some, None, map, if◌then◌else◌, refl}
use Rattle.std.specs.List.{repeat}
use Rattle.ucd.specs.declared.bidi_class.BidiClass.{BidiClass}
use Rattle.ucd.specs.declared.bidi_class.BidiClass.TheVariants.{L, R, WS, ON, NSM}
use Rattle.ucd.specs.declared.bracket.Bracket.{Bracket}
use Rattle.bidi.specs.Levels.{paragraph_levels}

-- the brackets of the examples: parentheses and angle brackets
abbrev bracket : ℕ → Option Bracket
bracket c =
    if c == 40 then Some (record { pair = 41; opens = true })
    else (if c == 41 then Some (record { pair = 40; opens = false })
    else (if c == 0x2329 then Some (record { pair = 0x232A; opens = true })
    else (if c == 0x3009 then Some (record { pair = 0x3008; opens = false }) else None)))

abbrev class : ℕ → BidiClass
class c = if c == 97 then L else (if c == 1488 then R else (if c == 32 then WS else (if c == 768 then NSM else ON)))

abbrev levels : List ℕ → ℕ → List ℕ
levels text base = paragraph_levels bracket text (map class text) base

row_spaces : levels (1488 ∷ 1488 ∷ 32 ∷ 40 ∷ 97 ∷ 41 ∷ 32 ∷ 1488 ∷ []) 1 ≡ 1 ∷ 1 ∷ 1 ∷ 1 ∷ 2 ∷ 1 ∷ 1 ∷ 1 ∷ []
row_spaces = refl

row_left : levels (97 ∷ 40 ∷ 1488 ∷ 41 ∷ 97 ∷ []) 0 ≡ 0 ∷ 0 ∷ 1 ∷ 0 ∷ 0 ∷ []
row_left = refl

row_embedding : levels (1488 ∷ 40 ∷ 97 ∷ 41 ∷ []) 0 ≡ 1 ∷ 0 ∷ 0 ∷ 0 ∷ []
row_embedding = refl

row_opposite : levels (1488 ∷ 40 ∷ 1488 ∷ 41 ∷ []) 0 ≡ 1 ∷ 1 ∷ 1 ∷ 1 ∷ []
row_opposite = refl

row_unclosed : levels (1488 ∷ 40 ∷ 1488 ∷ 40 ∷ 97 ∷ 41 ∷ []) 0 ≡ 1 ∷ 1 ∷ 1 ∷ 0 ∷ 0 ∷ 0 ∷ []
row_unclosed = refl

row_angles : levels (97 ∷ 0x2329 ∷ 97 ∷ 0x3009 ∷ []) 1 ≡ 2 ∷ 2 ∷ 2 ∷ 2 ∷ []
row_angles = refl

row_mark : levels (97 ∷ 40 ∷ 97 ∷ 41 ∷ 768 ∷ []) 1 ≡ 2 ∷ 2 ∷ 2 ∷ 2 ∷ 2 ∷ []
row_mark = refl

row_nested : levels (97 ∷ repeat 3 (40 ∷ []) ++ 97 ∷ repeat 3 (41 ∷ [])) 1 ≡ repeat 8 (2 ∷ [])
row_nested = refl
