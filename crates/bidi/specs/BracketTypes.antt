-- Bracket types: what bracket pairing needs to know about each character (UAX #9, BD14 and BD15).
use Rattle.std.specs.Prelude.{ℕ, Bool, true, false, List, map, slice_index_or, Option, Some, None, if◌then◌else◌}
use Rattle.ucd.specs.declared.bracket.Bracket.{Bracket}
use Rattle.bidi.specs.declared.bracket_type.BracketType.{BracketType}
use Rattle.bidi.specs.declared.bracket_type.BracketType.TheVariants.{Other, Opening, Closing}

-- The bracket type of c. The type of an opening bracket contains the closing bracket of its pair, and that of
-- a closing bracket contains the bracket itself.
abbrev pub type_by : Option Bracket → ℕ → BracketType
type_by (Some bracket) c = if bracket.opens then Opening bracket.pair else Closing c
type_by None c = Other

-- the bracket type of each character of a text
abbrev pub bracket_types : (ℕ → Option Bracket) → List ℕ → List BracketType
bracket_types look text = map (λ c. type_by (look c) c) text

-- the bracket type at an index, or `Other` past the end
abbrev pub bracket_at : List BracketType → ℕ → BracketType
bracket_at brackets k = slice_index_or brackets k Other

abbrev pub is_bracket : BracketType → Bool
is_bracket Other = false
is_bracket bracket = true
