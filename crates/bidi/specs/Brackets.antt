-- Bracket pairs, as indices, and their directions in one isolating run sequence (UAX #9, BD14 to BD16 and N0).
use Rattle.std.specs.Prelude.{ℕ, zero, suc, ◌+◌, ◌==◌, nat_lt, nat_le, Bool, true, false, ◌&&◌, ◌||◌, not, List, [], ◌∷◌, ◌++◌, length, map, fold, reverse, take, slice_index, slice_range, Option, Some, None, unwrap_or, count_by, if◌then◌else◌}
use Rattle.std.specs.List.{list_any, list_all, range_with_len}
use Rattle.ucd.specs.declared.bidi_class.BidiClass.{BidiClass}
use Rattle.ucd.specs.declared.bidi_class.BidiClass.TheVariants.{L, R, AL, EN, AN, ON}
use Rattle.ucd.specs.declared.bracket.Bracket.{Bracket}
use Rattle.ucd.specs.Classes.{class_at}
use Rattle.ucd.specs.Least.{least}
use Rattle.bidi.specs.Neighbours.{nearest}
use Rattle.bidi.specs.Neutral.{agree, side}
use Rattle.ucd.specs.Classes.{is_nonspacing_mark}
use Rattle.bidi.specs.Weak.{is_left}

abbrev pub is_other : BidiClass → Bool
is_other ON = true
is_other type = false

-- the canonical equivalent of a bracket: U+2329 counts as U+3008, and U+232A as U+3009
abbrev pub canonical : ℕ → ℕ
canonical c = if c == 0x2329 then 0x3008 else (if c == 0x232A then 0x3009 else c)

abbrev pub is_opening : Option Bracket → Bool
is_opening (Some bracket) = bracket.opens
is_opening None = false

abbrev pub is_closing : Option Bracket → Bool
is_closing (Some bracket) = not bracket.opens
is_closing None = false

-- whether c is the paired bracket of `bracket`, up to canonical equivalence
abbrev pub is_pair_of : Option Bracket → ℕ → Bool
is_pair_of (Some bracket) c = canonical bracket.pair == canonical c
is_pair_of None c = false

-- the greatest number below a bound that passes a test, if any does
abbrev pub greatest : (ℕ → Bool) → ℕ → Option ℕ
greatest test zero = None
greatest test (suc k) = if test k then Some k else greatest test k

-- the indices of an opening bracket and of its closing bracket
pub record Pair : Type 0 where
  pub opener : ℕ
  pub closer : ℕ

-- the brackets of a sequence, given its characters and their current types
module _ (bracket_of : ℕ → Option Bracket) (characters : List ℕ) (types : List BidiClass) where
  -- BD14 and BD15: only a character whose current type is ON can be an opening or closing bracket
  abbrev pub is_opener : ℕ → Bool
  is_opener i = is_other (class_at types i) && is_opening (bracket_of (slice_index characters i))

  abbrev pub is_closer : ℕ → Bool
  is_closer j = is_other (class_at types j) && is_closing (bracket_of (slice_index characters j))

  abbrev pub fits : ℕ → ℕ → Bool
  fits i j = is_pair_of (bracket_of (slice_index characters i)) (slice_index characters j)

  -- whether i is a live opening bracket: no pair found so far has opener ≤ i < closer
  abbrev pub is_live : List Pair → ℕ → Bool
  is_live pairs i = is_opener i && not (list_any (λ pair. nat_le pair.opener i && nat_lt i pair.closer) pairs)

  -- a list with the pair of the opening bracket at i and the closing bracket at j, or an empty list if i is
  -- `None`
  abbrev pub paired_with : Option ℕ → ℕ → List Pair
  paired_with (Some i) j = record { opener = i; closer = j } ∷ []
  paired_with None j = []

  -- The pairs whose closing bracket is before j. Each closing bracket is paired with the last live opening
  -- bracket that it matches.
  abbrev pub pairs_before : ℕ → List Pair
  pairs_before zero = []
  pairs_before (suc j) =
      let pairs = pairs_before j in
      pairs ++ (if is_closer j then paired_with (greatest (λ i. is_live pairs i && fits i j) j) j else [])

  -- BD16: whether j is an opening bracket with at least 63 live ones before it. Pairing stops at the first
  -- such bracket.
  abbrev pub is_full : ℕ → Bool
  is_full j = is_opener j && nat_le 63 (count_by (is_live (pairs_before j)) (range_with_len 0 j))

  abbrev pub pairs_of : List Pair
  pairs_of = pairs_before (unwrap_or (least is_full 0 (length types)) (length types))

-- the index of the closing bracket that is paired with the opening bracket at i, if any
abbrev pub closer_of : List Pair → ℕ → Option ℕ
closer_of [] i = None
closer_of (pair ∷ pairs) i = if pair.opener == i then Some pair.closer else closer_of pairs i

-- whether a type counts as strong in N0: strong types do, and so do numbers, which count as R
abbrev pub is_direction : BidiClass → Bool
is_direction L = true
is_direction R = true
is_direction AL = true
is_direction EN = true
is_direction AN = true
is_direction type = false

-- whether a type counts as strong in N0 and has the given direction: L if `left` is true, or else R
abbrev pub is_toward : Bool → BidiClass → Bool
is_toward left type = is_direction type && agree left (is_left type)

-- whether a strong type of the given direction occurs between two indices
abbrev pub stands : Bool → List BidiClass → ℕ → ℕ → Bool
stands left types a b = list_any (is_toward left) (slice_range types (a + 1) b)

-- the nearest strong type before an index, or sos if there is none
abbrev pub context : BidiClass → List BidiClass → ℕ → BidiClass
context sos types a = nearest is_direction sos (reverse (take a types))

-- N0: the direction of a pair, if it gets one. If a strong type inside the pair has the embedding direction,
-- the pair gets that direction. Otherwise, if a strong type inside has the opposite direction, the nearest
-- strong type before the pair decides. If that type has the opposite direction, so does the pair; if not, the
-- pair gets the embedding direction. A pair with no strong type inside gets no direction.
abbrev pub pair_direction : Bool → BidiClass → List BidiClass → ℕ → ℕ → Option BidiClass
pair_direction left sos types a b =
    if stands left types a b then Some (side left)
    else (if stands (not left) types a b then Some (side (if agree left (is_left (context sos types a)) then left else not left)) else None)

-- Whether the character at k is the bracket at p or one of the nonspacing marks directly after it. A nonspacing mark is
-- a character whose type was NSM before W1.
abbrev pub is_set_with : List Bool → ℕ → ℕ → Bool
is_set_with marks p k = (p == k) || (nat_lt p k && list_all (λ mark. mark) (slice_range marks (p + 1) (k + 1)))

abbrev pub set_with : List Bool → BidiClass → List BidiClass → ℕ → List BidiClass
set_with marks direction types p = map (λ k. if is_set_with marks p k then direction else class_at types k) (range_with_len 0 (length types))

-- the types that result when both brackets of a pair, and the nonspacing marks directly after them, get the pair's
-- direction, if it has one
abbrev pub set_pair : List Bool → List BidiClass → ℕ → ℕ → Option BidiClass → List BidiClass
set_pair marks types a b (Some direction) = set_with marks direction (set_with marks direction types a) b
set_pair marks types a b None = types

module _ (embedding : BidiClass) (sos : BidiClass) (marks : List Bool) where
  abbrev pub pair_step : List BidiClass → ℕ → Option ℕ → List BidiClass
  pair_step types a (Some b) = set_pair marks types a b (pair_direction (is_left embedding) sos types a b)
  pair_step types a None = types

  -- resolves the pairs in the order of their opening brackets, each with the types that result from the
  -- earlier pairs
  abbrev pub resolve_pairs : (ℕ → Option ℕ) → List BidiClass → List BidiClass
  resolve_pairs closer types = fold (λ current a. pair_step current a (closer a)) types (range_with_len 0 (length types))

-- N0 on a sequence: `explicit` holds the types before W1, and `types` holds the current types
abbrev pub brackets : (ℕ → Option Bracket) → BidiClass → BidiClass → List ℕ → List BidiClass → List BidiClass → List BidiClass
brackets bracket_of embedding sos characters explicit types =
    resolve_pairs embedding sos (map is_nonspacing_mark explicit) (closer_of (pairs_of bracket_of characters types)) types
