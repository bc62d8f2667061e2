-- What N0 does with each character of one isolating run sequence (UAX #9, BD14 to BD16 and N0). For a
-- bracket, this is the case that applies, the other bracket of its pair, and the strong type that decides the
-- case.
use Rattle.std.specs.Prelude.{ℕ, ◌+◌, ◌-◌, ◌==◌, nat_le, min, max, Bool, true, false, ◌&&◌, ◌||◌, not, List, [], ◌∷◌, length, map, fold, slice_index, Option, Some, None, is_some, if◌then◌else◌}
use Rattle.std.specs.List.{range_with_len}
use Rattle.ucd.specs.declared.bidi_class.BidiClass.{BidiClass}
use Rattle.ucd.specs.declared.bracket.Bracket.{Bracket}
use Rattle.ucd.specs.Classes.{class_at, is_nonspacing_mark}
use Rattle.ucd.specs.Least.{least}
use Rattle.bidi.specs.Brackets.{Pair, closer_of, context, greatest, is_full, is_live, is_other, is_set_with, is_toward, pair_step, pairs_before, pairs_of, stands}
use Rattle.bidi.specs.Neutral.{agree}
use Rattle.bidi.specs.Weak.{is_left}
use Rattle.bidi.specs.declared.bracket_steps.BracketCase.{BracketCase}
use Rattle.bidi.specs.declared.bracket_steps.BracketCase.TheVariants.{B, C1, C2, D, NotOther, NoMatch, PastLimit}
use Rattle.bidi.specs.declared.bracket_steps.BracketStep.{BracketStep}

-- if the bracket at k is in one of the pairs, the index of the other bracket of that pair
abbrev pub partner_in : List Pair → ℕ → Option ℕ
partner_in [] k = None
partner_in (pair ∷ pairs) k = if pair.opener == k then Some pair.closer else (if pair.closer == k then Some pair.opener else partner_in pairs k)

-- N0: the case of the pair with brackets at a and b
abbrev pub pair_case : Bool → BidiClass → List BidiClass → ℕ → ℕ → BracketCase
pair_case left sos types a b =
    if stands left types a b then B
    else (if stands (not left) types a b then (if agree left (is_left (context sos types a)) then C2 else C1) else D)

-- whether N0 gives a direction to a bracket with this case
abbrev pub has_direction : Option BracketCase → Bool
has_direction (Some B) = true
has_direction (Some C1) = true
has_direction (Some C2) = true
has_direction case = false

-- the index of the first strong type of the given direction between two indices, if there is one
abbrev pub first_inside : Bool → List BidiClass → ℕ → ℕ → Option ℕ
first_inside left types a b = least (λ k. is_toward left (class_at types k)) (a + 1) (b - (a + 1))

-- The index of the strong type that decides the case of a pair, if the pair contains one. It is the first
-- strong type of the embedding direction or, if there is none, the first of the opposite direction.
abbrev pub deciding : Bool → List BidiClass → ℕ → ℕ → Option ℕ
deciding left types a b = if stands left types a b then first_inside left types a b else first_inside (not left) types a b

-- the types after the pairs that open before index a have been resolved
abbrev pub resolved_before : BidiClass → BidiClass → List Bool → (ℕ → Option ℕ) → List BidiClass → ℕ → List BidiClass
resolved_before embedding sos marks closer types a = fold (λ current i. pair_step embedding sos marks current i (closer i)) types (range_with_len 0 a)

-- the brackets of a sequence, given its characters and their types before N0
module _ (bracket_of : ℕ → Option Bracket) (characters : List ℕ) (types : List BidiClass) where
  -- BD16: whether pairing stopped before it could find a pair for the bracket at k. `full` is the opening
  -- bracket at which it stopped, if it did. Neither the brackets from there on nor the opening brackets that
  -- are still live there get a pair.
  abbrev pub is_past : Option ℕ → ℕ → Bool
  is_past (Some full) k = nat_le full k || is_live bracket_of characters types (pairs_before bracket_of characters types full) k
  is_past None k = false

  -- why the bracket at k is unpaired, if it is, or `None` if the character at k is not a bracket
  abbrev pub unpaired_case : ℕ → Option BracketCase
  unpaired_case k =
      if is_some (bracket_of (slice_index characters k))
      then Some (if is_other (class_at types k)
      then (if is_past (least (is_full bracket_of characters types) 0 (length types)) k then PastLimit else NoMatch)
      else NotOther)
      else None

-- N0 for each character: `explicit` holds the types before W1, and `types` the types before N0
module _ (bracket_of : ℕ → Option Bracket) (embedding sos : BidiClass) (characters : List ℕ) (explicit types : List BidiClass) where
  -- the types from which N0 decides the case of the pair that opens at a: the types after the earlier pairs
  -- have been resolved
  abbrev pub types_for : ℕ → List BidiClass
  types_for a = resolved_before embedding sos (map is_nonspacing_mark explicit) (closer_of (pairs_of bracket_of characters types)) types a

  abbrev pub case_with : ℕ → Option ℕ → Option BracketCase
  case_with k (Some j) = Some (pair_case (is_left embedding) sos (types_for (min k j)) (min k j) (max k j))
  case_with k None = unpaired_case bracket_of characters types k

  -- the case of the character at k, if it is a bracket
  abbrev pub case_at : ℕ → Option BracketCase
  case_at k = case_with k (partner_in (pairs_of bracket_of characters types) k)

  -- the bracket whose direction N0 also gives to the nonspacing mark at k: the nearest bracket before k that gets a
  -- direction, if only nonspacing marks are between it and k
  abbrev pub set_by : ℕ → Option ℕ
  set_by k = greatest (λ p. has_direction (case_at p) && is_set_with (map is_nonspacing_mark explicit) p k) k

  abbrev pub step_with : ℕ → Option ℕ → BracketStep
  step_with k (Some j) = record {
    case = case_with k (Some j);
    partner = Some j;
    inside = deciding (is_left embedding) (types_for (min k j)) (min k j) (max k j);
  }
  step_with k None = record { case = case_with k None; partner = set_by k; inside = None }

  abbrev pub bracket_step : ℕ → BracketStep
  bracket_step k = step_with k (partner_in (pairs_of bracket_of characters types) k)

  abbrev pub bracket_steps : List BracketStep
  bracket_steps = map bracket_step (range_with_len 0 (length types))
