-- The passes for N0 on a sequence: their results, and the step of each character, computed from these
-- results.
use Rattle.std.specs.Prelude.{◌≡◌, ℕ, zero, suc, ◌<◌, ◌==◌, nat_le, nat_lt, min, Bool, false, not, ◌&&◌, ◌||◌, List, length, map, slice_index, slice_index_or, slice_set, Option, Some, None, unwrap_or, if◌then◌else◌}
use Rattle.std.specs.List.{list_any, range_with_len}
use Rattle.ucd.specs.declared.bidi_class.BidiClass.{BidiClass}
use Rattle.ucd.specs.declared.bracket.Bracket.{Bracket}
use Rattle.ucd.specs.Least.{least}
use Rattle.bidi.specs.Brackets.{Pair, is_full, is_live, is_other, pairs_before, pairs_of}
use Rattle.bidi.specs.BracketSteps.{deciding, has_direction, pair_case, partner_in}
use Rattle.bidi.specs.BracketTypes.{is_bracket}
use Rattle.bidi.specs.Neutral.{side}
use Rattle.bidi.specs.declared.bracket_steps.BracketCase.{BracketCase}
use Rattle.bidi.specs.declared.bracket_steps.BracketCase.TheVariants.{B, C1, C2, NotOther, NoMatch, PastLimit}
use Rattle.bidi.specs.declared.bracket_steps.BracketStep.{BracketStep}
use Rattle.bidi.specs.declared.bracket_steps.Decision.{Decision}
use Rattle.bidi.specs.declared.bracket_type.BracketType.{BracketType}
use Rattle.bidi.specs.declared.brackets.Opener.{Opener}

-- for each of `len` characters, the index of its partner (the other bracket of its pair), or `len` if it has
-- none
abbrev pub partners_of : List Pair → ℕ → List ℕ
partners_of pairs len = map (λ k. unwrap_or (partner_in pairs k) len) (range_with_len 0 len)

-- the list of partners once the closing bracket at `place` has been paired with the opening bracket at
-- position m of the stack, if it matches one
abbrev pub paired_by : Option ℕ → List Opener → List ℕ → ℕ → List ℕ
paired_by (Some m) openers partners place =
    let opener = slice_index (map (λ (o : Opener). o.index) openers) m in
    slice_set (slice_set partners opener place) place opener
paired_by None openers partners place = partners

-- whether the opening bracket at index k of the sequence is on the stack
abbrev pub is_open : List Opener → ℕ → Bool
is_open openers k = list_any (λ (o : Opener). o.index == k) openers

-- The results of the pass that pairs brackets: the partners, the opening bracket at which pairing stopped, if
-- any, and the stack at that time.
pub record ArePartners (look : ℕ → Option Bracket) (text : List ℕ) (types : List BidiClass) (openers : List Opener) (partners : List ℕ) (full : Option ℕ) : Type 0 where
  pub partners_are : partners ≡ partners_of (pairs_of look text types) (length types)
  pub full_is : full ≡ least (is_full look text types) 0 (length types)
  pub openers_are : (f k : ℕ) → full ≡ Some f → k < f → is_open openers k ≡ is_live look text types (pairs_before look text types f) k

-- the index of the closing bracket of the pair that opens at k, if there is one, given the list of partners
abbrev pub closer_by : List ℕ → ℕ → Option ℕ
closer_by partners k =
    if nat_lt k (slice_index partners k) && nat_lt (slice_index partners k) (length partners) then Some (slice_index partners k) else None

-- what N0 decides for the pair that opens at a; the last argument is the index of its closing bracket, or
-- `None` if no pair opens at a
abbrev pub decision_by : Bool → BidiClass → List BidiClass → ℕ → Option ℕ → Decision
decision_by left sos types a (Some b) = record { case = Some (pair_case left sos types a b); inside = deciding left types a b }
decision_by left sos types a None = record { case = None; inside = None }

-- the direction that a pair gets in a case of N0, or `None` if it gets none
abbrev pub direction_in : Bool → BracketCase → Option BidiClass
direction_in left B = Some (side left)
direction_in left C1 = Some (side (not left))
direction_in left C2 = Some (side left)
direction_in left case = None

-- Whether pairing stopped before the bracket at k, which has no pair, could be paired. `full` is the bracket
-- at which pairing stopped, and `openers` is the stack at that time.
abbrev pub is_past_by : List Opener → Option ℕ → ℕ → Bool
is_past_by openers (Some full) k = nat_le full k || is_open openers k
is_past_by openers None k = false

-- Why the bracket at k is unpaired, if it is, or `None` if the character at k is not a bracket. `kind` is its
-- bracket type, and `type` is its type before N0.
abbrev pub unpaired_by : List Opener → Option ℕ → BracketType → BidiClass → ℕ → Option BracketCase
unpaired_by openers full kind type k =
    if is_bracket kind then Some (if is_other type then (if is_past_by openers full k then PastLimit else NoMatch) else NotOther) else None

-- whether the character at k has a partner
abbrev pub is_paired : List ℕ → ℕ → Bool
is_paired partners k = nat_lt (slice_index partners k) (length partners)

-- The step of the character at k, given the partners and the decision for each opening bracket. `unpaired` is
-- its case if it has no partner. `held` is the bracket whose direction N0 also gives to a nonspacing mark at k, if any.
abbrev pub step_given : List ℕ → (ℕ → Decision) → Option BracketCase → Bool → Option ℕ → ℕ → BracketStep
step_given partners decision unpaired mark held k =
    if is_paired partners k
    then record {
      case = (decision (min k (slice_index partners k))).case;
      partner = Some (slice_index partners k);
      inside = (decision (min k (slice_index partners k))).inside;
    }
    else record { case = unpaired; partner = if mark then held else None; inside = None }

-- The bracket whose direction N0 also gives to a nonspacing mark at k, if any. `sets` tests whether the character at an
-- index is a bracket that gets a direction.
abbrev pub holder : (ℕ → Bool) → List Bool → ℕ → Option ℕ
holder sets marks zero = None
holder sets marks (suc k) = if sets k then Some k else (if slice_index_or marks k false then holder sets marks k else None)

module _ (partners : List ℕ) (decision : ℕ → Decision) (unpaired : ℕ → Option BracketCase) (marks : List Bool) where
  abbrev pub case_by : ℕ → Option BracketCase
  case_by k = if is_paired partners k then (decision (min k (slice_index partners k))).case else unpaired k

  abbrev pub step_by : ℕ → BracketStep
  step_by k = step_given partners decision (unpaired k) (slice_index_or marks k false) (holder (λ p. has_direction (case_by p)) marks k) k
