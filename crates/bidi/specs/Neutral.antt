-- The neutral and implicit rules (UAX #9, N1, N2, I1 and I2).
use Rattle.std.specs.Prelude.{ℕ, ◌+◌, ◌%◌, ◌==◌, Bool, true, false, not, List, [], if◌then◌else◌}
use Rattle.ucd.specs.declared.bidi_class.BidiClass.{BidiClass}
use Rattle.ucd.specs.declared.bidi_class.BidiClass.TheVariants.{L, R, EN, AN, B, S, WS, ON, LRI, RLI, FSI, PDI}
use Rattle.bidi.specs.Neighbours.{each_by, nearest}
use Rattle.bidi.specs.Weak.{is_left}

-- NI: whether a type is B, S, WS, ON, an isolate initiator or PDI
abbrev pub is_neutral : BidiClass → Bool
is_neutral B = true
is_neutral S = true
is_neutral WS = true
is_neutral ON = true
is_neutral LRI = true
is_neutral RLI = true
is_neutral FSI = true
is_neutral PDI = true
is_neutral type = false

-- N1: whether two sides have the same direction. `true` means L. Numbers count as R.
abbrev pub agree : Bool → Bool → Bool
agree true other = other
agree false other = not other

-- the type for a direction: L for `true`, or R for `false`
abbrev pub side : Bool → BidiClass
side true = L
side false = R

-- N1 and N2: a run of neutrals gets the direction of both sides if they agree, and otherwise the embedding
-- direction
abbrev pub between : BidiClass → BidiClass → BidiClass → BidiClass
between embedding before after = if agree (is_left before) (is_left after) then side (is_left before) else embedding

abbrev pub neutral_at : BidiClass → BidiClass → BidiClass → List BidiClass → BidiClass → List BidiClass → BidiClass
neutral_at embedding sos eos before type after =
    if is_neutral type
    then between embedding (nearest (λ type. not (is_neutral type)) sos before) (nearest (λ type. not (is_neutral type)) eos after)
    else type

abbrev pub neutral : BidiClass → BidiClass → BidiClass → List BidiClass → List BidiClass
neutral embedding sos eos types = each_by (neutral_at embedding sos eos) [] types

-- I1: how far a type raises an even level
abbrev pub rise_even : BidiClass → ℕ
rise_even R = 1
rise_even AN = 2
rise_even EN = 2
rise_even type = 0

-- I2: how far a type raises an odd level
abbrev pub rise_odd : BidiClass → ℕ
rise_odd L = 1
rise_odd AN = 1
rise_odd EN = 1
rise_odd type = 0

abbrev pub implicit_level : ℕ → BidiClass → ℕ
implicit_level level type = if level % 2 == 0 then level + rise_even type else level + rise_odd type
