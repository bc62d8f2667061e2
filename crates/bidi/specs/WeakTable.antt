-- The entries of the tables that the pass for the weak rules uses. A state consists of the run that ends
-- before an index and the last strong type.
use Rattle.std.specs.Prelude.{ℕ, ◌+◌, ◌*◌, ◌/◌, ◌%◌, Bool, true, false, ◌&&◌, not, [], ◌∷◌, get_or, if◌then◌else◌}
use Rattle.ucd.specs.Classes.{is_strong}
use Rattle.ucd.specs.declared.bidi_class.BidiClass.{BidiClass}
use Rattle.ucd.specs.declared.bidi_class.BidiClass.TheVariants.{L, R, AL, EN, ES, ET, AN, CS, NSM}
use Rattle.bidi.specs.declared.weak_table.Row.{Row}
use Rattle.bidi.specs.declared.weak_table.Row.TheVariants.{Nothing, European, Arabic, EuropeanTerminators, EuropeanSeparator, ArabicSeparator, Terminators}
use Rattle.bidi.specs.declared.weak_table.TheConstants.{BEGINS, COMPLETES, KEEPS, PARTS, ROW_LEN}
use Rattle.bidi.specs.Waiting.{completes, digit_type, lengthens, row_after, waits, written}
use Rattle.bidi.specs.Weak.{is_left, w3_type}

-- whether a type can be the type before a sequence (sos)
abbrev pub is_side : BidiClass → Bool
is_side L = true
is_side R = true
is_side _ = false

-- the run of a state
abbrev pub run_at : ℕ → Row
run_at state = get_or (Nothing ∷ European ∷ Arabic ∷ EuropeanTerminators ∷ EuropeanSeparator ∷ ArabicSeparator ∷ Terminators ∷ []) (state / 3) Nothing

-- the last strong type of a state
abbrev pub strong_at : ℕ → BidiClass
strong_at state = get_or (L ∷ R ∷ AL ∷ []) (state % 3) R

abbrev pub run_number : Row → ℕ
run_number Nothing = 0
run_number European = 1
run_number Arabic = 2
run_number EuropeanTerminators = 3
run_number EuropeanSeparator = 4
run_number ArabicSeparator = 5
run_number Terminators = 6

abbrev pub strong_number : BidiClass → ℕ
strong_number L = 0
strong_number R = 1
strong_number _ = 2

-- the state with a given run and last strong type
abbrev pub state_of : Row → BidiClass → ℕ
state_of run strong = run_number run * 3 + strong_number strong

-- the type after W2 and W3, given the last strong type and the type after W1
abbrev pub turned : BidiClass → BidiClass → BidiClass
turned strong class = w3_type (digit_type strong class)

-- what a type does to the pending types
abbrev pub done_by : Row → BidiClass → ℕ
done_by run type = if completes run type then COMPLETES else (if not (lengthens run type) && waits (row_after run type) then BEGINS else KEEPS)

abbrev pub strong_after : BidiClass → BidiClass → BidiClass
strong_after strong class = if is_strong class then class else strong

-- the entries of `NEXT` and `VALUES` for a state and a class after W1
abbrev pub next_by : ℕ → BidiClass → ℕ
next_by state class =
    let type = turned (strong_at state) class in
    state_of (row_after (run_at state) type) (strong_after (strong_at state) class) * ROW_LEN * PARTS + done_by (run_at state) type

abbrev pub value_by : ℕ → BidiClass → BidiClass
value_by state class = written (run_at state) (is_left (strong_at state)) (turned (strong_at state) class)

-- where the pending types start: at `start` if any are pending in this state, or else at `at`
abbrev pub pending : ℕ → ℕ → ℕ → ℕ
pending state start at = if waits (run_at state) then start else at

-- whether W1, W2 and W4 to W7 leave a type unchanged, whatever is before and after it
abbrev pub is_simple : BidiClass → Bool
is_simple EN = false
is_simple ES = false
is_simple ET = false
is_simple AN = false
is_simple CS = false
is_simple NSM = false
is_simple _ = true
