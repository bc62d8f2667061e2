-- The state of the single pass for the weak rules. It includes the types that wait for a later type, and the
-- earlier types that W1 to W3 and W7 look back at.
use Rattle.std.specs.Prelude.{◌≡◌, ℕ, ◌+◌, ◌-◌, ◌≤◌, Bool, true, false, ◌&&◌, not, List, [], ◌∷◌, ◌++◌, length, map, take, drop, replicate, if◌then◌else◌}
use Rattle.ucd.specs.declared.bidi_class.BidiClass.{BidiClass}
use Rattle.ucd.specs.declared.bidi_class.BidiClass.TheVariants.{L, EN, ES, ET, AN, CS, ON}
use Rattle.bidi.specs.declared.weak_table.Row.{Row}
use Rattle.bidi.specs.declared.weak_table.Row.TheVariants.{Nothing, European, Arabic, EuropeanTerminators, EuropeanSeparator, ArabicSeparator, Terminators}
use Rattle.ucd.specs.Classes.{is_strong}
use Rattle.ucd.specs.Classes.{is_nonspacing_mark}
use Rattle.bidi.specs.Weak.{mark_after, is_number, is_arabic, is_left, w3_type}

-- Applies a rule to each item of a list. The rule looks back only at the nearest item that passes the test,
-- or at `before` if there is none.
abbrev pub carry : {T : Type 0} → (T → T → List T → T) → (T → Bool) → T → List T → List T
carry rule test before [] = []
carry rule test before (item ∷ after) = rule before item after ∷ carry rule test (if test item then item else before) after

-- W1 and W2 for one type, given the earlier type that each rule looks back at
abbrev pub mark_type : BidiClass → BidiClass → BidiClass
mark_type before type = if is_nonspacing_mark type then mark_after before else type

abbrev pub digit_type : BidiClass → BidiClass → BidiClass
digit_type strong type = if is_number type && is_arabic strong then AN else type

-- W1 to W3 for a list, given the last type before it that is not NSM, and the last strong type before it
abbrev pub read_types : BidiClass → BidiClass → List BidiClass → List BidiClass
read_types before strong types =
    map w3_type (carry (λ s type after. digit_type s type) is_strong strong (carry (λ b type after. mark_type b type) (λ type. not (is_nonspacing_mark type)) before types))

-- the type of a European number after W7, given whether the nearest strong type before it is L
abbrev pub number_type : Bool → BidiClass
number_type left = if left then L else EN

-- whether W4 to W7 can change a type
abbrev pub is_weak : BidiClass → Bool
is_weak EN = true
is_weak ES = true
is_weak ET = true
is_weak AN = true
is_weak CS = true
is_weak type = false

-- whether an ET at the next index would be part of a run of ETs after a European number
abbrev pub is_after_number : Row → Bool
is_after_number European = true
is_after_number EuropeanTerminators = true
is_after_number row = false

-- whether the types of a run wait for a later type
abbrev pub waits : Row → Bool
waits EuropeanSeparator = true
waits ArabicSeparator = true
waits Terminators = true
waits row = false

-- whether a type joins the waiting run
abbrev pub lengthens : Row → BidiClass → Bool
lengthens Terminators ET = true
lengthens row type = false

-- whether a type is a number that turns the waiting types into numbers (W4 and W5)
abbrev pub completes : Row → BidiClass → Bool
completes EuropeanSeparator EN = true
completes ArabicSeparator AN = true
completes Terminators EN = true
completes row type = false

-- the type that the pass writes in place of a type: ON (W6) if the type waits
abbrev pub written : Row → Bool → BidiClass → BidiClass
written row left EN = number_type left
written row left ET = if is_after_number row then number_type left else ON
written row left ES = ON
written row left CS = ON
written row left type = type

-- the state after a type: which run, if any, is before the next type
abbrev pub after_comma : Row → Row
after_comma European = EuropeanSeparator
after_comma Arabic = ArabicSeparator
after_comma row = Nothing

abbrev pub after_sign : Row → Row
after_sign European = EuropeanSeparator
after_sign row = Nothing

abbrev pub row_after : Row → BidiClass → Row
row_after row EN = European
row_after row AN = Arabic
row_after row ET = if is_after_number row then EuropeanTerminators else Terminators
row_after row ES = after_sign row
row_after row CS = after_comma row
row_after row type = Nothing

-- the index at which the waiting run begins, or `at + 1` if none waits, after the type at `at` has been read
abbrev pub start_after : Row → BidiClass → ℕ → ℕ → ℕ
start_after row type start at = if lengthens row type then start else (if waits (row_after row type) then at else at + 1)

-- W4 to W7 for n waiting types and the types after them, given the strong type before them
abbrev pub types_after : Row → ℕ → BidiClass → List BidiClass → List BidiClass
types_after row n strong [] = replicate n ON
types_after row n strong (type ∷ types) =
    if lengthens row type then types_after row (n + 1) strong types
    else replicate n (if completes row type then written row (is_left strong) type else ON)
    ++ (if waits (row_after row type) then types_after (row_after row type) 1 (if is_strong type then type else strong) types
    else written row (is_left strong) type ∷ types_after (row_after row type) 0 (if is_strong type then type else strong) types)

-- The state of the pass at the index `at`. The types before `start` are final, the types from `start` up to
-- `at` wait and are ON, and the others are unchanged.
pub record AreTypesSoFar (sos : BidiClass) (old current : List BidiClass) (before strong : BidiClass) (row : Row) (start at : ℕ) : Type 0 where
  pub sizes : length current ≡ length old
  pub order : start ≤ at
  pub rest : drop at current ≡ drop at old
  pub waiting : take at current ≡ take start current ++ replicate (at - start) ON
  pub whole : take start current ++ types_after row (at - start) (w3_type strong) (read_types before strong (drop at old))
      ≡ types_after Nothing 0 (w3_type sos) (read_types sos sos old)
