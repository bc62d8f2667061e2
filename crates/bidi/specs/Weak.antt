-- The weak rules (UAX #9, W1 to W7). Each rule maps a list of types to a new list, and depends only on its
-- input.
use Rattle.std.specs.Prelude.{Bool, true, false, ◌||◌, not, List, [], ◌∷◌, map, if◌then◌else◌}
use Rattle.ucd.specs.declared.bidi_class.BidiClass.{BidiClass}
use Rattle.ucd.specs.declared.bidi_class.BidiClass.TheVariants.{L, R, AL, EN, ES, ET, AN, CS, NSM, ON, LRI, RLI, FSI, PDI}
use Rattle.ucd.specs.Classes.{is_strong, is_nonspacing_mark}
use Rattle.bidi.specs.Neighbours.{each_by, nearest}

abbrev pub is_terminator : BidiClass → Bool
is_terminator ET = true
is_terminator type = false

abbrev pub is_number : BidiClass → Bool
is_number EN = true
is_number type = false

abbrev pub is_arabic : BidiClass → Bool
is_arabic AL = true
is_arabic type = false

abbrev pub is_left : BidiClass → Bool
is_left L = true
is_left type = false

-- W1: NSM gets the type of the nearest character before it that is not NSM. After an isolate initiator or
-- PDI, an NSM becomes ON.
abbrev pub mark_after : BidiClass → BidiClass
mark_after LRI = ON
mark_after RLI = ON
mark_after FSI = ON
mark_after PDI = ON
mark_after type = type

abbrev pub w1_at : BidiClass → List BidiClass → BidiClass → List BidiClass → BidiClass
w1_at sos before NSM after = mark_after (nearest (λ type. not (is_nonspacing_mark type)) sos before)
w1_at sos before type after = type

abbrev pub w1 : BidiClass → List BidiClass → List BidiClass
w1 sos types = each_by (w1_at sos) [] types

-- W2: a European number becomes an Arabic number if the nearest strong type before it is AL
abbrev pub w2_at : BidiClass → List BidiClass → BidiClass → List BidiClass → BidiClass
w2_at sos before EN after = if is_arabic (nearest is_strong sos before) then AN else EN
w2_at sos before type after = type

abbrev pub w2 : BidiClass → List BidiClass → List BidiClass
w2 sos types = each_by (w2_at sos) [] types

-- W3: AL becomes R
abbrev pub w3_type : BidiClass → BidiClass
w3_type AL = R
w3_type type = type

abbrev pub w3 : List BidiClass → List BidiClass
w3 types = map w3_type types

-- W4: a single ES or CS between two European numbers becomes a European number, and a single CS between two
-- Arabic numbers becomes an Arabic number
abbrev pub w4_at : List BidiClass → BidiClass → List BidiClass → BidiClass
w4_at (EN ∷ before) ES (EN ∷ after) = EN
w4_at (EN ∷ before) CS (EN ∷ after) = EN
w4_at (AN ∷ before) CS (AN ∷ after) = AN
w4_at before type after = type

abbrev pub w4 : List BidiClass → List BidiClass
w4 types = each_by w4_at [] types

-- W5: a run of European terminators next to a European number, on either side, becomes European numbers
abbrev pub w5_at : List BidiClass → BidiClass → List BidiClass → BidiClass
w5_at before ET after =
    if is_number (nearest (λ type. not (is_terminator type)) ON before) || is_number (nearest (λ type. not (is_terminator type)) ON after) then EN else ET
w5_at before type after = type

abbrev pub w5 : List BidiClass → List BidiClass
w5 types = each_by w5_at [] types

-- W6: all other separators and terminators become ON
abbrev pub w6_type : BidiClass → BidiClass
w6_type ES = ON
w6_type ET = ON
w6_type CS = ON
w6_type type = type

abbrev pub w6 : List BidiClass → List BidiClass
w6 types = map w6_type types

-- W7: a European number becomes L if the nearest strong type before it is L
abbrev pub w7_at : BidiClass → List BidiClass → BidiClass → List BidiClass → BidiClass
w7_at sos before EN after = if is_left (nearest is_strong sos before) then L else EN
w7_at sos before type after = type

abbrev pub w7 : BidiClass → List BidiClass → List BidiClass
w7 sos types = each_by (w7_at sos) [] types

-- all weak rules in order
abbrev pub weak : BidiClass → List BidiClass → List BidiClass
weak sos types = w7 sos (w6 (w5 (w4 (w3 (w2 sos (w1 sos types))))))
