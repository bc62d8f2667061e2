-- What is known about the sequence at the start of a text, after each character of the text.
use Rattle.std.specs.Prelude.{ℕ, ◌+◌, ◌-◌, nat_lt, ◌==◌, Bool, true, false, ◌&&◌, ◌||◌, List, [], ◌∷◌, if◌then◌else◌}
use Rattle.sequences.specs.Characters.{ends_piece, is_c1_introducer, is_inline}
use Rattle.sequences.specs.Sequences.{is_intermediate, is_parameter, opens_string}
use Rattle.sequences.specs.declared.known.Progress.{Progress}
use Rattle.sequences.specs.declared.known.Progress.TheVariants.{Start, Escape, Parameters, Intermediates, InString, AfterString, InLong, AfterLong, Known}
use Rattle.sequences.specs.declared.lengths.TheConstants.{LONGEST_STRING}

-- the state after ESC and this character
abbrev pub after_code : ℕ → Progress
after_code c =
    if c == 0x5B then Parameters
    else if opens_string c then InString (c == 0x5D) 0
    else if is_intermediate c then Intermediates
    else Known

abbrev pub after_start : ℕ → Progress
after_start c = if c == 0x1B then Escape else if is_c1_introducer c then after_code (c - 0x40) else Known

abbrev pub after_intermediate : ℕ → Progress
after_intermediate c = if is_intermediate c then Intermediates else Known

abbrev pub after_parameter : ℕ → Progress
after_parameter c = if is_parameter c then Parameters else after_intermediate c

-- the state after the given number of characters of a string and one more character
abbrev pub after_string : Bool → ℕ → ℕ → Progress
after_string is_osc n c =
    if is_inline c then (if nat_lt n LONGEST_STRING then InString is_osc (n + 1) else InLong is_osc)
    else if c == 0x1B then AfterString
    else Known

-- the state after a string that is too long and one more character
abbrev pub after_long : Bool → ℕ → Progress
after_long is_osc c =
    if c == 0x1B then AfterLong is_osc
    else if ends_piece c || (c == 0x9C || (is_osc && c == 0x07)) then Known
    else InLong is_osc

-- the state after a string that is too long, ESC and one more character
abbrev pub after_long_escape : Bool → ℕ → Progress
after_long_escape is_osc c = if c == 0x5C then Known else after_long is_osc c

-- the state after one more character
abbrev pub advanced : Progress → ℕ → Progress
advanced Start c = after_start c
advanced Escape c = after_code c
advanced Parameters c = after_parameter c
advanced Intermediates c = after_intermediate c
advanced (InString is_osc n) c = after_string is_osc n c
advanced AfterString c = Known
advanced (InLong is_osc) c = after_long is_osc c
advanced (AfterLong is_osc) c = after_long_escape is_osc c
advanced Known c = Known

-- the state after some more characters
abbrev pub after_all : Progress → List ℕ → Progress
after_all progress [] = progress
after_all progress (c ∷ text) = after_all (advanced progress c) text

abbrev pub is_known : Progress → Bool
is_known Start = false
is_known Escape = false
is_known Parameters = false
is_known Intermediates = false
is_known (InString is_osc n) = false
is_known AfterString = false
is_known (InLong is_osc) = false
is_known (AfterLong is_osc) = false
is_known Known = true
