-- The script of each character of a text (UAX #24, sections 2.2, 5.1 and 5.2). A character whose Script
-- property is neither Common nor Inherited has that script. Otherwise, a closing bracket has the script of
-- its opening bracket. Any other character has the script of the character before it. At the start of the
-- text, such characters have the first script that follows, or Common if none does.
use Rattle.std.specs.Prelude.{ℕ, ◌+◌, ◌==◌, Bool, ◌||◌, not, List, [], ◌∷◌, drop, find, map, option_and_then, option_map, position, slice_get, take, unwrap_or, Option, Some, None, if◌then◌else◌}
use Rattle.ucd.specs.declared.bracket.Bracket.{Bracket}
use Rattle.ucd_script.specs.Script.{script, script_eq}
use Rattle.ucd_script.specs.declared.Script.{Script}
use Rattle.ucd_script.specs.declared.Script.TheVariants.{Common, Inherited}
use Rattle.scripts.specs.declared.resolving.Opening.{Opening}

-- whether a character with this value of the Script property takes the script of another character
abbrev pub takes_script : Script → Bool
takes_script script = script_eq script Common || script_eq script Inherited

abbrev pub first_script : List ℕ → Script
first_script text = unwrap_or (find (λ own. not (takes_script own)) (map script text)) Common

-- ---- brackets (UAX #9, BD14 and BD15)

-- the index of the innermost open bracket that a closing bracket matches, or `None` if it matches none; the
-- list has the innermost bracket first
abbrev pub matching : ℕ → List Opening → Option ℕ
matching closing openings = position (λ opening. opening.closing == closing) openings

-- the index of the opening bracket that a character closes, or `None` if it closes none
abbrev pub closed_by : Option Bracket → ℕ → List Opening → Option ℕ
closed_by None c openings = None
closed_by (Some bracket) c openings = if bracket.opens then None else matching c openings

-- the brackets that are open after a bracket is closed: those outside it
abbrev pub outside : Option ℕ → List Opening → List Opening
outside None openings = openings
outside (Some k) openings = drop (k + 1) openings

-- The brackets that are open after a character with the given script. Only the innermost 63 are kept.
abbrev pub open_after : Option Bracket → ℕ → Script → List Opening → List Opening
open_after None c script openings = openings
open_after (Some bracket) c script openings =
    if bracket.opens then take 63 (record { closing = bracket.pair; script = script } ∷ openings) else outside (matching c openings) openings

-- ---- scripts

-- the script that a character takes: from the opening bracket that it closes, or else from the character
-- before it
abbrev pub taken_script : Option Bracket → ℕ → Script → List Opening → Script
taken_script bracket c before openings =
    unwrap_or (option_and_then (λ k. option_map (λ opening. opening.script) (slice_get openings k)) (closed_by bracket c openings)) before

abbrev pub script_in : Option Bracket → ℕ → Script → List Opening → Script
script_in bracket c before openings = if takes_script (script c) then taken_script bracket c before openings else script c

-- the scripts of the characters of a text, given the script of the character before it and the brackets that
-- are open there
abbrev pub scripts_from : (ℕ → Option Bracket) → Script → List Opening → List ℕ → List Script
scripts_from bracket_of before openings [] = []
scripts_from bracket_of before openings (c ∷ text) =
    let own = script_in (bracket_of c) c before openings in
    own ∷ scripts_from bracket_of own (open_after (bracket_of c) c own openings) text

unfoldable pub scripts_of : (ℕ → Option Bracket) → List ℕ → List Script
scripts_of bracket_of text = scripts_from bracket_of (first_script text) [] text
