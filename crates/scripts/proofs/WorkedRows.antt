-- Worked examples of scripts and their runs, with the brackets U+0028 and U+0029, U+005B and U+005D. U+05D0 is a Hebrew letter.
use Rattle.std.proofs.Common.{◌≡◌, ℕ, ◌==◌, true, false, [], ◌∷◌, Option, Some, None, cond, refl}
use Rattle.ucd.specs.declared.bracket.Bracket.{Bracket}
use Rattle.ucd_script.specs.Script.{script}
use Rattle.ucd_script.specs.ScriptRows.{script_rows}
use Rattle.ucd_script.specs.declared.Script.TheVariants.{Common, Hebrew, Latin}
use Rattle.ucd_table.specs.Rows.{value_in}
use Rattle.scripts.specs.Runs.{runs_of}
use Rattle.scripts.specs.Scripts.{scripts_of}

abbrev bracket : ℕ → Option Bracket
bracket c =
    cond (c == 0x28) (Some (record { pair = 0x29; opens = true }))
    (cond (c == 0x29) (Some (record { pair = 0x28; opens = false }))
    (cond (c == 0x5B) (Some (record { pair = 0x5D; opens = true }))
    (cond (c == 0x5D) (Some (record { pair = 0x5B; opens = false })) None)))

-- a closing bracket has the script of its opening bracket, and so does the space after it
row-brackets : scripts_of bracket (0x61 ∷ 0x28 ∷ 0x5D0 ∷ 0x29 ∷ 0x20 ∷ []) ≡ Latin ∷ Latin ∷ Hebrew ∷ Latin ∷ Latin ∷ []
unfolding script script_rows scripts_of value_in
row-brackets = refl

-- closing an outer bracket also closes the inner brackets
row-outer : scripts_of bracket (0x61 ∷ 0x5B ∷ 0x5D0 ∷ 0x28 ∷ 0x5D ∷ 0x29 ∷ []) ≡ Latin ∷ Latin ∷ Hebrew ∷ Hebrew ∷ Latin ∷ Latin ∷ []
unfolding script script_rows scripts_of value_in
row-outer = refl

-- at the start of the text, characters without a script of their own have the first script that follows
row-first : scripts_of bracket (0x28 ∷ 0x301 ∷ 0x5D0 ∷ 0x29 ∷ 0x61 ∷ []) ≡ Hebrew ∷ Hebrew ∷ Hebrew ∷ Hebrew ∷ Latin ∷ []
unfolding script script_rows scripts_of value_in
row-first = refl

row-none : scripts_of bracket (0x31 ∷ 0x301 ∷ []) ≡ Common ∷ Common ∷ []
unfolding script script_rows scripts_of value_in
row-none = refl

row-runs : runs_of (Latin ∷ Latin ∷ Hebrew ∷ Latin ∷ [])
    ≡ record { start = 0; len = 2; script = Latin } ∷ record { start = 2; len = 1; script = Hebrew } ∷ record { start = 3; len = 1; script = Latin } ∷ []
unfolding runs_of
row-runs = refl
