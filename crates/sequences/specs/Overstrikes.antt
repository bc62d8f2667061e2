-- Characters that are struck over each other by BS.
use Rattle.std.specs.Prelude.{ℕ, ◌==◌, Bool, true, false, ◌&&◌, ◌||◌, not, List, [], ◌∷◌, fold, Some, is_some, if◌then◌else◌}
use Rattle.sequences.specs.Characters.{is_inline}
use Rattle.sequences.specs.declared.look.Look.{Look}
use Rattle.sequences.specs.declared.overstrikes.Struck.{Struck}
use Rattle.sequences.specs.declared.look.Underline.TheVariants.{Single}

-- the characters at the start of a text that each directly follow a BS
abbrev pub after_backspaces : List ℕ → List ℕ
after_backspaces (b ∷ c ∷ text) = if b == 0x08 && is_inline c then c ∷ after_backspaces text else []
after_backspaces text = []

-- the characters at the start of a text that are struck over `c`, the character before it
abbrev pub strikes : ℕ → List ℕ → List ℕ
strikes c text = if is_inline c then after_backspaces text else []

-- Strikes one more character. X over X is bold. A low line (U+005F) under or over X is an underline. A low
-- line over a low line is underlined if the character before is underlined and not bold, and otherwise bold.
-- A third low line makes the result both underlined and bold. Any other character replaces the one under it.
abbrev pub strike : Bool → Struck → ℕ → Struck
strike after_underline s c =
    if c == s.shown then
    (if c == 0x5F && not (s.bold || s.underlined) then record s { bold = not after_underline; underlined = after_underline }
    else if c == 0x5F then record s { bold = true; underlined = true }
    else record s { bold = true })
    else if c == 0x5F then record s { underlined = true }
    else if s.shown == 0x5F then record { shown = c; bold = false; underlined = true }
    else record { shown = c; bold = false; underlined = false }

-- the result of striking characters at the start of a text over `c`, the character before it
abbrev pub struck : Bool → ℕ → List ℕ → Struck
struck after_underline c text = fold (strike after_underline) (record { shown = c; bold = false; underlined = false }) (strikes c text)

-- the attributes at a position: those that SGR has set, changed by the overstrikes there
abbrev pub struck_look : Look → Struck → Look
struck_look look s = record look { bold = look.bold || s.bold; underline = if s.underlined then Some Single else look.underline }

-- whether attributes include an underline but not bold
abbrev pub is_underlined_only : Look → Bool
is_underlined_only look = is_some look.underline && not look.bold
