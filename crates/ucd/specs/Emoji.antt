-- Pictographs (UTS #51, section 1.4.1).
use Rattle.std.specs.Prelude.{ℕ, List, codes, true, false, Option, Some, None, if◌then◌else◌}
use Rattle.std.specs.Str.{bytes_eq}
use Rattle.ucd.specs.Grammar.{Form}
use Rattle.ucd.specs.declared.emoji.Pictograph.{Pictograph}

-- a line with a property other than Extended_Pictographic adds no entry
abbrev pub pictograph_named : List ℕ → Option Pictograph
pictograph_named name = if bytes_eq (codes "Extended_Pictographic") name then Some (record {}) else None

-- emoji-data.txt: a code point or a range, and the name of any property
abbrev pub emoji_form : Form Pictograph
emoji_form = record { has_ranges = true; has_third = false; value = λ name _. Some (pictograph_named name) }
