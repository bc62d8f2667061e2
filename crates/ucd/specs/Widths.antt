-- The East Asian widths that line breaking needs (UAX #11).
use Rattle.std.specs.Prelude.{ℕ, List, codes, true, false, Some, ◌||◌, if◌then◌else◌}
use Rattle.std.specs.Str.{bytes_eq}
use Rattle.ucd.specs.Grammar.{Form}
use Rattle.ucd.specs.declared.width.Width.{Width}
use Rattle.ucd.specs.declared.width.Width.TheVariants.{Wide, Other}

-- F, W and H are wide
abbrev pub width_named : List ℕ → Width
width_named name =
    if bytes_eq (codes "F") name || (bytes_eq (codes "W") name || bytes_eq (codes "H") name) then Wide else Other

-- EastAsianWidth.txt: a code point or a range, and the name of any width
abbrev pub width_form : Form Width
width_form = record { has_ranges = true; has_third = false; value = λ name _. Some (Some (width_named name)) }
