-- The general categories that line breaking needs (UAX #44, section 5.7.1).
use Rattle.std.specs.Prelude.{ℕ, List, codes, true, false, Some, ◌||◌, if◌then◌else◌}
use Rattle.std.specs.Str.{bytes_eq}
use Rattle.ucd.specs.Grammar.{Form}
use Rattle.ucd.specs.declared.category.Category.{Category}
use Rattle.ucd.specs.declared.category.Category.TheVariants.{Mark, Unassigned, InitialQuote, FinalQuote, Other}

-- Mn and Mc are marks, Cn is unassigned, and Pi and Pf are initial and final quotation marks
abbrev pub category_named : List ℕ → Category
category_named name =
    if bytes_eq (codes "Mn") name || bytes_eq (codes "Mc") name then Mark
    else (if bytes_eq (codes "Cn") name then Unassigned
    else (if bytes_eq (codes "Pi") name then InitialQuote
    else (if bytes_eq (codes "Pf") name then FinalQuote else Other)))

-- DerivedGeneralCategory.txt: a code point or a range, and the name of any category
abbrev pub category_form : Form Category
category_form = record { has_ranges = true; has_third = false; value = λ name _. Some (Some (category_named name)) }
