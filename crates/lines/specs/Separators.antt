-- The characters that end lines and paragraphs.
use Rattle.std.specs.Prelude.{ℕ, Bool, ◌==◌, ◌&&◌, ◌||◌, [], ◌∷◌, if◌then◌else◌}
use Rattle.ucd.specs.Classes.{is_separator}
use Rattle.ucd.specs.Tables.{class_of, line_class_of}
use Rattle.ucd.specs.declared.line_class.LineClass.TheVariants.{BK, CR, LF, NL}
use Rattle.ucd.specs.declared.tables.Tables.{Tables}
use Rattle.breaks.specs.Classes.{is_one_of}

-- whether a character ends its paragraph (bidi class B) or its line (line class BK, CR, LF or NL)
abbrev pub ends_line : Tables → ℕ → Bool
ends_line t c = is_separator (class_of t c) || is_one_of (BK ∷ CR ∷ LF ∷ NL ∷ []) (line_class_of t c)

-- the length of the separator at the end of a line, or 0 if there is none, given the line's last two
-- characters
abbrev pub separator_len : Tables → ℕ → ℕ → ℕ
separator_len t before last = if ends_line t last then (if before == 13 && last == 10 then 2 else 1) else 0
