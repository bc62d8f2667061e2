-- Tab stops. With a tab width above 0, columns are counted along a line in logical order from its start, and a tab moves to the next
-- multiple of the tab width.
use Rattle.std.specs.Prelude.{ℕ, ◌-◌, ◌%◌, ◌==◌, nat_lt, Bool, true, false, ◌&&◌, if◌then◌else◌}
use Rattle.ucd.specs.Tables.{class_of}
use Rattle.ucd.specs.declared.bidi_class.BidiClass.{BidiClass}
use Rattle.ucd.specs.declared.bidi_class.BidiClass.TheVariants.{S}
use Rattle.ucd.specs.declared.tables.Tables.{Tables}
use Rattle.lines.specs.declared.options.Options.{Options}

abbrev pub is_segment_separator : BidiClass → Bool
is_segment_separator S = true
is_segment_separator class = false

-- the tab width of the options, or 0 if U+0009 does not have bidi class S in the tables
abbrev pub tab_width_in : Tables → Options → ℕ
tab_width_in tables options = if is_segment_separator (class_of tables 9) then options.tab_width else 0

-- whether a character moves to a tab stop; if the tab width is 0, none does
abbrev pub is_tab : ℕ → ℕ → Bool
is_tab tab_width c = nat_lt 0 tab_width && c == 9

-- the columns from a column to the next tab stop
abbrev pub to_stop : ℕ → ℕ → ℕ
to_stop tab_width column = tab_width - column % tab_width
