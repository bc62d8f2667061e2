-- How much of a line is shown.
use Rattle.std.specs.Prelude.{ℕ, suc, ◌-◌, nat_le, Bool, ◌&&◌, not, List, length, take, Option, Some, None, unwrap_or, if◌then◌else◌}
use Rattle.ucd.specs.Least.{least}
use Rattle.lines.specs.CharInfos.{is_space}
use Rattle.lines.specs.Filling.{columns, place_at, text_len}
use Rattle.lines.specs.declared.char_info.CharInfo.{CharInfo}
use Rattle.lines.specs.declared.options.Options.{Options}

-- the margin up to which spaces of a tail are shown, in columns: the width, if the options show spaces at all
abbrev pub margin_of : Options → ℕ → Option ℕ
margin_of options width = if options.show_spaces then Some width else None

-- whether a character is a space (line breaking class SP) that ends within the margin
abbrev pub is_space_within : ℕ → List CharInfo → ℕ → Bool
is_space_within margin line k = is_space (place_at line k).trailing && nat_le (columns (take (suc k) line)) margin

-- The characters before the tail are shown, however wide they are. If there is a margin, the spaces that follow are
-- also shown, up to the first character that is not a space or does not end within the margin.
abbrev pub shown_len : Option ℕ → List CharInfo → ℕ
shown_len None line = text_len line
shown_len (Some margin) line = unwrap_or (least (λ k. not (is_space_within margin line k)) (text_len line) (length line - text_len line)) (length line)

abbrev pub shown : Option ℕ → List CharInfo → List CharInfo
shown margin line = take (shown_len margin line) line
