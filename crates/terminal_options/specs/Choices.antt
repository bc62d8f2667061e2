-- The values that options accept, and the choices that these values name.
use Rattle.std.specs.Prelude.{◌&&◌, ℕ, nat_le, nat_lt, Bool, false, [], ◌∷◌, codes, Option, Some, None, option_map, if◌then◌else◌}
use Rattle.std.specs.Char.{digit_value}
use Rattle.std.specs.List.{list_all}
use Rattle.std.specs.Str.{bytes_eq}
use Rattle.std.specs.Str.Parse.{digits_value, without_leading_plus}
use Rattle.clap.specs.Words.{Text}
use Rattle.terminal.specs.declared.form.Escapes.{Escapes}
use Rattle.terminal.specs.declared.form.Escapes.TheVariants.{Keep, Strip, Text as AsText}
use Rattle.terminal_options.specs.declared.choices.Direction.{Direction}
use Rattle.terminal_options.specs.declared.choices.Direction.TheVariants.{Auto, RtlAuto, Ltr, Rtl, File}
use Rattle.terminal_options.specs.declared.choices.Marks.{Marks}
use Rattle.terminal_options.specs.declared.choices.Marks.TheVariants.{Clusters, After, Logical}
use Rattle.terminal_options.specs.declared.choices.Width.{Width}
use Rattle.terminal_options.specs.declared.choices.Width.TheVariants as width
use Rattle.ucd.specs.declared.version.Version.{Version}
use Rattle.ucd.specs.declared.version.Version.TheVariants.{V15_0, V17_0}

-- one or more decimal digits
abbrev pub is_numeral : Text → Bool
is_numeral [] = false
is_numeral (c ∷ text) = list_all (λ c. nat_lt (digit_value c) 10) (c ∷ text)

abbrev pub number_of : Text → ℕ
number_of text = digits_value 10 (without_leading_plus text)

-- the number from 1 to `most` that a text denotes, or `None` for any other text
abbrev pub number_up_to : ℕ → Text → Option ℕ
number_up_to most text =
    if is_numeral (without_leading_plus text) && (nat_le (number_of text) most && nat_le 1 (number_of text)) then Some (number_of text) else None

abbrev pub width_named : Text → Option Width
width_named text =
    if bytes_eq text (codes "auto") then Some width.Auto
    else if bytes_eq text (codes "none") then Some width.Unlimited
    else option_map width.Columns (number_up_to 65535 text)

abbrev pub width_by : Option Text → Option Width
width_by None = Some width.Auto
width_by (Some text) = width_named text

-- the tab width that a value names; 0 stands for tabs without a width
abbrev pub tabs_named : Text → Option ℕ
tabs_named text = if bytes_eq text (codes "none") then Some 0 else number_up_to 255 text

abbrev pub tabs_by : Option Text → Option ℕ
tabs_by None = Some 8
tabs_by (Some text) = tabs_named text

abbrev pub marks_named : Text → Option Marks
marks_named text =
    if bytes_eq text (codes "clusters") then Some Clusters
    else if bytes_eq text (codes "after") then Some After
    else if bytes_eq text (codes "logical") then Some Logical
    else None

abbrev pub marks_by : Option Text → Option Marks
marks_by None = Some Clusters
marks_by (Some text) = marks_named text

abbrev pub direction_named : Text → Option Direction
direction_named text =
    if bytes_eq text (codes "auto") then Some Auto
    else if bytes_eq text (codes "rtl-auto") then Some RtlAuto
    else if bytes_eq text (codes "ltr") then Some Ltr
    else if bytes_eq text (codes "rtl") then Some Rtl
    else if bytes_eq text (codes "file") then Some File
    else None

abbrev pub direction_by : Option Text → Option Direction
direction_by None = Some Auto
direction_by (Some text) = direction_named text

abbrev pub escapes_named : Text → Option Escapes
escapes_named text =
    if bytes_eq text (codes "keep") then Some Keep
    else if bytes_eq text (codes "strip") then Some Strip
    else if bytes_eq text (codes "text") then Some AsText
    else None

abbrev pub escapes_by : Option Text → Option Escapes
escapes_by None = Some Keep
escapes_by (Some text) = escapes_named text

abbrev pub version_named : Text → Option Version
version_named text =
    if bytes_eq text (codes "15.0") then Some V15_0
    else if bytes_eq text (codes "17.0") then Some V17_0
    else None

abbrev pub version_by : Option Text → Option Version
version_by None = Some V15_0
version_by (Some text) = version_named text
