-- How the parameters of SGR change attributes (ECMA-48, 8.3.117, with the extensions that terminals share).
use Rattle.std.specs.Prelude.{ℕ, zero, suc, ◌-◌, nat_le, nat_lt, ◌==◌, Bool, true, false, ◌&&◌, ◌||◌, not, List, [], ◌∷◌, length, map, drop, slice_index_or, Option, Some, None, if◌then◌else◌}
use Rattle.sequences.specs.declared.look.Look.{Look}
use Rattle.sequences.specs.declared.look.Color.{Color}
use Rattle.sequences.specs.declared.look.Color.TheVariants.{Basic, Indexed, Rgb}
use Rattle.sequences.specs.declared.look.Underline.TheVariants.{Single, Double, Curly, Dotted, Dashed}
use Rattle.sequences.specs.declared.look.Blink.TheVariants.{Slow, Rapid}
use Rattle.sequences.specs.declared.look.TheConstants.{PLAIN}

-- each of the parameters 1 to 9 sets an attribute
abbrev pub set_attribute : ℕ → Look → Look
set_attribute n look =
    if n == 1 then record look { bold = true }
    else if n == 2 then record look { faint = true }
    else if n == 3 then record look { italic = true }
    else if n == 4 then record look { underline = Some Single }
    else if n == 5 then record look { blink = Some Slow }
    else if n == 6 then record look { blink = Some Rapid }
    else if n == 7 then record look { inverse = true }
    else if n == 8 then record look { conceal = true }
    else record look { strike = true }

-- 21 sets a double underline, and 22 to 29, except for 26, end attributes
abbrev pub end_attribute : ℕ → Look → Look
end_attribute n look =
    if n == 21 then record look { underline = Some Double }
    else if n == 22 then record look { bold = false; faint = false }
    else if n == 23 then record look { italic = false }
    else if n == 24 then record look { underline = None }
    else if n == 25 then record look { blink = None }
    else if n == 27 then record look { inverse = false }
    else if n == 28 then record look { conceal = false }
    else if n == 29 then record look { strike = false }
    else look

-- 30 to 37, 39 and 90 to 97 set the foreground, and 40 to 47, 49 and 100 to 107 the background. The
-- parameters 53 and 55 begin and end an overline, and 59 resets the color of underlines.
abbrev pub set_basic : ℕ → Look → Look
set_basic n look =
    if nat_lt n 38 then record look { foreground = Some (Basic (n - 30)) }
    else if n == 39 then record look { foreground = None }
    else if nat_le 40 n && nat_lt n 48 then record look { background = Some (Basic (n - 40)) }
    else if n == 49 then record look { background = None }
    else if n == 53 then record look { overline = true }
    else if n == 55 then record look { overline = false }
    else if n == 59 then record look { underline_color = None }
    else if nat_le 90 n && nat_lt n 98 then record look { foreground = Some (Basic (n - 82)) }
    else if nat_le 100 n && nat_lt n 108 then record look { background = Some (Basic (n - 92)) }
    else look

-- the attributes after a parameter with one field, other than 38, 48 and 58; 0 sets the defaults, and unknown
-- parameters change nothing
abbrev pub with_parameter : ℕ → Look → Look
with_parameter n look =
    if n == 0 then PLAIN
    else if nat_lt n 10 then set_attribute n look
    else if nat_lt n 30 then end_attribute n look
    else set_basic n look

-- the attributes after `4:k`, which sets the kind of underline; an unknown k changes nothing
abbrev pub with_underline : ℕ → Look → Look
with_underline k look =
    if k == 0 then record look { underline = None }
    else if k == 1 then record look { underline = Some Single }
    else if k == 2 then record look { underline = Some Double }
    else if k == 3 then record look { underline = Some Curly }
    else if k == 4 then record look { underline = Some Dotted }
    else if k == 5 then record look { underline = Some Dashed }
    else look

-- 38, 48 and 58 set the foreground, the background and the color of underlines
abbrev pub is_color : ℕ → Bool
is_color n = n == 38 || (n == 48 || n == 58)

-- `None` changes nothing
abbrev pub with_color : ℕ → Option Color → Look → Look
with_color n None look = look
with_color n (Some color) look =
    if n == 38 then record look { foreground = Some color }
    else if n == 48 then record look { background = Some color }
    else record look { underline_color = Some color }

-- a color, or `None` if a value is greater than 255
abbrev pub indexed : ℕ → Option Color
indexed n = if nat_lt n 256 then Some (Indexed n) else None

abbrev pub rgb : ℕ → ℕ → ℕ → Option Color
rgb r g b = if nat_lt r 256 && (nat_lt g 256 && nat_lt b 256) then Some (Rgb r g b) else None

-- the value at an index, or 256 if there is none
abbrev pub value : List ℕ → ℕ → ℕ
value values k = slice_index_or values k 256

-- the known kinds of color: 5 for an index, and 2 for red, green and blue
abbrev pub is_kind : ℕ → Bool
is_kind kind = kind == 5 || kind == 2

-- the color that a list of values begins with: kind 5 and an index, or kind 2 and red, green and blue; `None`
-- for other values
abbrev pub color_of : List ℕ → Option Color
color_of values =
    if value values 0 == 5 then indexed (value values 1)
    else if value values 0 == 2 then rgb (value values 1) (value values 2) (value values 3)
    else None

-- the color of `38:5:n`, `38:2:r:g:b` or `38:2:space:r:g:b`, given the fields after 38; `None` for other
-- fields
abbrev pub field_color : List ℕ → Option Color
field_color fields =
    if value fields 0 == 5 && length fields == 2 then color_of fields
    else if value fields 0 == 2 && length fields == 4 then color_of fields
    else if value fields 0 == 2 && length fields == 5 then color_of (2 ∷ drop 2 fields)
    else None

-- the attributes after a parameter with several fields, such as `4:3`
abbrev pub with_fields : ℕ → List ℕ → Look → Look
with_fields n fields look =
    if is_color n then with_color n (field_color fields) look
    else if n == 4 && length fields == 1 then with_underline (value fields 0) look
    else look

-- the value of a parameter, or 256 unless the parameter has exactly one field
abbrev pub single : List ℕ → ℕ
single (n ∷ []) = n
single fields = 256

-- How a parameter changes attributes, given the parameters that follow it. In `38;5;n` and `38;2;r;g;b`, the
-- following parameters are the values of the color.
abbrev pub changed : Look → List ℕ → List (List ℕ) → Look
changed look [] following = look
changed look (n ∷ []) following =
    if is_color n then with_color n (color_of (map single following)) look else with_parameter n look
changed look (n ∷ field ∷ fields) following = with_fields n (field ∷ fields) look

-- the number of following parameters that belong to 38, 48 or 58: all of them if the kind of color is unknown
abbrev pub color_len : List (List ℕ) → ℕ
color_len following =
    if value (map single following) 0 == 5 then 2
    else if value (map single following) 0 == 2 then 4
    else length following

-- The number of following parameters that belong to a parameter with these fields. For a color parameter with
-- several fields, the number is 0 if the kind of color is known, and otherwise includes all of them.
abbrev pub taken : List ℕ → List (List ℕ) → ℕ
taken parameter following =
    if not (is_color (value parameter 0)) then 0
    else if length parameter == 1 then color_len following
    else if is_kind (value parameter 1) then 0
    else length following

-- The attributes after SGR with these parameters, each a list of fields. The first `skip` parameters belong to the
-- parameter before them.
abbrev pub applied_after : ℕ → Look → List (List ℕ) → Look
applied_after skip look [] = look
applied_after (suc skip) look (parameter ∷ following) = applied_after skip look following
applied_after zero look (parameter ∷ following) =
    applied_after (taken parameter following) (changed look parameter following) following

abbrev pub applied : Look → List (List ℕ) → Look
applied look parameters = applied_after 0 look parameters
