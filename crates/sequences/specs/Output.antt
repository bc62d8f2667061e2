-- How characters with styles are written.
use Rattle.std.specs.Prelude.{ℕ, ◌+◌, ◌/◌, ◌%◌, nat_lt, Bool, List, [], ◌∷◌, ◌++◌, codes, bytes_eq, Option, Some, None, if◌then◌else◌}
use Rattle.std.specs.List.{join_with_byte}
use Rattle.sequences.specs.SameLooks.{same_look}
use Rattle.sequences.specs.Styled.{DEFAULT, Style}
use Rattle.sequences.specs.declared.look.Look.{Look}
use Rattle.sequences.specs.declared.look.Color.{Color}
use Rattle.sequences.specs.declared.look.Color.TheVariants.{Basic, Indexed, Rgb}
use Rattle.sequences.specs.declared.look.Underline.{Underline}
use Rattle.sequences.specs.declared.look.Underline.TheVariants.{Single, Double, Curly, Dotted, Dashed}
use Rattle.sequences.specs.declared.look.Blink.{Blink}
use Rattle.sequences.specs.declared.look.Blink.TheVariants.{Slow, Rapid}
use Rattle.sequences.specs.declared.look.TheConstants.{PLAIN}

-- the decimal digits of a number below 1,000
abbrev pub digits : ℕ → List ℕ
digits n =
    if nat_lt n 10 then (0x30 + n) ∷ []
    else if nat_lt n 100 then (0x30 + n / 10) ∷ (0x30 + n % 10) ∷ []
    else (0x30 + n / 100) ∷ (0x30 + n / 10 % 10) ∷ (0x30 + n % 10) ∷ []

-- three numbers with a separator between them
abbrev pub three : ℕ → ℕ → ℕ → ℕ → List ℕ
three separator r g b = digits r ++ (separator ∷ digits g ++ (separator ∷ digits b))

-- The parameters of SGR that set attributes.
abbrev pub flag_parameter : Bool → List ℕ → List (List ℕ)
flag_parameter holds parameter = if holds then parameter ∷ [] else []

abbrev pub underline_parameter : Option Underline → List (List ℕ)
underline_parameter None = []
underline_parameter (Some Single) = codes "4" ∷ []
underline_parameter (Some Double) = codes "4:2" ∷ []
underline_parameter (Some Curly) = codes "4:3" ∷ []
underline_parameter (Some Dotted) = codes "4:4" ∷ []
underline_parameter (Some Dashed) = codes "4:5" ∷ []

abbrev pub blink_parameter : Option Blink → List (List ℕ)
blink_parameter None = []
blink_parameter (Some Slow) = codes "5" ∷ []
blink_parameter (Some Rapid) = codes "6" ∷ []

-- the parameter of a foreground color or, if `more` is 10, of a background color
abbrev pub color_parameter : ℕ → Option Color → List (List ℕ)
color_parameter more None = []
color_parameter more (Some (Basic n)) = digits ((if nat_lt n 8 then 30 else 82) + more + n) ∷ []
color_parameter more (Some (Indexed n)) = (digits (38 + more) ++ (codes ";5;" ++ digits n)) ∷ []
color_parameter more (Some (Rgb r g b)) = (digits (38 + more) ++ (codes ";2;" ++ three 0x3B r g b)) ∷ []

abbrev pub underline_color_parameter : Option Color → List (List ℕ)
underline_color_parameter None = []
underline_color_parameter (Some (Basic n)) = (codes "58:5:" ++ digits n) ∷ []
underline_color_parameter (Some (Indexed n)) = (codes "58:5:" ++ digits n) ∷ []
underline_color_parameter (Some (Rgb r g b)) = (codes "58:2::" ++ three 0x3A r g b) ∷ []

abbrev pub weight_parameters : Look → List (List ℕ)
weight_parameters look = flag_parameter look.bold (codes "1") ++ (flag_parameter look.faint (codes "2") ++ flag_parameter look.italic (codes "3"))

abbrev pub line_parameters : Look → List (List ℕ)
line_parameters look = underline_parameter look.underline ++ blink_parameter look.blink

abbrev pub effect_parameters : Look → List (List ℕ)
effect_parameters look =
    flag_parameter look.inverse (codes "7") ++ (flag_parameter look.conceal (codes "8") ++ (flag_parameter look.strike (codes "9") ++ flag_parameter look.overline (codes "53")))

abbrev pub color_parameters : Look → List (List ℕ)
color_parameters look = color_parameter 0 look.foreground ++ (color_parameter 10 look.background ++ underline_color_parameter look.underline_color)

abbrev pub parameters_of : Look → List (List ℕ)
parameters_of look = weight_parameters look ++ (line_parameters look ++ (effect_parameters look ++ color_parameters look))

-- ESC [ P m
abbrev pub sgr_of : List (List ℕ) → List ℕ
sgr_of parameters = 0x1B ∷ 0x5B ∷ (join_with_byte 0x3B parameters ++ codes "m")

-- the characters that are written to reset attributes and to set them: none for default attributes
abbrev pub reset_text : Look → List ℕ
reset_text look = if same_look look PLAIN then [] else sgr_of []

abbrev pub look_text : Look → List ℕ
look_text look = if same_look look PLAIN then [] else sgr_of (parameters_of look)

-- the characters that change the attributes from `before` to `after`
abbrev pub look_between : Look → Look → List ℕ
look_between before after = if same_look before after then [] else reset_text before ++ look_text after

abbrev pub link_text : List ℕ → List ℕ
link_text [] = codes ";"
link_text (c ∷ link) = c ∷ link

-- ESC ] 8 ; PARAMETERS ; URI ESC \
abbrev pub osc_of : List ℕ → List ℕ
osc_of link = 0x1B ∷ (codes "]8;" ++ (link_text link ++ (0x1B ∷ 0x5C ∷ [])))

abbrev pub link_between : List ℕ → List ℕ → List ℕ
link_between before after = if bytes_eq before after then [] else osc_of after

-- the characters that change the style from `before` to `after`
unfoldable pub between : Style → Style → List ℕ
between before after = look_between before.look after.look ++ link_between before.link after.link

-- The characters that are written for the rest of a line, after a character in the given style. The line ends
-- in the default style.
abbrev pub written_after : Style → List (ℕ × Style) → List ℕ
written_after style [] = between style DEFAULT
written_after style (shown ∷ line) = between style shown.1 ++ shown.0 ∷ written_after shown.1 line

unfoldable pub written : List (ℕ × Style) → List ℕ
written line = written_after DEFAULT line
