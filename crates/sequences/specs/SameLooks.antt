-- Whether attributes are equal, and the SGR numbers of the kinds of underline and of blinking.
use Rattle.std.specs.Prelude.{ℕ, ◌==◌, Bool, true, false, ◌&&◌, not, Option, Some, None}
use Rattle.sequences.specs.declared.look.Look.{Look}
use Rattle.sequences.specs.declared.look.Color.{Color}
use Rattle.sequences.specs.declared.look.Color.TheVariants.{Basic, Indexed, Rgb}
use Rattle.sequences.specs.declared.look.Underline.{Underline}
use Rattle.sequences.specs.declared.look.Underline.TheVariants.{Single, Double, Curly, Dotted, Dashed}
use Rattle.sequences.specs.declared.look.Blink.{Blink}
use Rattle.sequences.specs.declared.look.Blink.TheVariants.{Slow, Rapid}

-- the k for which `4:k` sets an underline, or 0 for none
abbrev pub underline_kind : Option Underline → ℕ
underline_kind None = 0
underline_kind (Some Single) = 1
underline_kind (Some Double) = 2
underline_kind (Some Curly) = 3
underline_kind (Some Dotted) = 4
underline_kind (Some Dashed) = 5

-- the SGR parameter that sets a kind of blinking, or 0 for none
abbrev pub blink_number : Option Blink → ℕ
blink_number None = 0
blink_number (Some Slow) = 5
blink_number (Some Rapid) = 6

abbrev pub same_flag : Bool → Bool → Bool
same_flag true other = other
same_flag false other = not other

abbrev pub same_color : Option Color → Option Color → Bool
same_color None None = true
same_color (Some (Basic n)) (Some (Basic m)) = n == m
same_color (Some (Indexed n)) (Some (Indexed m)) = n == m
same_color (Some (Rgb r g b)) (Some (Rgb r' g' b')) = r == r' && (g == g' && b == b')
same_color color other = false

abbrev pub same_flags : Look → Look → Bool
same_flags a b =
    same_flag a.bold b.bold && (same_flag a.faint b.faint && (same_flag a.italic b.italic && (same_flag a.inverse b.inverse
    && (same_flag a.conceal b.conceal && (same_flag a.strike b.strike && same_flag a.overline b.overline)))))

abbrev pub same_colors : Look → Look → Bool
same_colors a b =
    same_color a.foreground b.foreground && (same_color a.background b.background && same_color a.underline_color b.underline_color)

abbrev pub same_look : Look → Look → Bool
same_look a b =
    same_flags a b && (underline_kind a.underline == underline_kind b.underline && (blink_number a.blink == blink_number b.blink && same_colors a b))
