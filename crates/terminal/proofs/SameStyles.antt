-- Nothing is written between characters of one style.
use Rattle.std.proofs.Common.{◌≡◌, ◌==◌, Bool, true, false, ◌&&◌, Some, None, refl, ap₂, ◌++◌, []}
use Rattle.std.specs.Prelude.{Option, bytes_eq}
use Rattle.std.proofs.lemmas.Bool.{and_from, cond-true, eq-eqb}
use Rattle.std.proofs.lemmas.Slice.Eq.{bytes_eq-Decides}
use Rattle.sequences.specs.Output.{between, look_text, osc_of, reset_text}
use Rattle.sequences.specs.SameLooks.{blink_number, same_color, same_colors, same_flag, same_flags, same_look, underline_kind}
use Rattle.sequences.specs.Styled.{Style}
use Rattle.sequences.specs.declared.look.Look.{Look}
use Rattle.sequences.specs.declared.look.Color.{Color}
use Rattle.sequences.specs.declared.look.Color.TheVariants.{Basic, Indexed, Rgb}

flag : (a : Bool) → same_flag a a ≡ true
flag true = refl
flag false = refl

color : (a : Option Color) → same_color a a ≡ true
color None = refl
color (Some (Basic n)) = eq-eqb n n refl
color (Some (Indexed n)) = eq-eqb n n refl
color (Some (Rgb r g b)) = and_from (r == r) (g == g && b == b) (eq-eqb r r refl) (and_from (g == g) (b == b) (eq-eqb g g refl) (eq-eqb b b refl))

flags : (a : Look) → same_flags a a ≡ true
flags a =
    and_from _ _ (flag a.bold) (and_from _ _ (flag a.faint) (and_from _ _ (flag a.italic) (and_from _ _ (flag a.inverse)
    (and_from _ _ (flag a.conceal) (and_from _ _ (flag a.strike) (flag a.overline))))))

colors : (a : Look) → same_colors a a ≡ true
colors a = and_from _ _ (color a.foreground) (and_from _ _ (color a.background) (color a.underline_color))

pub same_look-refl : (a : Look) → same_look a a ≡ true
same_look-refl a =
    and_from (same_flags a a) _ (flags a) (and_from (underline_kind a.underline == underline_kind a.underline) _ (eq-eqb _ _ refl)
    (and_from (blink_number a.blink == blink_number a.blink) (same_colors a a) (eq-eqb _ _ refl) (colors a)))

pub between_same : (style : Style) → between style style ≡ []
unfolding between
between_same style =
    ap₂ ◌++◌ (cond-true (same_look style.look style.look) [] (reset_text style.look ++ look_text style.look) (same_look-refl style.look))
    (cond-true (bytes_eq style.link style.link) [] (osc_of style.link) ((bytes_eq-Decides style.link style.link).1 refl))
