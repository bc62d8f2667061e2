-- Attributes for which `same_look` is true are equal.
use Rattle.std.proofs.Common.{◌≡◌, ℕ, ◌==◌, Bool, true, false, ◌&&◌, Some, None, if◌then◌else◌, refl, sym, ap, ◌∙◌}
use Rattle.std.specs.Prelude.{Option}
use Rattle.std.proofs.lemmas.Bool.{and_parts, eqb-true, false≢true}
use Rattle.sequences.specs.SameLooks.{blink_number, same_color, same_colors, same_flag, same_flags, same_look, underline_kind}
use Rattle.sequences.specs.declared.look.Look.{Look}
use Rattle.sequences.specs.declared.look.Color.{Color}
use Rattle.sequences.specs.declared.look.Color.TheVariants.{Basic, Indexed, Rgb}
use Rattle.sequences.specs.declared.look.Underline.{Underline}
use Rattle.sequences.specs.declared.look.Underline.TheVariants.{Single, Double, Curly, Dotted, Dashed}
use Rattle.sequences.specs.declared.look.Blink.{Blink}
use Rattle.sequences.specs.declared.look.Blink.TheVariants.{Slow, Rapid}

same_flag-true : (a b : Bool) → same_flag a b ≡ true → a ≡ b
same_flag-true true true e = refl
same_flag-true true false e = sym e
same_flag-true false true e = e
same_flag-true false false e = refl

abbrev underline_of : ℕ → Option Underline
underline_of k =
    if k == 0 then None else (if k == 1 then Some Single else (if k == 2 then Some Double else (if k == 3 then Some Curly
    else (if k == 4 then Some Dotted else Some Dashed))))

underline_of-kind : (underline : Option Underline) → underline_of (underline_kind underline) ≡ underline
underline_of-kind None = refl
underline_of-kind (Some Single) = refl
underline_of-kind (Some Double) = refl
underline_of-kind (Some Curly) = refl
underline_of-kind (Some Dotted) = refl
underline_of-kind (Some Dashed) = refl

abbrev blink_of : ℕ → Option Blink
blink_of n = if n == 0 then None else (if n == 5 then Some Slow else Some Rapid)

blink_of-number : (blink : Option Blink) → blink_of (blink_number blink) ≡ blink
blink_of-number None = refl
blink_of-number (Some Slow) = refl
blink_of-number (Some Rapid) = refl

same_underline : (a b : Option Underline) → (underline_kind a == underline_kind b) ≡ true → a ≡ b
same_underline a b e = sym (underline_of-kind a) ∙ ap underline_of (eqb-true (underline_kind a) (underline_kind b) e) ∙ underline_of-kind b

same_blink : (a b : Option Blink) → (blink_number a == blink_number b) ≡ true → a ≡ b
same_blink a b e = sym (blink_of-number a) ∙ ap blink_of (eqb-true (blink_number a) (blink_number b) e) ∙ blink_of-number b

same_color-true : (a b : Option Color) → same_color a b ≡ true → a ≡ b
same_color-true None None e = refl
same_color-true (Some (Basic n)) (Some (Basic m)) e = ap (λ k. Some (Basic k)) (eqb-true n m e)
same_color-true (Some (Indexed n)) (Some (Indexed m)) e = ap (λ k. Some (Indexed k)) (eqb-true n m e)
same_color-true (Some (Rgb r g b)) (Some (Rgb r' g' b')) e =
    let h = and_parts (r == r') (g == g' && b == b') e in
    let k = and_parts (g == g') (b == b') h.1 in
    ap (λ x. Some (Rgb x g b)) (eqb-true r r' h.0) ∙ ap (λ x. Some (Rgb r' x b)) (eqb-true g g' k.0) ∙ ap (λ x. Some (Rgb r' g' x)) (eqb-true b b' k.1)
same_color-true None (Some color) e = absurd (false≢true e)
same_color-true (Some (Basic n)) None e = absurd (false≢true e)
same_color-true (Some (Indexed n)) None e = absurd (false≢true e)
same_color-true (Some (Rgb r g b)) None e = absurd (false≢true e)
same_color-true (Some (Basic n)) (Some (Indexed m)) e = absurd (false≢true e)
same_color-true (Some (Basic n)) (Some (Rgb r g b)) e = absurd (false≢true e)
same_color-true (Some (Indexed n)) (Some (Basic m)) e = absurd (false≢true e)
same_color-true (Some (Indexed n)) (Some (Rgb r g b)) e = absurd (false≢true e)
same_color-true (Some (Rgb r g b)) (Some (Basic m)) e = absurd (false≢true e)
same_color-true (Some (Rgb r g b)) (Some (Indexed m)) e = absurd (false≢true e)

look_of : (bold faint italic : Bool) (underline : Option Underline) (blink : Option Blink) (inverse conceal strike overline : Bool)
    (foreground background underline_color : Option Color) → Look
look_of bold faint italic underline blink inverse conceal strike overline foreground background underline_color = record {
  bold = bold;
  faint = faint;
  italic = italic;
  underline = underline;
  blink = blink;
  inverse = inverse;
  conceal = conceal;
  strike = strike;
  overline = overline;
  foreground = foreground;
  background = background;
  underline_color = underline_color;
}

is_look_of : (a : Look) → a ≡ look_of a.bold a.faint a.italic a.underline a.blink a.inverse a.conceal a.strike a.overline a.foreground a.background a.underline_color
unfolding look_of
is_look_of a = refl

pub same_look-true : (a b : Look) → same_look a b ≡ true → a ≡ b
same_look-true a b e =
    let all = and_parts (same_flags a b) _ e in
    let kinds = and_parts (underline_kind a.underline == underline_kind b.underline) _ all.1 in
    let rest = and_parts (blink_number a.blink == blink_number b.blink) (same_colors a b) kinds.1 in
    let colors = and_parts (same_color a.foreground b.foreground) _ rest.1 in
    let others = and_parts (same_color a.background b.background) (same_color a.underline_color b.underline_color) colors.1 in
    let f1 = and_parts (same_flag a.bold b.bold) _ all.0 in
    let f2 = and_parts (same_flag a.faint b.faint) _ f1.1 in
    let f3 = and_parts (same_flag a.italic b.italic) _ f2.1 in
    let f4 = and_parts (same_flag a.inverse b.inverse) _ f3.1 in
    let f5 = and_parts (same_flag a.conceal b.conceal) _ f4.1 in
    let f6 = and_parts (same_flag a.strike b.strike) (same_flag a.overline b.overline) f5.1 in
    let e1 : a.bold ≡ b.bold = same_flag-true _ _ f1.0 in
    let e2 : a.faint ≡ b.faint = same_flag-true _ _ f2.0 in
    let e3 : a.italic ≡ b.italic = same_flag-true _ _ f3.0 in
    let e4 : a.inverse ≡ b.inverse = same_flag-true _ _ f4.0 in
    let e5 : a.conceal ≡ b.conceal = same_flag-true _ _ f5.0 in
    let e6 : a.strike ≡ b.strike = same_flag-true _ _ f6.0 in
    let e7 : a.overline ≡ b.overline = same_flag-true _ _ f6.1 in
    let e8 : a.underline ≡ b.underline = same_underline _ _ kinds.0 in
    let e9 : a.blink ≡ b.blink = same_blink _ _ rest.0 in
    let e10 : a.foreground ≡ b.foreground = same_color-true _ _ colors.0 in
    let e11 : a.background ≡ b.background = same_color-true _ _ others.0 in
    let e12 : a.underline_color ≡ b.underline_color = same_color-true _ _ others.1 in
    cc (is_look_of a, is_look_of b)
