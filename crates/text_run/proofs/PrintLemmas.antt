-- If no part of a paragraph is printed, the paragraph has no printed bytes.
use Rattle.std.proofs.Common.{◌≡◌, ◌∙◌, ℕ, ◌&&◌, Bool, true, false, List, [], ◌∷◌, ◌++◌, length, refl, ap, arith}
use Rattle.std.specs.Prelude.{◌||◌, not}
use Rattle.std.specs.List.{enumerate_from, flat_map}
use Rattle.std.proofs.lemmas.Bool.{true≢false}
use Rattle.device.specs.Device.{Device}
use Rattle.lines.specs.Bytes.{line_bytes}
use Rattle.lines.specs.Layouts.{Rules, layout_of}
use Rattle.lines.specs.Pages.{paragraph_bytes}
use Rattle.lines.specs.Printing.{FailedAs, skips_lines}
use Rattle.lines.specs.Visual.{Visual, visual_of}
use Rattle.lines.specs.declared.printing.print.Print.{Print}
use Rattle.lines.specs.declared.printing.print.PrintFault.{PrintFault}
use Rattle.lines.specs.declared.printing.print.PrintFault.TheVariants.{Memory, Write}
use Rattle.text_run.specs.Pages.{prints_some}

-- whether the options print no part of a paragraph
record AreOff (basedir novisual ltov vtol levels : Bool) : Type 0 where
  pub basedir_off : basedir ≡ false
  pub novisual_on : novisual ≡ true
  pub ltov_off : ltov ≡ false
  pub vtol_off : vtol ≡ false
  pub levels_off : levels ≡ false

are_off : (b v l t e : Bool) → (b || not (v && (not l && (not t && not e)))) ≡ false → AreOff b v l t e
are_off true v l t e is = absurd (true≢false is)
are_off false false l t e is = absurd (true≢false is)
are_off false true true t e is = absurd (true≢false is)
are_off false true false true e is = absurd (true≢false is)
are_off false true false false true is = absurd (true≢false is)
are_off false true false false false is = record { basedir_off = refl; novisual_on = refl; ltov_off = refl; vtol_off = refl; levels_off = refl }

line_none : (width : ℕ) (print : Print) (visual : Visual) → AreOff print.basedir print.novisual print.ltov print.vtol print.levels → line_bytes width print visual ≡ []
line_none width print visual off = rw (off.basedir_off, off.novisual_on, off.ltov_off, off.vtol_off, off.levels_off) refl

flat_none : {A : Type 0} (f : A → List ℕ) (xs : List A) → ((x : A) → f x ≡ []) → flat_map f xs ≡ []
flat_none f [] none = refl
flat_none f (x ∷ xs) none = ap (λ t. t ++ flat_map f xs) (none x) ∙ flat_none f xs none

pub nothing_printed : (rules : Rules) (width : ℕ) (print : Print) (text : List ℕ) → prints_some print ≡ false → paragraph_bytes rules width print text ≡ []
nothing_printed rules width print text none =
    let off = are_off print.basedir print.novisual print.ltov print.vtol print.levels none in
    let layout = layout_of rules width text in
    flat_none (λ nth. line_bytes width print (visual_of layout.base layout.tab_width layout.advances layout.text layout.lines nth.0 nth.1)) (enumerate_from 0 layout.lines)
    (λ nth. line_none width print (visual_of layout.base layout.tab_width layout.advances layout.text layout.lines nth.0 nth.1) off)

or_true : (b : Bool) → (b || true) ≡ true
or_true true = refl
or_true false = refl

-- if printing a paragraph can fail, the options print some part of it
pub some_printed : (rules : Rules) (width : ℕ) (print : Print) (text : List ℕ) (old new : Device) (fault : PrintFault)
    → FailedAs fault (paragraph_bytes rules width print text) old new → (fault ≡ Memory → skips_lines print ≡ false) → prints_some print ≡ true
some_printed rules width print text old new Memory failed memory = ap (λ (b : Bool). print.basedir || not b) (memory refl) ∙ or_true print.basedir
some_printed rules width print text old new (Write at) failed memory = go (prints_some print) refl
  where
    go : (b : Bool) → prints_some print ≡ b → prints_some print ≡ true
    go true is = is
    go false is = absurd (omega (arith, failed.0, ap length (nothing_printed rules width print text is)))
