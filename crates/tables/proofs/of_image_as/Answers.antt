use Rattle.std.proofs.Common.{◌≡◌, true, false, refl, sym, ◌∙◌, inr}
use Rattle.ucd.specs.contracts.version.Version as version
use Rattle.ucd.specs.declared.version.Version.{Version}
use Rattle.ucd.specs.declared.version.Version.TheVariants.{V15_0, V17_0}
use denote.Enum.Bare.{sameb}
use Rattle.tables.proofs.of_image_as.Goals as goal

same : (v w : Version) → sameb version.the_type v w ≡ true → v ≡ w
same V15_0 V15_0 is = refl
same V15_0 V17_0 is = cc
same V17_0 V15_0 is = cc
same V17_0 V17_0 is = refl

other : (v w : Version) → sameb version.the_type v w ≡ false → ¬ (v ≡ w)
other V15_0 V15_0 is = cc
other V15_0 V17_0 is = λ equal. let no : ⊥ = cc in no
other V17_0 V15_0 is = λ equal. let no : ⊥ = cc in no
other V17_0 V17_0 is = cc

pub returns-then-eq-clause-version : goal.returns-then-eq-clause-version
returns-then-eq-clause-version c = sym c.version.ensures ∙ same c.version.result c.args.version (sym c.eq.ensures ∙ c.if-eq.true)

pub returns-else-eq-clause-err : goal.returns-else-eq-clause-err
returns-else-eq-clause-err c =
    inr (
      refl,
      c.in_ok-tables.ensures.ok.image,
      λ equal. other c.version.result c.args.version (sym c.eq.ensures ∙ c.if-eq.false) (c.version.ensures ∙ c.in_ok-tables.ensures.ok.version ∙ equal),
    )
