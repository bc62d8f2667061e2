use Rattle.std.proofs.Common.{◌≡◌, ◌∙◌, get_or, refl, ap, sym, arith}
use Rattle.std.proofs.lemmas.List.{get_or-map}
use Rattle.ucd.specs.Properties.{properties_of}
use Rattle.breaks.specs.declared.mark.Mark.TheVariants.{Never}
use Rattle.lines.proofs.BareLemmas.{PlacesPut-end, PlacesPut-next}
use Rattle.lines.proofs.char_info.put_each.Goals as goal

pub loop-k-preserved : goal.loop-k-preserved
loop-k-preserved c =
    let tables = c.args._tables.now in
    let text = c.args.text.now in
    let k = c.loop-k.k in
    let one = c.index-properties-k.result in
    let looked : one ≡ properties_of tables c.index-text-k.result =
    c.index-properties-k.is ∙ ap (λ ps. get_or ps k one) c.requires.properties
    ∙ get_or-map (properties_of tables) text k c.index-text-k.result one c.loop-k-test.true ∙ ap (properties_of tables) (sym c.index-text-k.is) in
    PlacesPut-next tables 0 text c.args.marks.now c.loop-k.infos k c.index-text-k.result _ Never c.of_other.result c.loop-k.invariant c.loop-k-test.true c.requires.marks
    c.index-text-k.is refl (c.of_other.ensures tables 0 c.index-text-k.result c.columns-columns.ensures looked refl)

pub returns : goal.returns
returns c = PlacesPut-end _ _ _ _ _ _ c.loop-k.invariant (omega (arith, c.loop-k-test.false))
