use Rattle.std.proofs.Common.{◌≡◌, ◌<◌, ◌∙◌, get_or, length, refl, ap, arith}
use Rattle.std.proofs.lemmas.List.{get_or-map, get_or_default, length-map}
use Rattle.ucd.specs.Properties.{properties_of}
use Rattle.breaks.specs.declared.mark.Mark.TheVariants.{Never}
use Rattle.lines.proofs.BareLemmas.{PlacesPut-end, PlacesPut-next}
use Rattle.lines.proofs.char_info.put_narrow.Goals as goal

pub loop-k-preserved : goal.loop-k-preserved
loop-k-preserved c =
    let tables = c.args._tables.now in
    let text = c.args._text.now in
    let k = c.loop-k.k in
    let one = c.index-properties-k.result in
    let within : k < length text =
    omega (arith, c.loop-k-test.true, ap length c.requires.properties, length-map text (properties_of tables)) in
    let looked : one ≡ properties_of tables (get_or text k 0) =
    c.index-properties-k.is ∙ ap (λ ps. get_or ps k one) c.requires.properties ∙ get_or-map (properties_of tables) text k 0 one within in
    PlacesPut-next tables 0 text c.args.marks.now c.loop-k.infos k (get_or text k 0) _ Never c.of_other.result c.loop-k.invariant within c.requires.marks
    (get_or_default text k 0 (get_or text k 0) within) refl (c.of_other.ensures tables 0 (get_or text k 0) (c.requires.narrow k within) looked refl)

pub returns : goal.returns
returns c =
    PlacesPut-end _ _ _ _ _ _ c.loop-k.invariant
    (omega (arith, c.loop-k-test.false, ap length c.requires.properties, length-map c.args._text.now (properties_of c.args._tables.now)))
