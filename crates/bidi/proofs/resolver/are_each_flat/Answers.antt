use Rattle.std.proofs.Common.{◌&&◌, take, sym, ap, ◌∙◌}
use Rattle.std.specs.List.{list_all}
use Rattle.std.proofs.lemmas.List.{take_all}
use Rattle.std.proofs.lemmas.List.Folds.{list_all_more}
use Rattle.ucd.specs.Classes.{class_in}
use Rattle.bidi.specs.Plain.{is_flat_at}
use Rattle.bidi.proofs.resolver.are_each_flat.Goals as goal

pub loop-at-preserved : goal.loop-at-preserved
loop-at-preserved c =
    let at = c.loop-at.at in
    let properties = c.args.properties.now in
    let one = c.index-properties-at.result in
    ap (λ b. b && c.is_flat_at-flat.result) c.loop-at.invariant
    ∙ ap (λ b. list_all (λ one. is_flat_at c.args.base (class_in one)) (take at properties) && b) (c.is_flat_at-flat.ensures ∙ ap (is_flat_at c.args.base) (c.bidi_class.ensures ∙ ap class_in c.index-properties-at.is))
    ∙ sym (list_all_more (λ one. is_flat_at c.args.base (class_in one)) properties at one c.loop-at-test.true)

pub returns : goal.returns
returns c = c.loop-at.invariant ∙ ap (list_all (λ one. is_flat_at c.args.base (class_in one))) (take_all c.loop-at.at c.args.properties.now c.loop-at-test.false)
