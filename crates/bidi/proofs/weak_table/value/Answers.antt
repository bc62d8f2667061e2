use Rattle.std.proofs.Common.{◌≡◌, ◌+◌, length, refl, arith}
use Rattle.std.proofs.lemmas.List.{get_or_default}
use Rattle.ucd.specs.Answers.{bidi_tag}
use Rattle.ucd.specs.declared.bidi_class.BidiClass.TheVariants.{ON}
use Rattle.bidi.specs.declared.weak_table.TheConstants.{VALUES}
use Rattle.bidi.proofs.WeakTableLemmas.{tag-below}
use Rattle.bidi.proofs.weak_table.value.Goals as goal

pub returns : goal.returns
returns c =
    let size : length VALUES ≡ 672 = refl in
    get_or_default VALUES (c.args.row + bidi_tag c.args.class) _ ON (omega (arith, c.requires, size, tag-below c.args.class))
