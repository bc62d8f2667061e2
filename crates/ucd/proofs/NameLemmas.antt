-- Looking up the name of a bidi class yields that class.
use Rattle.std.proofs.Common.{◌≡◌, ℕ, List, Some, refl, sym, ◌∙◌, ap}
use Rattle.ucd.specs.declared.bidi_class.BidiClass.{BidiClass}
use Rattle.ucd.specs.declared.bidi_class.BidiClass.TheVariants.{L}
use Rattle.ucd.specs.BidiClasses as bidi

bidi_named_itself : (class : BidiClass) → Some class ≡ bidi.class_named (bidi.name_of class)
bidi_named_itself L = refl
bidi_named_itself class = refl

pub bidi_named : (class : BidiClass) (name : List ℕ) → name ≡ bidi.name_of class → Some class ≡ bidi.class_named name
bidi_named class name is = bidi_named_itself class ∙ ap bidi.class_named (sym is)
