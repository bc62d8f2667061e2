use Rattle.std.proofs.Common.{◌≡◌, take}
use Rattle.std.specs.List.{list_all}
use Rattle.bidi.specs.Plain.{is_plain}
use Rattle.bidi.proofs.resolver.are_plain.Given as goal

abbrev pub invariant-loop-class : goal.invariant-loop-class
invariant-loop-class l = l.all ≡ list_all is_plain (take l.class-index l.classes)
