use Rattle.std.proofs.Common.{◌≡◌, take}
use Rattle.std.specs.List.{list_all}
use Rattle.bidi.specs.Plain.{is_flat_at}
use Rattle.bidi.proofs.resolver.are_flat.Given as goal

abbrev pub invariant-loop-class : goal.invariant-loop-class
invariant-loop-class l = l.flat ≡ list_all (is_flat_at l.base) (take l.class-index l.classes)
