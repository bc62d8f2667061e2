use Rattle.std.proofs.Common.{◌≡◌, take}
use Rattle.std.specs.List.{list_all}
use Rattle.ucd.specs.Classes.{class_in}
use Rattle.bidi.specs.Plain.{is_flat_at}
use Rattle.bidi.proofs.resolver.are_each_flat.Given as goal

abbrev pub invariant-loop-at : goal.invariant-loop-at
invariant-loop-at l = l.flat ≡ list_all (λ one. is_flat_at l.base (class_in one)) (take l.at l.properties)
