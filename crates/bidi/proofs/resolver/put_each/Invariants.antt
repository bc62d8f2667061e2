use Rattle.std.proofs.Common.{◌≡◌, map, not, take}
use Rattle.std.specs.List.{list_all, list_any}
use Rattle.ucd.specs.Classes.{class_in}
use Rattle.bidi.specs.Plain.{has_bracket_in, is_plain}
use Rattle.bidi.proofs.resolver.put_each.Given as goal

abbrev pub invariant-loop-at : goal.invariant-loop-at
invariant-loop-at l = record {
  classes : take l.at l.classes ≡ map class_in (take l.at l.properties);
  plain : l.all_plain ≡ list_all (λ one. is_plain (class_in one)) (take l.at l.properties);
  brackets : l.no_bracket ≡ not (list_any has_bracket_in (take l.at l.properties));
}
