use Rattle.std.proofs.Common.{◌≡◌, ◌+◌, ◌-◌, ◌≤◌, map, take, length}
use Rattle.ucd.specs.Properties.{properties_of}
use Rattle.ucd.proofs.paged.PagedTables.look_up.Given as goal

abbrev pub invariant-groups : goal.invariant-groups
invariant-groups l = record {
  looked_up : take l.k l.properties ≡ map (properties_of l.self) (take l.k l.text);
  within : l.k ≤ length l.text;
}

abbrev pub decreases-groups : goal.decreases-groups
decreases-groups l = length l.text - l.k

abbrev pub invariant-group : goal.invariant-group
invariant-group l = record {
  looked_up : take l.k l.properties ≡ map (properties_of l.self) (take l.k l.text);
  left : l.k + 8 ≤ length l.text + l.done;
  least : l.initial.k + l.done ≤ l.k;
}

abbrev pub invariant-rest : goal.invariant-rest
invariant-rest l = take l.k l.properties ≡ map (properties_of l.self) (take l.k l.text)

abbrev pub decreases-rest : goal.decreases-rest
decreases-rest l = length l.text - l.k
