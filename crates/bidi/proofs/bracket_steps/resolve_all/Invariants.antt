use Rattle.std.proofs.Common.{◌≡◌, map}
use Rattle.std.specs.List.{range_with_len}
use Rattle.ucd.specs.Classes.{is_nonspacing_mark}
use Rattle.bidi.specs.BracketPasses.{closer_by, decision_by}
use Rattle.bidi.specs.BracketSteps.{resolved_before}
use Rattle.bidi.specs.Weak.{is_left}
use Rattle.bidi.proofs.bracket_steps.resolve_all.Given as goal

abbrev pub invariant-loop-k : goal.invariant-loop-k
invariant-loop-k l = record {
  types : l.types ≡ resolved_before l.embedding l.sos (map is_nonspacing_mark l.explicit) (closer_by l.partners) l.fn.types l.k;
  list : l.list.items ≡ map (λ a. decision_by (is_left l.embedding) l.sos (resolved_before l.embedding l.sos (map is_nonspacing_mark l.explicit) (closer_by l.partners) l.fn.types a) a
      (closer_by l.partners a)) (range_with_len 0 l.k);
}
