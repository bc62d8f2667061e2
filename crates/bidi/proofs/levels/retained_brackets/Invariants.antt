use Rattle.std.proofs.Common.{◌≡◌, map, filter, not}
use Rattle.std.specs.List.{range_with_len}
use Rattle.bidi.specs.BracketTypes.{bracket_at}
use Rattle.ucd.specs.Classes.{class_at}
use Rattle.ucd.specs.Classes.{is_removed}
use Rattle.bidi.proofs.levels.retained_brackets.Given as goal

abbrev pub invariant-loop-at : goal.invariant-loop-at
invariant-loop-at l = l.brackets.items ≡ map (bracket_at l.all) (filter (λ k. not (is_removed (class_at l.classes k))) (range_with_len 0 l.at))
