use Rattle.std.proofs.Common.{◌≡◌, map}
use Rattle.std.specs.List.{range_with_len}
use Rattle.ucd.specs.Classes.{class_at}
use Rattle.bidi.specs.BracketPasses.{unpaired_by}
use Rattle.bidi.specs.BracketTypes.{bracket_at}
use Rattle.bidi.proofs.bracket_steps.unpaired_cases.Given as goal

abbrev pub invariant-loop-k : goal.invariant-loop-k
invariant-loop-k l = l.list.items ≡ map (λ k. unpaired_by l.openers l.full (bracket_at l.kinds k) (class_at l.types k) k) (range_with_len 0 l.k)
