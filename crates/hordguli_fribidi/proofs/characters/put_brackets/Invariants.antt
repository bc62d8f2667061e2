use Rattle.std.proofs.Common.{◌≡◌, get_or, map, take}
use Rattle.std.specs.List.{range_with_len}
use Rattle.hordguli_fribidi.specs.Points.{bracket_at}
use Rattle.hordguli_fribidi.proofs.characters.put_brackets.Given as goal

abbrev pub invariant-loop-at : goal.invariant-loop-at
invariant-loop-at l =
    take l.at l.brackets ≡ map (λ k. bracket_at l.index l.pages l.numbers (get_or l.characters k 0) (get_or l.types k 0)) (range_with_len 0 l.at)
