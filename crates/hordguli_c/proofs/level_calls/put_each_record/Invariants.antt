use Rattle.std.proofs.Common.{◌≡◌, map, take}
use Rattle.hordguli_c.specs.Levels.{character_out}
use Rattle.hordguli_c.proofs.level_calls.put_each_record.Given as goal

abbrev pub invariant-loop-k : goal.invariant-loop-k
invariant-loop-k l = take l.k l.records ≡ map (character_out l.tables) (take l.k l.characters)
