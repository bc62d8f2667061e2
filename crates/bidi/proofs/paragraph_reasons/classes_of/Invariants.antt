use Rattle.std.proofs.Common.{◌≡◌, map, take}
use Rattle.ucd.specs.Tables.{class_of}
use Rattle.bidi.proofs.paragraph_reasons.classes_of.Given as goal

abbrev pub invariant-loop-k : goal.invariant-loop-k
invariant-loop-k l = l.list.items ≡ map (class_of l.tables) (take l.k l.text)
