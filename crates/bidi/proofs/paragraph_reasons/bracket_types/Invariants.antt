use Rattle.std.proofs.Common.{◌≡◌, take}
use Rattle.ucd.specs.Tables.{bracket_of}
use Rattle.bidi.specs.BracketTypes.{bracket_types}
use Rattle.bidi.proofs.paragraph_reasons.bracket_types.Given as goal

abbrev pub invariant-loop-k : goal.invariant-loop-k
invariant-loop-k l = l.list.items ≡ bracket_types (bracket_of l.tables) (take l.k l.text)
