use Rattle.ucd.proofs.Cuts.{NoDelimiterBelow}
use Rattle.ucd.proofs.grammar.cut_near.Given as goal

-- no byte before `at` is the delimiter
abbrev pub invariant-loop-at : goal.invariant-loop-at
invariant-loop-at l = NoDelimiterBelow l.delimiter l.bytes l.at
