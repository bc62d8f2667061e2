use Rattle.std.proofs.Common.{◌-◌}
use Rattle.ucd.specs.Tables.{class_of}
use Rattle.bidi.specs.Cuts.{cut}
use Rattle.bidi.proofs.CutLemmas.{UncutTo}
use Rattle.bidi.proofs.cuts.first_cut.Given as goal

abbrev pub invariant-loop-at : goal.invariant-loop-at
invariant-loop-at l = UncutTo (cut (class_of l.tables)) l.text l.last l.at

abbrev pub decreases-loop-at : goal.decreases-loop-at
decreases-loop-at l = l.last - l.at
