use Rattle.std.proofs.Common.{length}
use denote.Text.{Utf8}
use denote.Shadow.{shadow}
use Rattle.ucd.specs.Tables.{class_of}
use Rattle.bidi.specs.Cuts.{cut}
use Rattle.bidi.proofs.TextCutLemmas.{Passed}
use Rattle.bidi.proofs.text_cuts.first_end.Given as goal

-- the text searched so far has no boundary
abbrev pub invariant-loop-c : goal.invariant-loop-c
invariant-loop-c l = record {
  utf8 : shadow (Utf8 l.rest);
  passed : Passed (cut (class_of l.tables)) l.text l.rest;
}

abbrev pub decreases-loop-c : goal.decreases-loop-c
decreases-loop-c l = length l.rest
