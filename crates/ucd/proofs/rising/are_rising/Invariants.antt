use Rattle.std.proofs.Common.{drop}
use Rattle.ucd.specs.Rising.{AreRisingFrom}
use Rattle.ucd.proofs.rising.are_rising.Given as goal

-- all entries are in ascending order if and only if the entries not yet read ascend from `low` on
abbrev pub invariant-loop-entry : goal.invariant-loop-entry
invariant-loop-entry g l = record {
  yes : AreRisingFrom l.low (drop l.entry-index l.entries) → AreRisingFrom 0 l.entries;
  no : AreRisingFrom 0 l.entries → AreRisingFrom l.low (drop l.entry-index l.entries);
}
