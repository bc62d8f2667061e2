use Rattle.std.proofs.Common.{get_or}
use Rattle.ucd.specs.Answers.{unnamed}
use Rattle.ucd.specs.declared.version.Version.{Version}
use Rattle.ucd.specs.DistinctPages.{AreEntriesOf, AreDistinct, HoldsPages}
use Rattle.ucd.proofs.distinct_pages.distinct_pages.Given as goal

abbrev pub invariant-loop-place : goal.invariant-loop-place
invariant-loop-place l = record {
  pages : HoldsPages (λ c. get_or l.points c unnamed) l.index.items l.entries.items l.place;
  distinct : AreDistinct l.entries.items;
  valid : (version : Version) → AreEntriesOf version l.points → AreEntriesOf version l.entries.items;
}
