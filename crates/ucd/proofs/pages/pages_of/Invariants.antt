use Rattle.std.proofs.Common.{◌≡◌, ◌*◌, length}
use Rattle.ucd.specs.Runs.{ReachesTo}
use Rattle.ucd.specs.Said.{said, layers_of}
use Rattle.ucd.specs.DistinctPages.{HoldsPages}
use Rattle.ucd.proofs.pages.pages_of.Given as goal

-- the index and the pages hold the first `place` blocks, and the run reaches the end of these blocks
abbrev pub invariant-loop-place : goal.invariant-loop-place
invariant-loop-place l = record {
  pages : HoldsPages (said (layers_of l.fn.version l.fn.entries)) l.index.items l.pages.items l.place;
  reaches : ReachesTo (layers_of l.fn.version l.fn.entries) l.runs (l.place * 256);
  page : length l.page.items ≡ 256;
}
