use Rattle.std.proofs.Common.{◌≡◌, length}
use Rattle.ucd.specs.JoiningPages.{HoldsTypes, merged_at}
use Rattle.ucd.proofs.joining_pages.joining_pages.Given as goal

-- the index and the pages hold the first `place` blocks
abbrev pub invariant-loop-place : goal.invariant-loop-place
invariant-loop-place l = record {
  pages : HoldsTypes (merged_at l.fn.shaping_types l.fn.data_types) l.index.items l.entries.items l.place;
  page : length l.page.items ≡ 256;
}
