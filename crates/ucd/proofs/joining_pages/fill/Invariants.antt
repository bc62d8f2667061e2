use Rattle.std.proofs.Common.{◌≡◌, ℕ, ◌+◌, ◌<◌, length, get_or}
use Rattle.ucd.specs.JoiningPages.{merged_at}
use Rattle.ucd.specs.declared.joining_type.JoiningType.TheVariants.{NonJoining}
use Rattle.ucd.proofs.joining_pages.fill.Given as goal

abbrev pub invariant-loop-k : goal.invariant-loop-k
invariant-loop-k l = record {
  len : length l.page ≡ 256;
  filled : (j : ℕ) → j < l.k → get_or l.page j NonJoining ≡ merged_at l.fn.shaping_types l.fn.data_types (l.fn.start + j);
}
