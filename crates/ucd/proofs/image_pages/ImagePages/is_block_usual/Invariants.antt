use Rattle.std.proofs.Common.{ℕ, ◌*◌, ◌<◌, ◌≤◌}
use Rattle.ucd.specs.Pages.{answers_at}
use Rattle.ucd.specs.Separators.{IsUsual}
use Rattle.ucd.proofs.image_pages.ImagePages.is_block_usual.Given as goal

abbrev pub invariant-loop-c : goal.invariant-loop-c
invariant-loop-c l = (c : ℕ) → l.block * 256 ≤ c → c < l.c → IsUsual c (answers_at l.self.index.items l.self.entries.items c)
