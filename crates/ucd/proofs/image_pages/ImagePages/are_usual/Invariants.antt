use Rattle.std.proofs.Common.{ℕ, ◌*◌, ◌<◌}
use Rattle.ucd.specs.Pages.{answers_at}
use Rattle.ucd.specs.Separators.{IsUsual}
use Rattle.ucd.proofs.image_pages.ImagePages.are_usual.Given as goal

abbrev pub invariant-loop-block : goal.invariant-loop-block
invariant-loop-block l = (c : ℕ) → c < l.block * 256 → IsUsual c (answers_at l.self.index.items l.self.entries.items c)
