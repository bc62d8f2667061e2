use Rattle.std.proofs.Common.{◌≡◌, ℕ, ◌<◌, length, get_or}
use Rattle.ucd.specs.Images.{page_number}
use Rattle.ucd.proofs.image_pages.index_in.Given as goal

abbrev pub invariant-loop-block : goal.invariant-loop-block
invariant-loop-block l = (length l.index.items ≡ l.block) × ((k : ℕ) → k < l.block → get_or l.index.items k 0 ≡ page_number l.bytes k)
