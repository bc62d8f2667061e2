use Rattle.std.proofs.Common.{◌≡◌, ℕ, ◌*◌, ◌<◌, length, get_or}
use Rattle.ucd.specs.Images.{u16_at}
use Rattle.ucd.proofs.image_parts.index_bytes.Given as goal

abbrev pub invariant-loop-k : goal.invariant-loop-k
invariant-loop-k l = (length l.bytes.items ≡ 2 * l.k) × ((j : ℕ) → j < l.k → u16_at l.bytes.items (2 * j) ≡ get_or l.index j 0)
