use Rattle.std.proofs.Common.{◌≡◌, ℕ, ◌<◌, length, get_or}
use Rattle.ucd.specs.Answers.{answers_in, unnamed}
use Rattle.ucd.specs.Images.{entry_at}
use Rattle.ucd.proofs.image_pages.entries_in.Given as goal

abbrev pub invariant-loop-i : goal.invariant-loop-i
invariant-loop-i l = (length l.entries.items ≡ l.i) × ((k : ℕ) → k < l.i → get_or l.entries.items k unnamed ≡ answers_in (entry_at l.bytes k))
