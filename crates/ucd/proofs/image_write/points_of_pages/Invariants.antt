use Rattle.std.proofs.Common.{◌≡◌, ℕ, ◌<◌, length, get_or}
use Rattle.ucd.specs.Answers.{unnamed}
use Rattle.ucd.specs.LineSeparators.{answers_by}
use Rattle.ucd.proofs.image_write.points_of_pages.Given as goal

abbrev pub invariant-loop-c : goal.invariant-loop-c
invariant-loop-c l = (length l.points.items ≡ l.c) × ((k : ℕ) → k < l.c → get_or l.points.items k unnamed ≡ answers_by l.separates l.pages.index.items l.pages.entries.items k)
