use Rattle.std.proofs.Common.{◌≡◌, ℕ, nat_le, nat_lt, ◌&&◌, get_or, if◌then◌else◌}
use Rattle.ucd.specs.Answers.{unnamed}
use Rattle.ucd.proofs.pages.set_all.Given as goal

abbrev pub invariant-loop-i : goal.invariant-loop-i
invariant-loop-i l = (i : ℕ) → get_or l.page i unnamed ≡ (if nat_le l.first i && nat_lt i l.i then l.properties else get_or l.fn.page i unnamed)
