use Rattle.std.proofs.Common.{◌≡◌, ◌≢◌, ℕ, ◌<◌, ◌≤◌, true, false, get_or}
use Rattle.ucd.specs.Answers.{unnamed}
use Rattle.ucd.specs.declared.bidi_class.BidiClass.TheVariants.{B}
use Rattle.ucd.proofs.pages.has_separator.Given as goal

abbrev pub invariant-loop-c : goal.invariant-loop-c
invariant-loop-c l = (l.found ≡ false → (c : ℕ) → l.first ≤ c → c < l.c → (get_or l.entries c unnamed).bidi_class ≢ B)
    × (l.found ≡ true → ¬ ((c : ℕ) → l.first ≤ c → c < l.c → (get_or l.entries c unnamed).bidi_class ≢ B))
