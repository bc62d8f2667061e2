use Rattle.std.proofs.Common.{◌≡◌, ℕ, ◌<◌, ◌≤◌, None, false, get_or, IsSome, IsTrue}
use Rattle.ucd.proofs.claims.has_type.Given as goal

abbrev pub invariant-loop-c : goal.invariant-loop-c
invariant-loop-c l = record {
  some : IsTrue l.any → (c : ℕ) × (l.first ≤ c) × (c < l.c) × IsSome (get_or l.types c None);
  none : l.any ≡ false → (c : ℕ) → l.first ≤ c → c < l.c → get_or l.types c None ≡ None;
}
