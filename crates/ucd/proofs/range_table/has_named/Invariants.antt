use Rattle.std.proofs.Common.{◌≡◌, ℕ, ◌<◌, ◌≤◌, true, false, get_or, IsTrue}
use Rattle.ucd.proofs.range_table.has_named.Given as goal

abbrev pub invariant-loop-c : goal.invariant-loop-c
invariant-loop-c l = record {
  some : IsTrue l.any → (c : ℕ) × (l.first ≤ c) × (c < l.c) × (get_or l.named c false ≡ true);
  none : l.any ≡ false → (c : ℕ) → l.first ≤ c → c < l.c → get_or l.named c false ≡ false;
}
