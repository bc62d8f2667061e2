use Rattle.std.proofs.Common.{◌≡◌, ◌≤◌, ◌<◌, ℕ, get_or}
use Rattle.terminal.proofs.numbers.put_number.Given as goal

abbrev pub invariant-loop-k : goal.invariant-loop-k
invariant-loop-k l = record {
  inside : (k : ℕ) → l.start ≤ k → k < l.k → get_or l.numbers k 0 ≡ l.number;
  before : (k : ℕ) → k < l.start → get_or l.numbers k 0 ≡ get_or l.fn.numbers k 0;
  after : (k : ℕ) → l.k ≤ k → get_or l.numbers k 0 ≡ get_or l.fn.numbers k 0;
}
