use Rattle.std.proofs.Common.{◌≡◌, ℕ, ◌<◌, ◌≤◌, true, length}
use Rattle.lines.specs.Filling.{place_at, trails}
use Rattle.lines.proofs.shown_parts.text_len.Given as goal

abbrev pub invariant-loop-len : goal.invariant-loop-len
invariant-loop-len l = record {
  within : l.len ≤ length l.line;
  trailing : (k : ℕ) → l.len ≤ k → k < length l.line → trails (place_at l.line k) ≡ true;
}

abbrev pub decreases-loop-len : goal.decreases-loop-len
decreases-loop-len l = l.len
