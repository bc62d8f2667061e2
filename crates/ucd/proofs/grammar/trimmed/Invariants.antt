use Rattle.std.proofs.Common.{◌≡◌, ℕ, ◌-◌, ◌<◌, ◌≤◌, length, get_or, true}
use Rattle.ucd.specs.Grammar.{is_one_of}
use Rattle.ucd.proofs.grammar.trimmed.Given as goal

-- the bytes before `start` pass the test
abbrev pub invariant-loop-start : goal.invariant-loop-start
invariant-loop-start l = record {
  within : l.start ≤ length l.bytes;
  pass : (k : ℕ) → k < l.start → is_one_of l.white (get_or l.bytes k 0) ≡ true;
}

abbrev pub decreases-loop-start : goal.decreases-loop-start
decreases-loop-start l = length l.bytes - l.start

-- the bytes of `rest` from `end` on pass the test
abbrev pub invariant-loop-end : goal.invariant-loop-end
invariant-loop-end l = record {
  within : l.end ≤ length l.rest;
  pass : (k : ℕ) → l.end ≤ k → k < length l.rest → is_one_of l.white (get_or l.rest k 0) ≡ true;
}

abbrev pub decreases-loop-end : goal.decreases-loop-end
decreases-loop-end l = l.end
