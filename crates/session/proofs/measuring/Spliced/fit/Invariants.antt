use Rattle.std.proofs.Common.{◌≡◌, ◌<◌, ◌^◌, drop, sum, take}
use Rattle.session.specs.Measuring.{spliced}
use Rattle.session.proofs.measuring.Spliced.fit.Given as goal

-- the sum of the advances so far
abbrev pub invariant-loop-k : goal.invariant-loop-k
invariant-loop-k l = record {
  so_far : l.total ≡ sum (take l.k (take l.len (drop l.from (spliced l.self))));
  few : l.total < 2 ^ 32;
}
