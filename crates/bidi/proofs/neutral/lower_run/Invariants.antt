use Rattle.std.proofs.Common.{◌≡◌, ℕ, ◌-◌, ◌<◌, ◌≤◌, true, ◌++◌, length, get_or, take, replicate}
use Rattle.ucd.specs.declared.bidi_class.BidiClass.{BidiClass}
use Rattle.bidi.specs.Neutral.{is_neutral}
use Rattle.bidi.proofs.neutral.lower_run.Given as goal

abbrev pub invariant-loop-at : goal.invariant-loop-at
invariant-loop-at l = record {
  within : l.at ≤ l.end;
  size : length l.levels ≡ length l.types;
  passed : (k : ℕ) (d : BidiClass) → l.at ≤ k → k < l.end → is_neutral (get_or l.types k d) ≡ true;
  put : take l.end l.levels ≡ take l.at l.fn.levels ++ replicate (l.end - l.at) l.level;
}

abbrev pub decreases-loop-at : goal.decreases-loop-at
decreases-loop-at l = l.at
