use Rattle.std.proofs.Common.{◌≡◌, ◌-◌, length, map, reverse, take}
use Rattle.reorder.specs.Mirroring.{mirrored}
use Rattle.reorder.proofs.mirror.visual_run.Given as goal

abbrev pub invariant-loop-at : goal.invariant-loop-at
invariant-loop-at l = record {
  written : take l.at l.chars ≡ take l.at (reverse (map (mirrored l.tables 1) l.run));
  left : l.k ≡ length l.run - l.at;
}
