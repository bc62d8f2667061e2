use Rattle.std.proofs.Common.{◌≡◌, ◌≤◌, ◌*◌, take}
use Rattle.session.specs.Offsets.{length_in}
use Rattle.session.specs.declared.offsets.Encoding.TheVariants.{Utf8}
use Rattle.session.proofs.offsets.length_below_800.Given as goal

abbrev pub invariant-loop-c : goal.invariant-loop-c
invariant-loop-c l = record {
  so_far : l.length ≡ length_in Utf8 (take l.c-index l.block);
  few : l.length ≤ 2 * l.c-index;
}
