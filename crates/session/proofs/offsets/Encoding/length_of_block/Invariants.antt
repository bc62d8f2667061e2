use Rattle.std.proofs.Common.{◌≡◌, ◌≤◌, ◌*◌, take}
use Rattle.session.specs.Offsets.{length_in}
use Rattle.session.proofs.offsets.Encoding.length_of_block.Given as goal

abbrev pub invariant-loop-c : goal.invariant-loop-c
invariant-loop-c l = record {
  so_far : l.length ≡ length_in l.self (take l.c-index l.block);
  few : l.length ≤ 4 * l.c-index;
}
