use Rattle.std.proofs.Common.{◌≡◌, ℕ, ◌<◌, false, slice_index_or}
use Rattle.ucd.specs.declared.properties.Properties.{Properties}
use Rattle.reorder.proofs.mirror.have_mirror.Given as goal

abbrev pub invariant-loop-at : goal.invariant-loop-at
invariant-loop-at l = l.any ≡ false → (m : ℕ) (e : Properties) → m < l.at → (slice_index_or l.properties m e).has_mirror ≡ false
