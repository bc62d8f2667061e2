use Rattle.std.proofs.Common.{◌≡◌, ℕ, ◌*◌, ◌<◌, IsTrue, length, get_or}
use Rattle.ucd.specs.Answers.{answers_in, unnamed}
use Rattle.ucd.specs.DistinctPages.{AreEntriesOf}
use Rattle.ucd.specs.declared.version.Version.{Version}
use Rattle.ucd.specs.Images.{u16_at, is_entry}
use Rattle.ucd.proofs.image_parts.entry_bytes.Given as goal

abbrev pub invariant-loop-k : goal.invariant-loop-k
invariant-loop-k l = record {
  len : length l.bytes.items ≡ 2 * l.k;
  valid : (version : Version) → AreEntriesOf version l.entries → (j : ℕ) → j < l.k → IsTrue (is_entry version (u16_at l.bytes.items (2 * j)));
  each : (j : ℕ) → j < l.k → answers_in (u16_at l.bytes.items (2 * j)) ≡ get_or l.entries j unnamed;
}
