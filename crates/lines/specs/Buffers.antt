-- The lines that buffers hold, and whether the buffers are long enough.
use Rattle.std.specs.Prelude.{◌≡◌, ℕ, ◌*◌, ◌≤◌, List, length}
use Rattle.lines.specs.Kept.{IsSound, lines_in}
use Rattle.lines.specs.Layouts.{Filled}
use Rattle.lines.specs.Visual.{Line}
use Rattle.lines.specs.declared.buffers.LineBuffers.{LineBuffers}
use Rattle.lines.specs.declared.buffers.VisualBuffers.{VisualBuffers}

abbrev pub held_lines : LineBuffers → List Line
held_lines b = lines_in b.extents.starts b.extents.shown b.visual.levels.items b.visual.maps.items b.visual.chars.items

abbrev pub held_in : LineBuffers → Filled
held_in b = record { lines = held_lines b; len = length b.visual.levels.items }

abbrev pub AreSound : LineBuffers → Type 0
AreSound b = IsSound b.extents.starts b.extents.shown b.visual.levels.items b.visual.maps.items b.visual.chars.items

-- whether all buffers keep their lengths
pub record SameLengths (old new : VisualBuffers) : Type 0 where
  pub levels : length new.levels.items ≡ length old.levels.items
  pub maps : length new.maps.items ≡ length old.maps.items
  pub chars : length new.chars.items ≡ length old.chars.items

-- whether the buffers have enough items for a line of n characters
pub record CanHold (n : ℕ) (v : VisualBuffers) : Type 0 where
  pub levels : n ≤ length v.levels.items
  pub maps : 2 * n ≤ length v.maps.items
  pub chars : n ≤ length v.chars.items
