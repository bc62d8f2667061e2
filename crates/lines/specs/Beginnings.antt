-- Where the lines of a paragraph start.
use Rattle.std.specs.Prelude.{◌≡◌, ℕ, ◌<◌, List, length, map, Some, slice_get}
use Rattle.lines.specs.Kept.{AreStarts}
use Rattle.lines.specs.Layouts.{start_of}
use Rattle.lines.specs.Visual.{Line}

-- The lines of a text start at increasing positions within the text, the first one at 0. An empty text has no
-- lines.
pub record BeginInOrder (text : List ℕ) (lines : List Line) : Type 0 where
  pub starts : AreStarts (length text) (map start_of lines)
  pub first : 0 < length text → slice_get (map start_of lines) 0 ≡ Some 0
