-- What buffers hold once a paragraph has been laid out. No contract of an exported function uses these definitions.
use Rattle.std.specs.Prelude.{◌≡◌, ℕ, List, length}
use Rattle.bidi.specs.Levels.{levels_of}
use Rattle.breaks.specs.Marks.{marks_of}
use Rattle.lines.specs.Buffers.{held_lines, AreSound}
use Rattle.lines.specs.Layouts.{base_of, lines_of, AreWithin, Rules}
use Rattle.lines.specs.Reordering.{ends_by}
use Rattle.lines.specs.declared.buffers.LayoutBuffers.{LayoutBuffers}

-- whether the buffers hold the fresh layout of a paragraph at a width, except for its text and its base level, which is `base`
pub record HoldsLayout (rules : Rules) (width : ℕ) (text : List ℕ) (base : ℕ) (kept : LayoutBuffers) : Type 0 where
  pub base_is : base ≡ base_of rules text
  pub levels : kept.levels.items ≡ levels_of rules.tables text rules.options.base
  pub marks : kept.marks.items ≡ marks_of rules.tables rules.options.whole_numbers text
  pub ends : kept.ends.items ≡ ends_by rules.options text
  pub lines : held_lines kept.lines ≡ lines_of rules width text
  pub len : length kept.levels.items ≡ length text
  pub sound : AreSound kept.lines
  pub within : AreWithin (length text) (held_lines kept.lines)
  pub lines_len : length kept.lines.visual.levels.items ≡ length text
