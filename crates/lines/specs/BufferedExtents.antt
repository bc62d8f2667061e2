-- Buffers that hold the line starts and shown parts of a paragraph at a width, and are long enough for each
-- of its visual lines. No contract of an exported function uses this definition.
use Rattle.std.specs.Prelude.{◌≡◌, ℕ, length, None}
use Rattle.lines.specs.Buffers.{CanHold}
use Rattle.lines.specs.CharInfos.{infos_of}
use Rattle.lines.specs.Extents.{shown_from}
use Rattle.lines.specs.Filling.{line_starts_of}
use Rattle.lines.specs.Kept.{AreStarts}
use Rattle.lines.specs.ShownParts.{margin_of}
use Rattle.lines.specs.declared.buffers.LineBuffers.{LineBuffers}
use Rattle.lines.specs.declared.paragraph.Text.{Text}

pub record AreExtentsOf (text : Text) (width : ℕ) (lines : LineBuffers) : Type 0 where
  pub starts : lines.extents.starts
      ≡ line_starts_of text.rules.options.nobreak width (infos_of text.rules.tables.now text.rules.options None text.characters.now)
  pub shown : lines.extents.shown
      ≡ shown_from (margin_of text.rules.options width) (length text.characters.now) (infos_of text.rules.tables.now text.rules.options None text.characters.now) lines.extents.starts
  pub ordered : AreStarts (length text.characters.now) lines.extents.starts
  pub visual : CanHold (length text.characters.now) lines.visual
