use Rattle.std.proofs.Common.{◌≡◌, ◌∙◌, ℕ, List, length, ap, sym}
use Rattle.breaks.specs.Marks.{marks_of}
use Rattle.lines.specs.Layouts.{with_advances, Layout}
use Rattle.lines.specs.Paragraphs.{rules_in}
use Rattle.lines.proofs.workspace.Workspace.lay_out_changed.Goals as goal
