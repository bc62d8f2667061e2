-- The characters of a paragraph that an edit has changed. No contract of an exported function uses these definitions.
use Rattle.std.specs.Prelude.{◌≡◌, ℕ, ◌+◌, ◌-◌, ◌<◌, ◌≤◌, List}
use Rattle.breaks.specs.declared.mark.Mark.{Mark}
use Rattle.lines.specs.Layouts.{Layout}
use Rattle.lines.specs.SameKind.{IsEdited}
use Rattle.lines.specs.Windows.{StaysOutside}
use Rattle.lines.specs.declared.same_kind.Replacement.{Replacement}

-- whether an edit of a text of `old_len` characters, which makes one of `new_len` characters, contains another one
pub record Contains (old_len new_len : ℕ) (edit all : Replacement) : Type 0 where
  pub front : all.at ≤ edit.at
  pub old_end : (edit.at + edit.removed ≤ all.at + all.removed) × (all.at + all.removed ≤ old_len)
  pub new_end : (edit.at + edit.inserted ≤ all.at + all.inserted) × (all.at + all.inserted ≤ new_len)
  pub rest : old_len - (all.at + all.removed) ≡ new_len - (all.at + all.inserted)

-- whether an edit makes a text of a paragraph, and changes no level and no break mark outside the edited characters
pub record IsChange (old : Layout) (text levels : List ℕ) (marks : List Mark) (edit : Replacement) : Type 0 where
  pub edited : IsEdited old.text text edit
  pub levels_stay : StaysOutside edit old.levels levels
  pub marks_stay : StaysOutside edit old.marks marks
