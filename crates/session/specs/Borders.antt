-- Borders: starts and ends of paragraphs, with the numbers of paragraphs, characters and lines before them.
use Rattle.std.specs.Prelude.{◌≡◌, ℕ, ◌+◌, ◌-◌, ◌<◌, ◌≤◌, List, Option, Some, length, take}
use Rattle.lines.specs.Layouts.{Layout}
use Rattle.session.specs.Kept.{pars_of, lines_in}
use Rattle.session.specs.Touched.{start_of}
use Rattle.session.specs.declared.borders.Border.{Border}
use Rattle.session.specs.declared.edits.Damage.{Damage}
use Rattle.session.specs.declared.edits.TextRange.{TextRange}
use Rattle.session.specs.declared.joined.Edited.{Edited}

-- `index` paragraphs come before a border, with `chars` characters and `lines` lines
pub record IsBorder (kept : List Layout) (border : Border) : Type 0 where
  pub within : border.index ≤ length kept
  pub chars : border.chars ≡ start_of (pars_of kept) border.index
  pub lines : border.lines ≡ length (lines_in (take border.index kept))

-- whether a border is the start of the first paragraph touched by an edit whose range starts at `pos`
pub record IsFrontBorder (kept : List Layout) (pos : ℕ) (border : Border) : Type 0 where
  pub border_is : IsBorder kept border
  pub before : 0 < border.index → border.chars < pos
  pub after : border.index < length kept → pos ≤ start_of (pars_of kept) (border.index + 1)

-- whether a border is the end of the last paragraph touched by an edit whose range ends at `to`
pub record IsBackBorder (kept : List Layout) (to : ℕ) (border : Border) : Type 0 where
  pub border_is : IsBorder kept border
  pub before : (i : ℕ) → i < border.index → start_of (pars_of kept) i ≤ to
  pub after : border.index < length kept → to < border.chars

-- the damage of an edit that replaces the paragraphs between two borders with the paragraphs `fresh`
abbrev pub damage_between : Border → Border → List Layout → Damage
damage_between front back fresh = record {
  first_line = front.lines;
  old_lines = back.lines - front.lines;
  new_lines = length (lines_in fresh);
  first_par = front.index;
  old_pars = back.index - front.index;
  new_pars = length fresh;
}

-- whether `edited` is the only paragraph between two borders, with the edit that replaces the characters of a range with
-- `inserted` characters; `first` is the paragraph after the first border
pub record IsTouchedAlone (first : Option Layout) (front back : Border) (range : TextRange) (inserted : ℕ) (edited : Edited) : Type 0 where
  pub alone : back.index ≡ front.index + 1
  pub laid : first ≡ Some edited.kept.now
  pub at : edited.edit.at ≡ range.pos - front.chars
  pub removed : edited.edit.removed ≡ range.count
  pub inserted_is : edited.edit.inserted ≡ inserted
