-- The window of a paragraph in which lines are filled again after an edit, and where its lines meet the old ones. No
-- contract of an exported function uses these definitions.
use Rattle.std.specs.Prelude.{◌≡◌, ◌⊎◌, ℕ, ◌+◌, ◌-◌, ◌<◌, ◌≤◌, true, false, List, length, map, drop, slice_get, slice_index, slice_index_or, slice_range, take, None, Option, Some}
use Rattle.bidi.specs.Levels.{levels_of}
use Rattle.breaks.specs.Marks.{marks_of}
use Rattle.breaks.specs.declared.mark.Mark.{Mark}
use Rattle.breaks.specs.declared.mark.Mark.TheVariants.{Never}
use Rattle.lines.specs.Bare.{AreAlike}
use Rattle.lines.specs.CharInfos.{infos_of}
use Rattle.lines.specs.Clusters.{is_split_point}
use Rattle.lines.specs.Filling.{is_break, line_starts_of}
use Rattle.lines.specs.Kept.{AreStarts}
use Rattle.lines.specs.Layouts.{base_of, layout_of, start_of, visuals, with_advances}
use Rattle.lines.specs.Matching.{ShareEnds}
use Rattle.lines.specs.Paragraphs.{rules_in}
use Rattle.lines.specs.SameKind.{IsEdited}
use Rattle.lines.specs.ShownParts.{margin_of}
use Rattle.lines.specs.Visual.{Line, lines_from}
use Rattle.lines.specs.declared.char_info.CharInfo.{CharInfo}
use Rattle.lines.specs.declared.engine.TheConstants.{PARAGRAPH_LIMIT}
use Rattle.lines.specs.declared.matching.SharedLines.{SharedLines}
use Rattle.lines.specs.declared.same_kind.Replacement.{Replacement}
use Rattle.lines.specs.declared.windows.Edited.{Edited}
use Rattle.lines.specs.declared.windows.Meeting.{Meeting}
use Rattle.lines.specs.declared.windows.Window.{Window}

-- whether a line may or must end after the k-th character, which is one of those from `from` up to `to`
pub record IsBreakIn (marks : List Mark) (from to k : ℕ) : Type 0 where
  pub range : (from ≤ k) × (k < to)
  pub within : k < length marks
  pub breaks : is_break (slice_index_or marks k Never) ≡ true

-- whether line n is the first one, or has a break opportunity at or after its start and before index `len`
abbrev pub IsFirstLine : List ℕ → List Mark → ℕ → ℕ → Type 0
IsFirstLine starts marks len n = (n ≡ 0) ⊎ ((k : ℕ) × IsBreakIn marks (slice_index starts n) len k)

-- a list with one item per character of a paragraph, before and after an edit, has the same items outside the edited characters
pub record StaysOutside {X : Type 0} (edit : Replacement) (old new : List X) : Type 0 where
  pub before : take edit.at new ≡ take edit.at old
  pub after : drop (edit.at + edit.inserted) new ≡ drop (edit.at + edit.removed) old

-- Whether an edit makes a text of a paragraph that is laid out at this width, and changes no level and no break mark outside
-- the edited characters.
pub record IsEditedText (e : Edited) : Type 0 where
  pub laid : e.laid.now ≡ layout_of (with_advances (rules_in e.rules) e.laid.now.advances) e.width e.laid.now.text
  pub laid_levels : length e.laid.now.levels ≡ length e.laid.now.text
  pub laid_marks : length e.laid.now.marks ≡ length e.laid.now.text
  pub edit : IsEdited e.laid.now.text e.text.now e.edit
  pub limits : (length e.laid.now.text ≤ PARAGRAPH_LIMIT) × (length e.text.now ≤ PARAGRAPH_LIMIT)
  pub base : e.base ≡ base_of (rules_in e.rules) e.text.now
  pub levels_stay : StaysOutside e.edit e.laid.now.levels e.levels.now
  pub levels : e.levels.now ≡ levels_of e.rules.tables.now e.text.now e.rules.options.base
  pub levels_len : length e.levels.now ≡ length e.text.now
  pub marks_stay : StaysOutside e.edit e.laid.now.marks e.marks.now
  pub marks : e.marks.now ≡ marks_of e.rules.tables.now e.rules.options.whole_numbers e.text.now
  pub marks_len : length e.marks.now ≡ length e.text.now

-- whether neither the text before the edit nor the one after it is measured, lines are not ordered by clusters, the base
-- level stays, and the edit removes and inserts at least one character
pub record IsRefillable (e : Edited) : Type 0 where
  pub edited : IsEditedText e
  pub same_base : e.laid.now.base ≡ e.base
  pub some : (0 < e.edit.removed) × (0 < e.edit.inserted)
  pub unmeasured : e.laid.now.advances ≡ None
  pub by_characters : e.rules.options.reorder_clusters ≡ false

-- whether the visual lines at both ends are those of the old paragraph
abbrev pub IsShared : Edited → Option (List ℕ) → SharedLines → Type 0
IsShared e advances shared =
    ShareEnds (visuals e.laid.now) (visuals (layout_of (with_advances (rules_in e.rules) advances) e.width e.text.now)) shared.front shared.back

-- where the old lines start
abbrev pub old_starts : Edited → List ℕ
old_starts e = map start_of e.laid.now.lines

-- Lines of a window meet the old lines if a line starts after the edited characters, at a split point, and an old line starts at the
-- same character. The window starts at character `from`, and `starts` are counted from there.
pub record MeetsLine (e : Edited) (from : ℕ) (starts : List ℕ) (m : Meeting) : Type 0 where
  pub line : slice_get starts m.lines ≡ Some m.len
  pub after_edit : e.edit.at + e.edit.inserted < from + m.len
  pub split : is_split_point e.text.now (from + m.len) ≡ true
  pub old_line : slice_get (old_starts e) m.old_line ≡ Some m.old_start
  pub same : m.old_start + e.edit.inserted ≡ from + m.len + e.edit.removed

-- the lines of a window of n characters meet the end of the paragraph
pub record MeetsEnd (e : Edited) (from n : ℕ) (starts : List ℕ) (m : Meeting) : Type 0 where
  pub all : m.lines ≡ length starts
  pub len : m.len ≡ n
  pub «end» : from + n ≡ length e.text.now
  pub old_line : m.old_line ≡ length (old_starts e)
  pub old_start : m.old_start ≡ length e.laid.now.text

abbrev pub Meets : Edited → ℕ → ℕ → List ℕ → Meeting → Type 0
Meets e from n starts m = MeetsLine e from starts m ⊎ MeetsEnd e from n starts m

-- A window begins where filling can begin again, contains the edited characters, and ends after a break opportunity.
pub record IsWindow (e : Edited) (w : Window) : Type 0 where
  pub line : slice_get (old_starts e) w.line ≡ Some w.start
  pub first : IsFirstLine (old_starts e) e.laid.now.marks (e.edit.at - 1) w.line
  pub edit : e.edit.at + e.edit.inserted ≤ w.end
  pub order : w.start ≤ w.end
  pub within : w.end ≤ length e.text.now
  pub breaks : is_break (slice_index_or e.marks.now (w.end - 1) Never) ≡ true

-- what filling needs to know about the characters of a window
abbrev pub window_infos : Edited → Window → List CharInfo
window_infos e w = slice_range (infos_of e.rules.tables.now e.rules.options None e.text.now) w.start w.end

-- The window's line starts are found, and its lines meet the old ones. The infos need not contain the cluster ends.
pub record IsFilled (e : Edited) (w : Window) (infos : List CharInfo) (starts : List ℕ) (m : Meeting) : Type 0 where
  pub alike : AreAlike (take (w.end - w.start) infos) (window_infos e w)
  pub len : w.end - w.start ≤ length infos
  pub starts_are : starts ≡ line_starts_of e.rules.options.nobreak e.width (window_infos e w)
  pub ordered : AreStarts (w.end - w.start) starts
  pub meets : Meets e w.start (w.end - w.start) starts m

-- the lines of the first characters of a window, up to where they meet the old lines
abbrev pub window_lines : Edited → Window → List CharInfo → List ℕ → Meeting → List Line
window_lines e w infos starts m =
    lines_from e.rules.tables.now e.rules.options (margin_of e.rules.options e.width) e.laid.now.base (slice_range e.text.now w.start (w.start + m.len))
    (slice_range e.levels.now w.start (w.start + m.len)) (take m.len infos) (take m.lines starts)
