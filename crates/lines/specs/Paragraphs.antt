-- What is known about a paragraph, or about one of its lines, before the lines are reordered. No contract of
-- an exported function uses these definitions.
use Rattle.std.specs.Prelude.{◌≡◌, ℕ, ◌+◌, ◌-◌, ◌<◌, ◌≤◌, List, length, map, take, drop, Option, None, option_map, slice_index, slice_index_or, slice_range}
use Rattle.ucd.specs.Properties.{properties_of}
use Rattle.ucd.specs.Tables.{class_of}
use Rattle.reorder.specs.Spaces.{line_levels}
use Rattle.bidi.specs.Levels.{levels_of}
use Rattle.breaks.specs.Marks.{marks_of}
use Rattle.lines.specs.Asked.{visual_part}
use Rattle.lines.specs.CharInfos.{infos_of}
use Rattle.lines.specs.Extents.{LineExtents}
use Rattle.lines.specs.Filling.{line_starts_of}
use Rattle.lines.specs.Layouts.{HaveRoom, Rules, base_of, unmeasured, with_advances}
use Rattle.lines.specs.Reordering.{ends_by}
use Rattle.lines.specs.Showing.{nothing_shown}
use Rattle.lines.specs.ShownParts.{margin_of}
use Rattle.lines.specs.Tabs.{tab_width_in}
use Rattle.lines.specs.Visual.{Line, Visual, end_of, lines_from}
use Rattle.lines.specs.declared.buffers.VisualBuffers.{VisualBuffers}
use Rattle.lines.specs.declared.engine.TheConstants.{PARAGRAPH_LIMIT}
use Rattle.lines.specs.declared.paragraph.LentRules.{LentRules}
use Rattle.lines.specs.declared.paragraph.LineSlice.{LineSlice}
use Rattle.lines.specs.declared.paragraph.LogicalLine.{LogicalLine}
use Rattle.lines.specs.declared.paragraph.Paragraph.{Paragraph}
use Rattle.lines.specs.declared.paragraph.Text.{Text}

abbrev pub rules_in : LentRules → Rules
rules_in rules = unmeasured rules.tables.now rules.options

-- whether `properties` holds the properties of the text's characters
abbrev pub IsLookedUp : Text → Type 0
IsLookedUp text = text.properties.now ≡ map (properties_of text.rules.tables.now) text.characters.now

-- whether `ends` holds the paragraph's cluster ends if its lines are ordered by clusters, and is empty
-- otherwise
abbrev pub HasEnds : Text → Type 0
HasEnds text = text.ends.now ≡ ends_by text.rules.options text.characters.now

-- whether a slice is line k of a text that has these extents
pub record IsLineAt (text : Text) (extents : LineExtents) (k : ℕ) (line : LineSlice) : Type 0 where
  pub start : line.start ≡ slice_index extents.starts k
  pub end : line.end ≡ end_of (length text.characters.now) extents.starts k
  pub order : line.start < line.end
  pub within : line.end ≤ length text.characters.now
  pub rules : line.text.rules ≡ text.rules
  pub base : line.text.base ≡ text.base
  pub characters : line.text.characters.now ≡ slice_range text.characters.now line.start line.end
  pub len : length line.text.characters.now ≡ line.end - line.start
  pub looked_up : IsLookedUp line.text
  pub ends : line.text.ends.now ≡ slice_range (ends_by text.rules.options text.characters.now) line.start line.end
  pub shown : line.shown ≡ slice_index_or extents.shown k nothing_shown
  pub shown_within : line.start + line.shown.len ≤ line.end

-- whether the properties, cluster ends and base level of a text are those of its characters, and `levels` are
-- their levels before L1; the text has at most `PARAGRAPH_LIMIT` characters
pub record IsResolved (text : Text) (levels : List ℕ) : Type 0 where
  pub looked_up : IsLookedUp text
  pub ends : HasEnds text
  pub limit : length text.characters.now ≤ PARAGRAPH_LIMIT
  pub base : text.base ≡ base_of (rules_in text.rules) text.characters.now
  pub levels_are : levels ≡ levels_of text.rules.tables.now text.characters.now text.rules.options.base
  pub len : length levels ≡ length text.characters.now

-- the advances of a paragraph, if it is measured
abbrev pub advances_in : Paragraph → Option (List ℕ)
advances_in paragraph = option_map (λ advances. advances.now) paragraph.advances

-- the rules for a paragraph
abbrev pub rules_by : Paragraph → Rules
rules_by paragraph = with_advances (rules_in paragraph.text.rules) (advances_in paragraph)

-- whether the base level, the levels before L1 and the break marks of a paragraph follow from its text, and
-- its advances, if any, add up to less than 2^32
pub record IsPrepared (paragraph : Paragraph) : Type 0 where
  pub text : IsResolved paragraph.text paragraph.levels.now
  pub room : HaveRoom (advances_in paragraph)
  pub marks : paragraph.marks.now ≡ marks_of paragraph.text.rules.tables.now paragraph.text.rules.options.whole_numbers paragraph.text.characters.now

-- the lines of a text at a width, given the levels of its characters before L1, and their advances if the
-- text is measured
abbrev pub lines_at : Option (List ℕ) → Text → List ℕ → ℕ → List Line
lines_at advances text levels width =
    let tables = text.rules.tables.now in
    let options = text.rules.options in
    let infos = infos_of tables options advances text.characters.now in
    lines_from tables options (margin_of options width) text.base text.characters.now levels infos (line_starts_of options.nobreak width infos)

-- the visual line of a logical line, given the levels after L1 of its shown part
abbrev pub shown_by : LogicalLine → List ℕ → Visual
shown_by line levels =
    visual_part line.text.rules.tables.now line.text.rules.options line.text.base line.is_first line.text.characters.now line.text.ends.now line.shown.columns levels

-- the levels after L1 of a line's shown part
abbrev pub shown_levels : LogicalLine → List ℕ
shown_levels line =
    take line.shown.len (line_levels line.text.base (map (class_of line.text.rules.tables.now) line.text.characters.now) line.levels.now)

-- the visual line of a logical line
abbrev pub shown_of : LogicalLine → Visual
shown_of line = shown_by line (shown_levels line)

-- the visual line at the front of the buffers; `maps` holds its ltov and then its vtol
abbrev pub held_line : LogicalLine → VisualBuffers → Visual
held_line line visual =
    let n = line.shown.len in
    let levels = take n visual.levels.items in
    record {
      is_first = line.is_first;
      base = line.text.base;
      tab_width = tab_width_in line.text.rules.tables.now line.text.rules.options;
      len = length line.text.characters.now;
      text = take (length levels) line.text.characters.now;
      advances = None;
      columns = line.shown.columns;
      levels = levels;
      ltov = take n visual.maps.items;
      vtol = take n (drop n visual.maps.items);
      chars = take n visual.chars.items;
    }
