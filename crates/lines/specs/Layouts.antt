-- The layout of a paragraph.
use Rattle.std.specs.Prelude.{◌≡◌, ℕ, ◌+◌, ◌^◌, ◌<◌, ◌≤◌, nat_le, sum, IfSome, Bool, false, ◌&&◌, not, List, [], ◌∷◌, length, map, slice_get, slice_index, All, Option, None}
use Rattle.std.specs.List.{enumerate_from}
use Rattle.std.specs.Option.{option_map_or}
use Rattle.ucd.specs.Tables.{class_of}
use Rattle.ucd.specs.declared.tables.Tables.{Tables}
use Rattle.bidi.specs.Base.{base_level_of}
use Rattle.bidi.specs.Cuts.{cut, paragraphs}
use Rattle.bidi.specs.Levels.{levels_of}
use Rattle.breaks.specs.Marks.{marks_of}
use Rattle.breaks.specs.declared.mark.Mark.{Mark}
use Rattle.lines.specs.Filling.{line_starts_of}
use Rattle.lines.specs.CharInfos.{infos_of, is_space, trailing_with}
use Rattle.lines.specs.Reordering.{ends_by}
use Rattle.lines.specs.ShownParts.{margin_of}
use Rattle.lines.specs.Tabs.{tab_width_in}
use Rattle.lines.specs.Visual.{Line, Visual, lines_from, visual_of}
use Rattle.lines.specs.Widths.{sizes_of, width_from}
use Rattle.lines.specs.declared.engine.TheConstants.{PARAGRAPH_LIMIT}
use Rattle.lines.specs.declared.options.Options.{Options}

-- what a layout depends on, besides the text and the width: the tables and the options, and in a measured paragraph the advances of its
-- characters
pub record Rules : Type 0 where
  pub tables : Tables
  pub options : Options
  pub advances : Option (List ℕ)

-- the rules for a paragraph that is not measured
abbrev pub unmeasured : Tables → Options → Rules
unmeasured tables options = record { tables = tables; options = options; advances = None }

-- the same rules for a paragraph with these advances
abbrev pub with_advances : Rules → Option (List ℕ) → Rules
with_advances rules advances = record rules { advances = advances }

-- whether the advances of a paragraph, if it is measured, add up to less than 2^32
abbrev pub HaveRoom : Option (List ℕ) → Type 0
HaveRoom advances = IfSome advances (λ list. sum list < 2 ^ 32)

-- the layout of a paragraph; `advances` is `None` if it is not measured, and `ends` is empty if its lines are
-- not ordered by clusters
pub record Layout : Type 0 where
  pub text : List ℕ
  pub advances : Option (List ℕ)
  pub base : ℕ
  pub tab_width : ℕ
  pub levels : List ℕ
  pub marks : List Mark
  pub ends : List Bool
  pub lines : List Line

abbrev pub base_of : Rules → List ℕ → ℕ
base_of rules text = base_level_of (map (class_of rules.tables) text) rules.options.base

abbrev pub lines_of : Rules → ℕ → List ℕ → List Line
lines_of rules width text =
    let infos = infos_of rules.tables rules.options rules.advances text in
    lines_from rules.tables rules.options (margin_of rules.options width) (base_of rules text) text (levels_of rules.tables text rules.options.base) infos (line_starts_of rules.options.nobreak width infos)

-- the fresh layout of a paragraph: the one that follows from its text, the rules and the width alone
abbrev pub layout_of : Rules → ℕ → List ℕ → Layout
layout_of rules width text = record {
  text = text;
  advances = rules.advances;
  base = base_of rules text;
  tab_width = tab_width_in rules.tables rules.options;
  levels = levels_of rules.tables text rules.options.base;
  marks = marks_of rules.tables rules.options.whole_numbers text;
  ends = ends_by rules.options text;
  lines = lines_of rules width text;
}

-- the visual lines of a layout
abbrev pub visuals : Layout → List Visual
visuals layout = map (λ nth. visual_of layout.base layout.tab_width layout.advances layout.text layout.lines nth.0 nth.1) (enumerate_from 0 layout.lines)

-- the lines of a paragraph, and the paragraph's length in characters
pub record Filled : Type 0 where
  pub lines : List Line
  pub len : ℕ

abbrev pub fill_of : Rules → ℕ → List ℕ → Filled
fill_of rules width text = record { lines = lines_of rules width text; len = length text }

abbrev pub start_of : Line → ℕ
start_of line = line.start

-- whether the shown part of each line is within the first n characters
abbrev pub AreWithin : ℕ → List Line → Type 0
AreWithin n lines = All (λ line. line.start + length line.levels ≤ n) lines

-- whether there is exactly one line, and it is no wider than the width
abbrev pub is_line_within : ℕ → List Line → Bool
is_line_within width (line ∷ []) = nat_le line.columns width
is_line_within width lines = false

-- whether the first hidden character of a paragraph's first line is a space that would also fit in the width
abbrev pub hides_space_within : Tables → ℕ → Option (List ℕ) → ℕ → List ℕ → Line → Bool
hides_space_within tables tab_width advances width text line =
    let size = slice_index (sizes_of tab_width advances text) (length line.levels) in
    option_map_or (λ c. is_space (trailing_with tables tab_width c) && nat_le (line.columns + width_from tab_width line.columns c size) width)
    (slice_get text (length line.levels)) false

-- whether a paragraph keeps its lines at a width: it has one line, which fits and, if spaces are shown, hides none that
-- would fit
abbrev pub keeps_lines : Rules → ℕ → Layout → Bool
keeps_lines rules width layout =
    is_line_within width layout.lines
    && not (rules.options.show_spaces && option_map_or (hides_space_within rules.tables layout.tab_width layout.advances width layout.text) (slice_get layout.lines 0) false)

-- whether there is a paragraph boundary between two adjacent characters
abbrev pub cut_by : Rules → ℕ → ℕ → Bool
cut_by rules = cut (class_of rules.tables)

-- whether a text is one paragraph of at most `PARAGRAPH_LIMIT` characters
pub record IsParagraph (rules : Rules) (text : List ℕ) : Type 0 where
  pub whole : paragraphs (cut_by rules) text ≡ text ∷ []
  pub within : length text ≤ PARAGRAPH_LIMIT

-- whether a layout is the fresh layout, at some width, of a text that is one paragraph
pub record IsLaidOut (rules : Rules) (layout : Layout) : Type 0 where
  pub width : ℕ
  pub paragraph : IsParagraph rules layout.text
  pub from_scratch : layout ≡ layout_of rules width layout.text

-- whether a layout is the fresh layout, at this width, of a text that is one paragraph
pub record IsLaidAt (rules : Rules) (width : ℕ) (layout : Layout) : Type 0 where
  pub paragraph : IsParagraph rules layout.text
  pub from_scratch : layout ≡ layout_of rules width layout.text

-- whether the lines are those of a text at some width
pub record AreLinesOf (rules : Rules) (text : List ℕ) (fill : Filled) : Type 0 where
  pub width : ℕ
  pub from_scratch : fill ≡ fill_of rules width text

-- A layout and a fill exchange their lines. If both have the same text and rules, the layout then has the
-- lines at the fill's width, and the fill has those at the layout's width.
pub record Exchanges (old new : Layout) (fill_old fill_new : Filled) : Type 0 where
  pub put : new ≡ record old { lines = fill_old.lines }
  pub taken : fill_new ≡ record { lines = old.lines; len = length old.text }
  pub widths : (rules : Rules) (width other : ℕ) → old ≡ layout_of rules width old.text → fill_old ≡ fill_of rules other old.text
      → (new ≡ layout_of rules other old.text) × (fill_new ≡ fill_of rules width old.text)
  pub stay : (rules : Rules) → IsLaidOut rules old → AreLinesOf rules old.text fill_old → IsLaidOut rules new × AreLinesOf rules new.text fill_new

-- The visible state of an engine: its rules, and three counts of characters: those analysed, those filled
-- into lines, and those whose lines were written.
pub record EngineState : Type 0 where
  pub rules : Rules
  pub analysed : ℕ
  pub filled : ℕ
  pub written : ℕ
