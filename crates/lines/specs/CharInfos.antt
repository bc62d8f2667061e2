-- What filling needs to know about each character of a paragraph.
use Rattle.std.specs.Prelude.{ℕ, ◌+◌, Bool, true, false, List, [], ◌∷◌, Option, None, Some, unwrap_or, if◌then◌else◌}
use Rattle.ucd.specs.Tables.{line_class_of, is_mark_in}
use Rattle.ucd.specs.declared.line_class.LineClass.{LineClass}
use Rattle.ucd.specs.declared.line_class.LineClass.TheVariants.{BK, CR, LF, NL, SP}
use Rattle.ucd.specs.declared.tables.Tables.{Tables}
use Rattle.unicode_width.specs.Width.{char_width}
use Rattle.breaks.specs.Bases.{resolved}
use Rattle.breaks.specs.Classes.{is_one_of}
use Rattle.breaks.specs.Marks.{marks_of}
use Rattle.breaks.specs.declared.mark.Mark.{Mark}
use Rattle.lines.specs.Clusters.{cluster_ends}
use Rattle.lines.specs.Tabs.{is_tab, tab_width_in, to_stop}
use Rattle.lines.specs.declared.char_info.CharInfo.{CharInfo}
use Rattle.lines.specs.declared.char_info.Trailing.{Trailing}
use Rattle.lines.specs.declared.char_info.Trailing.TheVariants.{No, Space, Separator, Tab}
use Rattle.lines.specs.declared.options.Options.{Options}

-- the columns of a character according to the crate `unicode_width`, or 0 if that crate defines no width for it
abbrev pub columns_of : ℕ → ℕ
columns_of c = unwrap_or (char_width false c) 0

-- the size of a character, which determines its width: its columns or, for a tab that moves to a tab stop, the
-- distance between tab stops
abbrev pub size_in : ℕ → ℕ → ℕ
size_in tab_width c = if is_tab tab_width c then tab_width else columns_of c

-- the role in a tail of a character with this class after LB1: SP is a space, and BK, CR, LF and NL are separators;
-- other characters are never in a tail
abbrev pub trailing_by : LineClass → Trailing
trailing_by class = if is_one_of (SP ∷ []) class then Space else if is_one_of (BK ∷ CR ∷ LF ∷ NL ∷ []) class then Separator else No

abbrev pub trailing_in : Tables → ℕ → Trailing
trailing_in t c = trailing_by (resolved (line_class_of t c) (is_mark_in t c))

-- the role of a character in a tail, given the tab width of its line
abbrev pub trailing_with : Tables → ℕ → ℕ → Trailing
trailing_with t tab_width c = if is_tab tab_width c then Tab else trailing_in t c

-- whether a character with this role may be in a tail
abbrev pub may_trail : Trailing → Bool
may_trail No = false
may_trail Tab = false
may_trail other = true

-- whether a character with this role is a space
abbrev pub is_space : Trailing → Bool
is_space Space = true
is_space other = false

-- whether a character with this role moves to a tab stop
abbrev pub moves : Trailing → Bool
moves Tab = true
moves other = false

-- what filling needs to know about a character, given the tab width of its line, the mark after it and whether a grapheme cluster ends
-- after it
abbrev pub info : Tables → ℕ → ℕ → Mark → Bool → CharInfo
info t tab_width c mark ends_cluster = record {
  columns = size_in tab_width c;
  trailing = trailing_with t tab_width c;
  mark = mark;
  ends_cluster = ends_cluster;
}

abbrev pub infos : Tables → ℕ → List ℕ → List Mark → List Bool → List CharInfo
infos t tab_width (c ∷ text) (mark ∷ marks) (ends ∷ clusters) = info t tab_width c mark ends ∷ infos t tab_width text marks clusters
infos t tab_width text marks clusters = []

-- the infos of a measured paragraph: the columns of each character are replaced by its advance, which is in
-- the caller's unit, or by 0 if it has none
abbrev pub measured : List ℕ → List CharInfo → List CharInfo
measured advances [] = []
measured [] (p ∷ infos) = record p { columns = 0 } ∷ measured [] infos
measured (size ∷ advances) (p ∷ infos) = record p { columns = size } ∷ measured advances infos

abbrev pub sized : Option (List ℕ) → List CharInfo → List CharInfo
sized None infos = infos
sized (Some advances) infos = measured advances infos

-- what filling needs to know about the characters of a paragraph, given their advances if the paragraph is measured
unfoldable pub infos_of : Tables → Options → Option (List ℕ) → List ℕ → List CharInfo
infos_of t options advances text =
    sized advances (infos t (tab_width_in t options) text (marks_of t options.whole_numbers text) (cluster_ends text))

-- the columns of a line after one more character, given the columns before that character
abbrev pub advance : ℕ → CharInfo → ℕ
advance column p = column + (if moves p.trailing then to_stop p.columns column else p.columns)
