-- The lines of a paragraph as they are shown: the order, the levels and the characters of each line's shown part.
use Rattle.std.specs.Prelude.{ℕ, zero, suc, ◌+◌, ◌-◌, ◌==◌, Bool, List, [], ◌∷◌, length, map, take, slice_range, Option, option_map}
use Rattle.std.specs.Option.{is_some}
use Rattle.ucd.specs.Tables.{class_of}
use Rattle.ucd.specs.declared.tables.Tables.{Tables}
use Rattle.lines.specs.Filling.{columns}
use Rattle.lines.specs.ShownParts.{shown}
use Rattle.reorder.specs.Mirroring.{visual_chars}
use Rattle.lines.specs.Reordering.{ends_by, ltov_by, vtol_by}
use Rattle.reorder.specs.Spaces.{line_levels}
use Rattle.lines.specs.declared.options.Options.{Options}
use Rattle.lines.specs.declared.char_info.CharInfo.{CharInfo}

-- A line of a paragraph: where it starts, and its shown part. `levels` are the levels after L1 in logical order, and
-- `ltov` and `vtol` are the position maps. `chars` are the characters in visual order, mirrored. Positions are counted
-- from the start of the line.
pub record Line : Type 0 where
  pub start : ℕ
  pub columns : ℕ
  pub levels : List ℕ
  pub ltov : List ℕ
  pub vtol : List ℕ
  pub chars : List ℕ

-- the lines of a paragraph, given the margin up to which spaces are shown, its base level, its levels before
-- L1, and the `CharInfo`s of its characters
module _ (tables : Tables) (options : Options) (margin : Option ℕ) (base : ℕ) (text levels : List ℕ) (infos : List CharInfo) where
  -- L1 is applied to the whole line from s to e, and L2, L3 and L4 to its shown part
  abbrev pub line_between : ℕ → ℕ → Line
  line_between s e =
      let part = shown margin (slice_range infos s e) in
      let line = slice_range text s e in
      let classes = map (class_of tables) line in
      let ends = slice_range (ends_by options text) s e in
      let part_levels = take (length part) (line_levels base classes (slice_range levels s e)) in
      let vtol = vtol_by options classes ends part_levels in
      record {
        start = s;
        columns = columns part;
        levels = part_levels;
        ltov = ltov_by options classes ends part_levels;
        vtol = vtol;
        chars = visual_chars tables part_levels (take (length part) line) vtol;
      }

  -- The lines that start at the given positions. Each line ends where the next one starts, and the last line
  -- ends at the end of the paragraph.
  abbrev pub lines_from : List ℕ → List Line
  lines_from [] = []
  lines_from (s ∷ []) = line_between s (length text) ∷ []
  lines_from (s ∷ t ∷ starts) = line_between s t ∷ lines_from (t ∷ starts)

-- where line k ends, in a paragraph of n characters whose lines start at these positions
abbrev pub end_of : ℕ → List ℕ → ℕ → ℕ
end_of n [] k = n
end_of n (s ∷ []) k = n
end_of n (s ∷ t ∷ starts) zero = t
end_of n (s ∷ t ∷ starts) (suc k) = end_of n (t ∷ starts) k

-- A visual line: whether it is the first of its paragraph, the base level, the tab width, the length including the
-- tail, and the shown part. `text` holds the shown characters in logical order, and `advances` holds their advances if
-- the paragraph is measured.
pub record Visual : Type 0 where
  pub is_first : Bool
  pub base : ℕ
  pub tab_width : ℕ
  pub len : ℕ
  pub text : List ℕ
  pub advances : Option (List ℕ)
  pub columns : ℕ
  pub levels : List ℕ
  pub ltov : List ℕ
  pub vtol : List ℕ
  pub chars : List ℕ

-- whether the paragraph of a line is measured
abbrev pub is_measured : Visual → Bool
is_measured line = is_some line.advances

-- the visual line of the n-th line of a paragraph
abbrev pub visual_of : ℕ → ℕ → Option (List ℕ) → List ℕ → List Line → ℕ → Line → Visual
visual_of base tab_width advances text lines n line = record {
  is_first = n == 0;
  base = base;
  tab_width = tab_width;
  len = end_of (length text) (map (λ other. other.start) lines) n - line.start;
  text = slice_range text line.start (line.start + length line.levels);
  advances = option_map (λ a. slice_range a line.start (line.start + length line.levels)) advances;
  columns = line.columns;
  levels = line.levels;
  ltov = line.ltov;
  vtol = line.vtol;
  chars = line.chars;
}
