-- What the buffers hold for the lines of a paragraph. The items of each line are at the indices of its
-- characters.
use Rattle.std.specs.Prelude.{◌≡◌, ℕ, Bool, ◌+◌, ◌<◌, ◌≤◌, List, [], ◌∷◌, length, map, take, slice_index, slice_index_or, slice_range}
use Rattle.ucd.specs.Tables.{class_of}
use Rattle.ucd.specs.declared.tables.Tables.{Tables}
use Rattle.ucd.specs.Within.{AreWithin}
use Rattle.lines.specs.Kept.{line_in}
use Rattle.reorder.specs.Mirroring.{visual_chars}
use Rattle.lines.specs.Reordering.{ends_by, ltov_by, vtol_by}
use Rattle.reorder.specs.Spaces.{line_levels}
use Rattle.lines.specs.Visual.{Line, end_of}
use Rattle.lines.specs.declared.options.Options.{Options}
use Rattle.lines.specs.declared.fill.Shown.{Shown}

-- whether the lists hold the levels, position maps and characters of the shown part of a line; `old` holds
-- the line's levels before L1
pub record IsShown (tables : Tables) (options : Options) (base : ℕ) (ends : List Bool) (line old : List ℕ) (part : Shown) (levels ltov vtol chars : List ℕ) : Type 0 where
  pub within : part.len ≤ length line
  pub levels_are : take part.len levels ≡ take part.len (line_levels base (map (class_of tables) line) old)
  pub ltov_is : take part.len ltov ≡ ltov_by options (map (class_of tables) line) ends (take part.len levels)
  pub vtol_is : take part.len vtol ≡ vtol_by options (map (class_of tables) line) ends (take part.len levels)
  pub chars_are : take part.len chars
      ≡ visual_chars tables (take part.len levels) (take part.len line) (vtol_by options (map (class_of tables) line) ends (take part.len levels))
  pub vtol_within : AreWithin part.len (take part.len vtol)

abbrev pub nothing_shown : Shown
nothing_shown = record { len = 0; columns = 0 }

-- the line from s to e with the shown part `part`
module _ (tables : Tables) (options : Options) (base : ℕ) (text levels : List ℕ) where
  abbrev pub line_showing : Shown → ℕ → ℕ → Line
  line_showing part s e =
      let line = slice_range text s e in
      let classes = map (class_of tables) line in
      let ends = slice_range (ends_by options text) s e in
      let part_levels = take part.len (line_levels base classes (slice_range levels s e)) in
      let vtol = vtol_by options classes ends part_levels in
      record {
        start = s;
        columns = part.columns;
        levels = part_levels;
        ltov = ltov_by options classes ends part_levels;
        vtol = vtol;
        chars = visual_chars tables part_levels (take part.len line) vtol;
      }

  -- The lines that start at the given positions, with the given shown parts. Each line ends where the next
  -- one starts, and the last line ends at the end of the paragraph.
  abbrev pub lines_shown : List ℕ → List Shown → List Line
  lines_shown (s ∷ []) (part ∷ parts) = line_showing part s (length text) ∷ []
  lines_shown (s ∷ t ∷ starts) (part ∷ parts) = line_showing part s t ∷ lines_shown (t ∷ starts) parts
  lines_shown starts parts = []

-- the lists hold the shown part of the line from s to e, starting at index s
pub record IsPlaced (tables : Tables) (options : Options) (base : ℕ) (text old : List ℕ) (s e : ℕ) (part : Shown) (levels ltov vtol chars : List ℕ) : Type 0 where
  pub line_is : line_in levels ltov vtol chars s part ≡ line_showing tables options base text old part s e
  pub within : s + part.len ≤ e
  pub vtol_within : AreWithin part.len (slice_range vtol s (s + part.len))

-- the lists hold the shown parts of the first k lines
abbrev pub AreShown : Tables → Options → ℕ → List ℕ → List ℕ → List ℕ → ℕ → List Shown → List ℕ → List ℕ → List ℕ → List ℕ → Type 0
AreShown tables options base text old starts k parts levels ltov vtol chars =
    (j : ℕ) → j < k
    → IsPlaced tables options base text old (slice_index starts j) (end_of (length text) starts j) (slice_index_or parts j nothing_shown) levels ltov vtol chars
