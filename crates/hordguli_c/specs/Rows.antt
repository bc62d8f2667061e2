-- Rows: ranges of a paragraph that the caller has chosen, each laid out as one line. The levels of a row are
-- taken from its paragraph, before L1. All characters of a row are shown, including those at its end.
use Rattle.std.specs.Prelude.{◌≡◌, ℕ, ◌<◌, ◌≤◌, ◌⊎◌, ◌&&◌, true, Bool, List, length, map, All}
use Rattle.std.specs.Char.{IsScalar}
use Rattle.ucd.specs.Tables.{class_of}
use Rattle.ucd.specs.Within.{AreWithin}
use Rattle.ucd.specs.declared.tables.Tables.{Tables}
use Rattle.reorder.specs.Mirroring.{visual_chars}
use Rattle.lines.specs.Reordering.{ends_by, ltov_by, vtol_by}
use Rattle.lines.specs.Visual.{Line}
use Rattle.lines.specs.declared.options.Options.{Options}
use Rattle.reorder.specs.Spaces.{line_levels}
use Rattle.hordguli_c.specs.Arrays.{has_room, put_if, PutsItems}
use Rattle.hordguli_c.specs.Calls.{Given, OrNoMemory}
use Rattle.hordguli_c.specs.Options.{has_bit}
use Rattle.hordguli_c.specs.Runs.{runs_out}
use Rattle.hordguli_c.specs.declared.row_calls.LaidRow.{LaidRow}
use Rattle.hordguli_c.specs.declared.runs.RunOut.{RunOut}
use Rattle.hordguli_c.specs.declared.status.Status.{Status}
use Rattle.hordguli_c.specs.declared.status.Status.TheVariants as is

-- Whether the base level of a row, its levels before L1 and its length are in range, with one level per
-- character. Explicit levels are at most 125 (UAX #9, BD2), and I1 and I2 add at most 1 to each. Positions in
-- a row have 32 bits.
pub record IsRow (base : ℕ) (text levels : List ℕ) : Type 0 where
  pub base_is : base ≤ 1
  pub levels_are : All (λ level. level ≤ 126) levels
  pub same : length levels ≡ length text
  pub few : length text ≤ 4294967295

-- a row in visual order: the levels after L1 in logical order, the position maps, and the characters in visual order,
-- mirrored
pub record Row : Type 0 where
  pub levels : List ℕ
  pub ltov : List ℕ
  pub vtol : List ℕ
  pub chars : List ℕ

-- the levels, the maps and the characters of a session's line
abbrev pub row_in_line : Line → Row
row_in_line line = record { levels = line.levels; ltov = line.ltov; vtol = line.vtol; chars = line.chars }

-- the levels of a row after L1, which treats the row as a line: white space at the row's end gets the base
-- level
unfoldable pub row_levels : Tables → ℕ → List ℕ → List ℕ → List ℕ
row_levels tables base text levels = line_levels base (map (class_of tables) text) levels

-- the position maps: L2, then L3 if the options request it, for the clusters of the row's own characters or
-- for marks
abbrev pub row_vtol : Tables → Options → List ℕ → List ℕ → List ℕ
row_vtol tables options text levels = vtol_by options (map (class_of tables) text) (ends_by options text) levels

abbrev pub row_ltov : Tables → Options → List ℕ → List ℕ → List ℕ
row_ltov tables options text levels = ltov_by options (map (class_of tables) text) (ends_by options text) levels

-- a row in visual order, given its levels after L1: applies L2, L3 and L4
abbrev pub row_by : Tables → Options → List ℕ → List ℕ → Row
row_by tables options text levels =
    let vtol = row_vtol tables options text levels in
    record {
      levels = levels;
      ltov = row_ltov tables options text levels;
      vtol = vtol;
      chars = visual_chars tables levels text vtol;
    }

abbrev pub row_of : Tables → Options → ℕ → List ℕ → List ℕ → Row
row_of tables options base text levels = row_by tables options text (row_levels tables base text levels)

-- the levels and the position maps of a `LaidRow` are as long as its text
pub record IsSized (row : LaidRow) : Type 0 where
  pub levels_len : length row.levels.items ≡ length row.text.items
  pub ltov_len : length row.ltov.items ≡ length row.text.items
  pub vtol_len : length row.vtol.items ≡ length row.text.items
  pub within : AreWithin (length row.text.items) row.vtol.items

abbrev pub row_in : Tables → LaidRow → Row
row_in tables row = record {
  levels = row.levels.items;
  ltov = row.ltov.items;
  vtol = row.vtol.items;
  chars = visual_chars tables row.levels.items row.text.items row.vtol.items;
}

pub record IsLaid (tables : Tables) (options : Options) (base : ℕ) (text levels : List ℕ) (row : LaidRow) : Type 0 where
  pub text_is : row.text.items ≡ text
  pub row_is : row_in tables row ≡ row_of tables options base text levels
  pub sized : IsSized row

pub record RowArrays : Type 0 where
  pub visual : List ℕ
  pub levels : List ℕ
  pub ltov : List ℕ
  pub vtol : List ℕ

-- the arrays after the requested lists of a row were copied to them
abbrev pub row_put : ℕ → Row → RowArrays → RowArrays
row_put wanted row arrays = record {
  visual = put_if (has_bit wanted 1) row.chars arrays.visual;
  levels = put_if (has_bit wanted 2) row.levels arrays.levels;
  ltov = put_if (has_bit wanted 4) row.ltov arrays.ltov;
  vtol = put_if (has_bit wanted 8) row.vtol arrays.vtol;
}

-- whether `len` elements fit in each requested array
abbrev pub row_fits : ℕ → ℕ → RowArrays → Bool
row_fits wanted len arrays =
    has_room (has_bit wanted 1) len (length arrays.visual)
    && has_room (has_bit wanted 2) len (length arrays.levels)
    && has_room (has_bit wanted 4) len (length arrays.ltov)
    && has_room (has_bit wanted 8) len (length arrays.vtol)

-- A call on a row succeeds only if all numbers are characters, and its base level, levels and length are in
-- range. The call may allocate if there is at least one character.
abbrev pub OfRow : ℕ → List ℕ → List ℕ → Status → Type 0 → Type 0 → Type 0
OfRow base text levels status unchanged done =
    Given (All IsScalar text) is.NotACharacter status unchanged
    (Given (IsRow base text levels) is.OutOfRange status unchanged
    (OrNoMemory (0 < length text) status unchanged done))

-- the status of a failed call on a row: a number is not a scalar value, the row is out of range, or an
-- allocation failed
abbrev pub RowNot : ℕ → List ℕ → List ℕ → Status → Type 0
RowNot base text levels status =
    ((¬ All IsScalar text) × (status ≡ is.NotACharacter))
    ⊎ ((All IsScalar text × (¬ IsRow base text levels) × (status ≡ is.OutOfRange))
    ⊎ (All IsScalar text × IsRow base text levels × (status ≡ is.NoMemory) × (0 < length text)))

-- the requested arrays of a row are written, if all of them are large enough and the row is accepted
abbrev pub PutsRow : ℕ → ℕ → List ℕ → List ℕ → Options → Status → Tables → RowArrays → RowArrays → Type 0
PutsRow wanted base text levels options status tables old new =
    Given (row_fits wanted (length text) old ≡ true) is.NoRoom status (new ≡ old)
    (OfRow base text levels status (new ≡ old)
    ((status ≡ is.Ok) × (new ≡ row_put wanted (row_of tables options base text levels) old)))

-- the runs of a row are stored, if the row is accepted
abbrev pub PutsRowRuns : ℕ → List ℕ → List ℕ → Status → Tables → List RunOut × ℕ → List RunOut × ℕ → Type 0
PutsRowRuns base text levels status tables old new =
    OfRow base text levels status (new ≡ old) (PutsItems (runs_out (row_levels tables base text levels)) status old new)
