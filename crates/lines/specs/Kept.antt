-- How the lines of a paragraph are stored: in lists of the paragraph's length, where the items of a line
-- start at the index of its first character. One list holds both position maps, one after the other.
use Rattle.std.specs.Prelude.{◌≡◌, ℕ, ◌+◌, ◌*◌, ◌<◌, ◌≤◌, List, [], ◌∷◌, length, take, drop, slice_index, slice_index_or, slice_range, All}
use Rattle.ucd.specs.Within.{AreWithin}
use Rattle.lines.specs.Visual.{Line}
use Rattle.lines.specs.declared.fill.Shown.{Shown}

-- the stored lines, given where they start and how much of each is shown
module _ (levels ltov vtol chars : List ℕ) where
  abbrev pub line_in : ℕ → Shown → Line
  line_in s shown = record {
    start = s;
    columns = shown.columns;
    levels = slice_range levels s (s + shown.len);
    ltov = slice_range ltov s (s + shown.len);
    vtol = slice_range vtol s (s + shown.len);
    chars = slice_range chars s (s + shown.len);
  }

  abbrev pub lines_by : List ℕ → List Shown → List Line
  lines_by (s ∷ starts) (shown ∷ others) = line_in s shown ∷ lines_by starts others
  lines_by starts others = []

-- the first half of `maps` is ltov, and the second half is vtol
abbrev pub lines_in : List ℕ → List Shown → List ℕ → List ℕ → List ℕ → List Line
lines_in starts shown levels maps chars = lines_by levels (take (length levels) maps) (drop (length levels) maps) chars starts shown

-- `shown` has one item per line, `levels` and `chars` have one per character, and `maps` has two per
-- character. The shown part of each line is inside the lists.
pub record IsSound (starts : List ℕ) (shown : List Shown) (levels maps chars : List ℕ) : Type 0 where
  pub all_shown : length shown ≡ length starts
  pub maps_len : length maps ≡ 2 * length levels
  pub chars_len : length chars ≡ length levels
  pub places : All (λ line. AreWithin (length line.levels) line.vtol) (lines_in starts shown levels maps chars)
  pub within : (k : ℕ) → k < length starts → slice_index starts k + (slice_index_or shown k (record { len = 0; columns = 0 })).len ≤ length levels

-- the line starts increase, and each is below n, the length of the paragraph
pub record AreStarts (n : ℕ) (starts : List ℕ) : Type 0 where
  pub below : (k : ℕ) → k < length starts → slice_index starts k < n
  pub rising : (k : ℕ) → k + 1 < length starts → slice_index starts k < slice_index starts (k + 1)
