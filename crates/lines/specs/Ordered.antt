-- Properties of the visual order of a line's characters.
use Rattle.std.specs.Prelude.{◌≡◌, ℕ, suc, ◌+◌, ◌<◌, ◌≤◌, Bool, false, true, ◌⊎◌, List, length, slice_index, All, None}
use Rattle.reorder.specs.Order.{is_odd, AreInverse}
use Rattle.ucd.specs.Classes.{is_nonspacing_mark}
use Rattle.ucd.specs.Tables.{class_of}
use Rattle.lines.specs.CharInfos.{columns_of}
use Rattle.lines.specs.Clusters.{ends_at}
use Rattle.lines.specs.Columns.{columns_between, columns_left}
use Rattle.lines.specs.Layouts.{Rules}
use Rattle.lines.specs.Visual.{Visual}

-- whether the lists of a line have an item for each shown character, and its position maps are inverses of
-- each other
pub record IsOrdered (line : Visual) : Type 0 where
  pub text : length line.text ≡ length line.levels
  pub vtol : length line.vtol ≡ length line.levels
  pub ltov : length line.ltov ≡ length line.levels
  pub inverse : AreInverse (length line.levels) line.vtol line.ltov
  pub within : length line.levels ≤ line.len

-- whether nonspacing marks (class NSM) stay where L2 puts them, or the paragraph is not measured and its nonspacing
-- marks occupy no columns
abbrev pub MarksStay : Rules → List ℕ → Type 0
MarksStay rules text =
    (rules.options.reordernsm ≡ false) ⊎ ((rules.advances ≡ None) × All (λ c. is_nonspacing_mark (class_of rules.tables c) ≡ true → columns_of c ≡ 0) text)

-- two characters of one level run, both of which occupy columns
pub record AreInRun (line : Visual) (j k : ℕ) : Type 0 where
  pub order : j ≤ k
  pub within : k < length line.levels
  pub level : (i : ℕ) → j ≤ i → i ≤ k → slice_index line.levels i ≡ slice_index line.levels j
  pub first : 0 < columns_between line j (suc j)
  pub last : 0 < columns_between line k (suc k)

-- Whether the characters of each level run are next to each other, from left to right at an even level, and from right
-- to left at an odd one. So the distance between the leading edges of two of these characters is the total width of
-- the characters from the first up to the second.
pub record RunsAdjoin (line : Visual) : Type 0 where
  pub even : (j k : ℕ) → AreInRun line j k → is_odd (slice_index line.levels j) ≡ false
      → columns_left line (slice_index line.ltov k) ≡ columns_left line (slice_index line.ltov j) + columns_between line j k
  pub odd : (j k : ℕ) → AreInRun line j k → is_odd (slice_index line.levels j) ≡ true
      → columns_left line (slice_index line.ltov k + 1) + columns_between line j k ≡ columns_left line (slice_index line.ltov j + 1)

-- Whether the characters of each level run at an even level are adjacent, in logical order from left to
-- right. In a level run at an odd level, the same holds for the characters of each cluster. `ends` says after
-- which characters of the paragraph a cluster ends. The line starts at position `start` of the paragraph.
pub record ClustersAdjoin (line : Visual) (ends : List Bool) (start : ℕ) : Type 0 where
  pub even : (j k : ℕ) → AreInRun line j k → is_odd (slice_index line.levels j) ≡ false
      → columns_left line (slice_index line.ltov k) ≡ columns_left line (slice_index line.ltov j) + columns_between line j k
  pub odd : (j k : ℕ) → AreInRun line j k → is_odd (slice_index line.levels j) ≡ true → ((i : ℕ) → j ≤ i → i < k → ends_at ends (start + i) ≡ false)
      → columns_left line (slice_index line.ltov k) ≡ columns_left line (slice_index line.ltov j) + columns_between line j k
