-- The visual order of the characters of a line (UAX #9, L2 and optionally L3), given their levels after L1.
use Rattle.std.specs.Prelude.{◌≡◌, ℕ, zero, suc, ◌-◌, ◌%◌, ◌<◌, nat_le, ◌==◌, max, Bool, false, ◌&&◌, ◌||◌, not, List, [], ◌∷◌, ◌++◌, length, map, fold, slice_index, Option, Some, None, if◌then◌else◌}
use Rattle.std.specs.List.{list_any, position_or_len, range_with_len}
use Rattle.ucd.specs.declared.bidi_class.BidiClass.{BidiClass}
use Rattle.ucd.specs.Classes.{class_at}
use Rattle.ucd.specs.Least.{least}
use Rattle.ucd.specs.Classes.{is_nonspacing_mark}

-- reverses each maximal interval of items that pass a test; `run` is the current interval, reversed
abbrev pub reverse_runs : (ℕ → Bool) → List ℕ → List ℕ → List ℕ
reverse_runs test run [] = run
reverse_runs test run (i ∷ items) = if test i then reverse_runs test (i ∷ run) items else run ++ i ∷ reverse_runs test [] items

abbrev pub is_odd : ℕ → Bool
is_odd level = level % 2 == 1

module _ (levels : List ℕ) where
  -- whether the character at i is at the given level or higher
  abbrev pub is_at_least : ℕ → ℕ → Bool
  is_at_least level i = nat_le level (slice_index levels i)

  abbrev pub highest : ℕ
  highest = fold max 0 levels

  -- whether a level is odd and occurs in the line
  abbrev pub has_odd : ℕ → Bool
  has_odd level = is_odd level && list_any (λ other. other == level) levels

  -- the lowest odd level in the line, if there is one
  abbrev pub lowest_odd : Option ℕ
  lowest_odd = least has_odd 0 (suc highest)

  -- L2 for `count` levels: for each level from `low + count - 1` down to `low`, reverses the maximal
  -- intervals at that level or higher
  abbrev pub reversed_from : ℕ → ℕ → List ℕ → List ℕ
  reversed_from low zero items = items
  reversed_from low (suc count) items = reverse_runs (is_at_least low) [] (reversed_from (suc low) count items)

  -- the logical positions 0, 1, ..
  abbrev pub places : List ℕ
  places = range_with_len 0 (length levels)

  -- the positions after the intervals have been reversed for each level from the highest down to the lowest
  -- odd level; `None` means that no level is odd
  abbrev pub order_by : Option ℕ → List ℕ
  order_by None = places
  order_by (Some low) = reversed_from low (suc highest - low) places

-- L2: the logical position of each visual position
unfoldable pub order_of : List ℕ → List ℕ
order_of levels = order_by levels (lowest_odd levels)

-- reverses each maximal interval of items that pass a test, together with the item after it; `run` is the current
-- interval, reversed
abbrev pub reverse_with_next : (ℕ → Bool) → List ℕ → List ℕ → List ℕ
reverse_with_next test run [] = run
reverse_with_next test run (i ∷ items) = if test i then reverse_with_next test (i ∷ run) items else i ∷ (run ++ reverse_with_next test [] items)

-- whether a character is a nonspacing mark, according to its class in the tables
abbrev pub is_nonspacing_mark_at : List BidiClass → ℕ → Bool
is_nonspacing_mark_at classes i = is_nonspacing_mark (class_at classes i)

-- the classes of a line, and the levels of its shown part
module _ (classes : List BidiClass) (levels : List ℕ) where
  -- whether the character after i is a nonspacing mark, and both characters are at the same odd level
  abbrev pub precedes_nonspacing_mark : ℕ → Bool
  precedes_nonspacing_mark i = is_nonspacing_mark_at classes (suc i) && (is_odd (slice_index levels i) && (slice_index levels (suc i) == slice_index levels i))

  -- Whether a character is a nonspacing mark with a base. A nonspacing mark has a base if the character before it is at
  -- the same odd level, and is either not a nonspacing mark or a nonspacing mark with a base.
  abbrev pub has_base : ℕ → Bool
  has_base zero = false
  has_base (suc i) = precedes_nonspacing_mark i && (not (is_nonspacing_mark_at classes i) || has_base i)

-- The logical position of each visual position. L2 puts nonspacing marks with a base to the left of the base, in
-- reverse logical order. With `reordernsm`, the nonspacing marks are to the right of the base, in logical order (L3).
unfoldable pub vtol_of : Bool → List BidiClass → List ℕ → List ℕ
vtol_of reordernsm classes levels = if reordernsm then reverse_with_next (has_base classes levels) [] (order_of levels) else order_of levels

-- the visual position of each logical position
unfoldable pub ltov_of : Bool → List BidiClass → List ℕ → List ℕ
ltov_of reordernsm classes levels = map (λ k. position_or_len (λ i. i == k) (vtol_of reordernsm classes levels)) (places levels)

-- `vtol` and `ltov` are permutations of the numbers below n, and each is the inverse of the other
pub record AreInverse (n : ℕ) (vtol ltov : List ℕ) : Type 0 where
  pub ltov_within : (k : ℕ) → k < n → slice_index ltov k < n
  pub vtol_within : (k : ℕ) → k < n → slice_index vtol k < n
  pub at_ltov : (k : ℕ) → k < n → slice_index vtol (slice_index ltov k) ≡ k
  pub at_vtol : (k : ℕ) → k < n → slice_index ltov (slice_index vtol k) ≡ k
