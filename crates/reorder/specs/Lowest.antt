-- Which of two characters L2 puts to the left. The lowest level between them determines this. No public
-- contract uses these definitions.
use Rattle.std.specs.Prelude.{◌≡◌, ◌≢◌, ℕ, ◌-◌, ◌<◌, ◌≤◌, Bool, true, false, List, length, slice_index, Option, Some, None, ◌⊎◌}
use Rattle.reorder.specs.Order.{is_odd}

module _ (levels : List ℕ) where
  -- `low` is the lowest level of the characters from `start` up to and including `last`
  pub record IsLowest (start last low : ℕ) : Type 0 where
    pub all : (k : ℕ) → start ≤ k → k ≤ last → low ≤ slice_index levels k
    pub at : ℕ
    pub from : start ≤ at
    pub to : at ≤ last
    pub is : slice_index levels at ≡ low

  -- x is before y in the text, and the lowest level from x to y does not reverse their order
  pub record IsKept (turns : ℕ → Bool) (x y : ℕ) : Type 0 where
    pub before : x < y
    pub low : ℕ
    pub lowest : IsLowest x y low
    pub even : turns low ≡ false

  -- x is after y in the text, and the lowest level from y to x reverses their order
  pub record IsTurned (turns : ℕ → Bool) (x y : ℕ) : Type 0 where
    pub after : y < x
    pub low : ℕ
    pub lowest : IsLowest y x low
    pub odd : turns low ≡ true

  abbrev pub IsLeftBy : (ℕ → Bool) → ℕ → ℕ → Type 0
  IsLeftBy turns x y = IsKept turns x y ⊎ IsTurned turns x y

  -- Whether L2 puts x to the left of y. L2 reverses both together, once for each level up to the lowest level
  -- between them, so their order changes if that lowest level is odd.
  abbrev pub IsLeft : ℕ → ℕ → Type 0
  IsLeft = IsLeftBy is_odd

  -- the characters from `start` up to and including `last` are at the given level or higher
  abbrev pub AreAtLeast : ℕ → ℕ → ℕ → Type 0
  AreAtLeast level start last = (k : ℕ) → start ≤ k → k ≤ last → level ≤ slice_index levels k

  -- the characters from `start` up to and including `last` are above the given level
  abbrev pub AreAbove : ℕ → ℕ → ℕ → Type 0
  AreAbove level start last = (k : ℕ) → start ≤ k → k ≤ last → level < slice_index levels k

  -- `next` is the character directly to the right of `place`
  pub record IsRightOf (place next : ℕ) : Type 0 where
    pub within : next < length levels
    pub after : IsLeft place next
    pub first : (k : ℕ) → k < length levels → IsLeft place k → k ≢ next → IsLeft next k

  -- the character directly to the right of `place`, or `None` if all other characters are to the left of
  -- `place`
  abbrev pub IsNext : ℕ → Option ℕ → Type 0
  IsNext place None = (k : ℕ) → k < length levels → k ≢ place → IsLeft k place
  IsNext place (Some next) = IsRightOf place next

  -- `first` is the leftmost of the characters from `start` on, up to the first one below the level.
  pub record IsLeftmostOn (level start first : ℕ) : Type 0 where
    pub from : start ≤ first
    pub within : first < length levels
    pub high : AreAtLeast level start first
    pub leftmost : (k : ℕ) → start ≤ k → k < length levels → AreAtLeast level start k → k ≢ first → IsLeft first k

  -- `first` is the leftmost of the characters directly before `end` that are at the level or higher.
  pub record IsLeftmostBack (level end first : ℕ) : Type 0 where
    pub before : first < end
    pub high : AreAtLeast level first (end - 1)
    pub leftmost : (k : ℕ) → k < end → AreAtLeast level k (end - 1) → k ≢ first → IsLeft first k

  -- The characters from `start` up to `end`, including `place`, are at the given level or higher, and `place`
  -- is the rightmost of them. This range includes all characters above the level that adjoin `place`.
  pub record IsPassed (place level start end : ℕ) : Type 0 where
    pub from : start ≤ place
    pub to : place < end
    pub within : end ≤ length levels
    pub high : (k : ℕ) → start ≤ k → k < end → level ≤ slice_index levels k
    pub left : (k : ℕ) → start ≤ k → k < end → k ≢ place → IsLeft k place
    pub above_back : (k : ℕ) → k < place → AreAbove level k place → start ≤ k
    pub above_on : (k : ℕ) → place < k → k < length levels → AreAbove level place k → k < end

  -- `start` is the start of the longest range of characters before `end` that are all at the level or higher
  pub record IsExtentBack (level end start : ℕ) : Type 0 where
    pub back : start ≤ end
    pub high : (k : ℕ) → start ≤ k → k < end → level ≤ slice_index levels k
    pub stops : 0 < start → slice_index levels (start - 1) < level

  pub record IsExtentOn (level start end : ℕ) : Type 0 where
    pub on : start ≤ end
    pub within : end ≤ length levels
    pub high : (k : ℕ) → start ≤ k → k < end → level ≤ slice_index levels k
    pub stops : end < length levels → slice_index levels end < level
