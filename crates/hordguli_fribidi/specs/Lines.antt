-- A line of a paragraph in visual order. All arrays hold the paragraph up to the end of the line. The line
-- starts at `off`.
use Rattle.std.specs.Prelude.{◌≡◌, ℕ, suc, ◌/◌, ◌%◌, ◌==◌, Bool, List, ◌++◌, length, map, take, drop, slice_index, if◌then◌else◌}
use Rattle.reorder.specs.Order.{highest, vtol_of}
use Rattle.reorder.specs.Spaces.{line_levels}
use Rattle.hordguli_fribidi.specs.Types.{class_of}

-- whether the flags request L3 (FRIBIDI_FLAG_REORDER_NSM)
abbrev pub asks_marks : ℕ → Bool
asks_marks flags = flags / 2 % 2 == 1

-- an array after its items from `off` on were put into visual order
abbrev pub reordered : ℕ → List ℕ → List ℕ → List ℕ
reordered off vtol old = take off old ++ map (slice_index (drop off old)) vtol

-- an array after reordering; an array whose length is not `len` is unchanged
abbrev pub reordered_if : ℕ → ℕ → List ℕ → List ℕ → List ℕ
reordered_if len off vtol old = if length old == len then reordered off vtol old else old

-- The line after L1 (with the level of the direction), L2 and, if the flags request it, L3. The result is one
-- more than the line's greatest level.
module _ (flags : ℕ) (types : List ℕ) (off direction : ℕ) (old : List ℕ) where
  abbrev pub line_after : List ℕ
  line_after = line_levels (direction % 2) (map class_of (drop off types)) (drop off old)

  abbrev pub vtol_in : List ℕ
  vtol_in = vtol_of (asks_marks flags) (map class_of (drop off types)) line_after

  pub record IsReordered (answer : ℕ) (levels visual_old visual map_old map_new : List ℕ) : Type 0 where
    pub answer_is : answer ≡ suc (highest line_after)
    pub levels_are : levels ≡ take off old ++ line_after
    pub visual_is : visual ≡ reordered_if (length types) off vtol_in visual_old
    pub map_is : map_new ≡ reordered_if (length types) off vtol_in map_old
