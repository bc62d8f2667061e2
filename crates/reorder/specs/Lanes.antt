-- The results of comparing several levels at once, as bits of a number.
use Rattle.std.specs.Prelude.{◌≡◌, ℕ, ◌<◌, ◌≤◌, ◌==◌, not, if◌then◌else◌, List, map, take, drop, slice_index}
use Rattle.std.specs.Int.{w64, trailing_zeros}
use Rattle.std.specs.Simd.Lanes.{mask_l}

-- the levels from `start` up to `end` all equal the given level
abbrev pub AreAll : List ℕ → ℕ → ℕ → ℕ → Type 0
AreAll levels start end level = (k : ℕ) → start ≤ k → k < end → slice_index levels k ≡ level

-- one bit for each of 16 levels, which is set if the level differs from the given level
abbrev pub others : List ℕ → ℕ → ℕ → ℕ
others levels start level = mask_l (map (λ x. not (x == level)) (take 16 (drop start levels)))

-- the position of the lowest bit that is set, or n if there is none
abbrev pub first_set : ℕ → ℕ → ℕ
first_set bits n = if bits == 0 then n else trailing_zeros w64 bits
