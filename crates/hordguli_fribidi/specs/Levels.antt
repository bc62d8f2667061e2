-- The levels of a paragraph, computed from FriBidi's numbers for its types and brackets.
use Rattle.std.specs.Prelude.{◌≡◌, ℕ, suc, ◌==◌, List, length, map, replicate, Option, Some, None, if◌then◌else◌}
use Rattle.bidi.specs.Base.{base_level_of, first_strong_level}
use Rattle.bidi.specs.Levels.{paragraph_levels}
use Rattle.reorder.specs.Order.{highest}
use Rattle.reorder.specs.Spaces.{line_levels}
use Rattle.hordguli_fribidi.specs.Types.{base_of, bracket_by, class_of, direction_of}

-- the bracket numbers, one for each of `len` types; all are 0 if `brackets` has another length
abbrev pub brackets_of : ℕ → List ℕ → List ℕ
brackets_of len brackets = if length brackets == len then brackets else replicate len 0

-- the base level of a paragraph, from its types and the requested direction
abbrev pub base_in : List ℕ → ℕ → ℕ
base_in types asked = base_level_of (map class_of types) (base_of asked)

-- the levels of a paragraph before L1 (X1 to I2)
unfoldable pub levels_before : List ℕ → List ℕ → ℕ → List ℕ
levels_before types brackets asked =
    paragraph_levels bracket_by (brackets_of (length types) brackets) (map class_of types) (base_in types asked)

-- `answer` is one more than the greatest level before L1. `direction` is the direction of the base level,
-- whichever direction was requested. `levels` are the levels after L1, with the paragraph as one line.
pub record AreLevels (types brackets : List ℕ) (asked answer direction : ℕ) (levels : List ℕ) : Type 0 where
  pub answer_is : answer ≡ suc (highest (levels_before types brackets asked))
  pub direction_is : direction ≡ direction_of (base_in types asked)
  pub levels_are : levels ≡ line_levels (base_in types asked) (map class_of types) (levels_before types brackets asked)

-- the number of the first strong character's direction, given the level of that direction; ON if there is no
-- such character
abbrev pub first_direction : Option ℕ → ℕ
first_direction (Some level) = direction_of level
first_direction None = 64

abbrev pub direction_in : List ℕ → ℕ
direction_in types = first_direction (first_strong_level (map class_of types))
