-- The state of the pass for the neutral and implicit rules. All levels before the latest run of neutrals have
-- been written.
use Rattle.std.specs.Prelude.{◌≡◌, ℕ, ◌+◌, ◌==◌, ◌%◌, ◌/◌, ◌*◌, ◌-◌, ◌<◌, ◌≤◌, Bool, true, false, not, List, [], ◌∷◌, ◌++◌, length, get_or, take, drop, replicate, if◌then◌else◌}
use Rattle.ucd.specs.declared.bidi_class.BidiClass.{BidiClass}
use Rattle.bidi.specs.Neutral.{agree, between, implicit_level, is_neutral}
use Rattle.bidi.specs.Sequences.{direction}
use Rattle.bidi.specs.Weak.{is_left}

-- the level of a run of neutrals, given the types on both sides
abbrev pub row_level : ℕ → BidiClass → BidiClass → ℕ
row_level level before after = implicit_level level (between (direction level) before after)

-- the levels of n neutrals after the type `before`, and of the types after these neutrals
abbrev pub levels_after : ℕ → BidiClass → ℕ → BidiClass → List BidiClass → List ℕ
levels_after level eos n before [] = replicate n (row_level level before eos)
levels_after level eos n before (type ∷ types) =
    if is_neutral type then levels_after level eos (n + 1) before types
    else replicate n (row_level level before type) ++ implicit_level level type ∷ levels_after level eos 0 type types

-- The state of the pass at the index `at`. The levels before `start` are final. The types from `start` up to
-- `at` are a run of neutrals after the type `before`.
pub record AreLevelsSoFar (level : ℕ) (sos eos : BidiClass) (types : List BidiClass) (levels : List ℕ) (before : BidiClass) (start at : ℕ) : Type 0 where
  pub sizes : length levels ≡ length types
  pub order : start ≤ at
  pub whole : take start levels ++ levels_after level eos (at - start) before (drop at types) ≡ levels_after level eos 0 sos types

-- whether a type has the direction opposite to the embedding direction
abbrev pub is_opposite : ℕ → BidiClass → Bool
is_opposite level type = not (agree (is_left (direction level)) (is_left type))

-- the level of neutrals between types of the same direction; `opposite` says whether that direction is
-- opposite to the embedding direction
abbrev pub raised : ℕ → Bool → ℕ
raised level opposite = if opposite then level + 1 else level

-- how many levels neutrals next to a type are above the sequence's level if the types on both sides have the
-- same direction
abbrev pub beside : ℕ → BidiClass → ℕ
beside level type = if is_opposite level type then 1 else 0

-- 1 for a neutral type, or else twice the number of levels by which neutrals between two such types rise
abbrev pub turn : ℕ → BidiClass → ℕ
turn level type = if is_neutral type then 1 else (if is_opposite level type then 2 else 0)

-- the level of a type minus that of neutrals between two types of its direction, plus 1; for a neutral type, 1
abbrev pub above : ℕ → BidiClass → ℕ
above level type = if is_neutral type then 1 else (implicit_level level type + 1) - (level + beside level type)

-- The types from `start` up to `at` are neutral, and the type before them, if any, is not.
pub record IsRun (types : List BidiClass) (start at : ℕ) : Type 0 where
  pub order : start ≤ at
  pub neutrals : (k : ℕ) (d : BidiClass) → start ≤ k → k < at → is_neutral (get_or types k d) ≡ true
  pub bounded : (k : ℕ) (d : BidiClass) → k + 1 ≡ start → is_neutral (get_or types k d) ≡ false

-- The state of the pass at the index `at`. The levels of the latest run of neutrals are provisional: these
-- levels are right if the types before and after the run have the same direction.
pub record AreGuessed (level : ℕ) (sos eos : BidiClass) (types : List BidiClass) (levels : List ℕ) (opposite : Bool) (at : ℕ) : Type 0 where
  pub before : BidiClass
  pub start : ℕ
  pub so_far : AreLevelsSoFar level sos eos types levels before start at
  pub run : IsRun types start at
  pub direction_is : is_opposite level before ≡ opposite
  pub guessed : take at levels ≡ take start levels ++ replicate (at - start) (raised level opposite)

-- `put` is the result of writing the embedding level to the run of neutrals that ends at `at`.
abbrev pub LowersRun : ℕ → List BidiClass → List ℕ → ℕ → List ℕ → Type 0
LowersRun level types levels at put =
    (start : ℕ) → IsRun types start at → take at put ≡ take start levels ++ replicate (at - start) level

-- the index at which the row of `STEPS` for a level starts if neutrals rise by `rise` levels
abbrev pub row_of : ℕ → ℕ → ℕ
row_of level rise = level % 2 * 64 + rise * 32

-- how many levels neutrals rise after a type, if they rise by `rise` levels before it
abbrev pub rise_after : ℕ → ℕ → BidiClass → ℕ
rise_after level rise type = (rise + turn level type) / 2

-- the entry of `STEPS` for a level, how many levels neutrals rise, and a type
abbrev pub step : ℕ → ℕ → BidiClass → ℕ
step level rise type = row_of level (rise_after level rise type) * 256 + ((rise_after level rise type + above level type) - 1)

-- Writing the levels of the types from `at` up to `end` results in the levels `put` and in the row `next`.
abbrev pub Advances : ℕ → List BidiClass → List ℕ → ℕ → ℕ → List ℕ → ℕ → ℕ → Type 0
Advances level types levels row at put next end =
    (sos eos : BidiClass) → AreGuessed level sos eos types levels (row / 32 % 2 == 1) at → AreGuessed level sos eos types put (next / 32 % 2 == 1) end
