-- What is read from an input to find its direction.
use Rattle.std.specs.Prelude.{◌≡◌, ◌⊎◌, ℕ, ◌<◌, ◌≤◌, Bool, true, false, List, ◌++◌, length}
use Rattle.std.specs.List.{concat}
use Rattle.std.specs.Io.KnownBytes.{IsAtEnd}
use Rattle.device.specs.Device.{Device, FailedLast}
use Rattle.bidi.specs.declared.base.Base.{Base}
use Rattle.lines.specs.Layouts.{Rules, cut_by}
use Rattle.stream.specs.declared.reading.TheConstants.{CHUNK}
use Rattle.terminal.specs.Directions.{are_weak, direction_of}
use Rattle.terminal.specs.Ends.{IsOpen}
use Rattle.terminal.specs.Run.{HasRead, IsText}
use Rattle.terminal.specs.Texts.{blocks}
use Rattle.terminal.specs.declared.direction.TheConstants.{FIRST_CHARACTERS}
use Rattle.terminal.specs.declared.form.Escapes.{Escapes}

-- The bytes do not determine the direction: the blocks that have ended show no strong character, and there
-- are fewer than `FIRST_CHARACTERS` characters.
pub record IsUnknown (rules : Rules) (escapes : Escapes) (bytes : List ℕ) : Type 0 where
  pub ended : List (List ℕ)
  pub rest : List ℕ
  pub text : IsText escapes bytes (concat ended ++ rest)
  pub blocks : (more : List ℕ) → blocks (cut_by rules) ((concat ended ++ rest) ++ more) ≡ ended ++ blocks (cut_by rules) (rest ++ more)
  pub upto : ℕ
  pub is_open : IsOpen (cut_by rules) upto rest
  pub weak : are_weak rules ended ≡ true
  pub few : length (concat ended ++ rest) < FIRST_CHARACTERS

-- At most one chunk was read after bytes that do not determine the direction.
pub record StopsEarly (rules : Rules) (escapes : Escapes) (bytes : List ℕ) : Type 0 where
  pub early : List ℕ
  pub late : List ℕ
  pub parts : bytes ≡ early ++ late
  pub chunk : length late ≤ CHUNK
  pub unknown : IsUnknown rules escapes early

-- These bytes were read between two states of a source. The direction is that of the whole input, unless the
-- source failed. If the source failed, the direction is that of these bytes.
pub record IsStart (rules : Rules) (escapes : Escapes) (bytes : List ℕ) (base : Base) (is_whole : Bool) (reader_old reader_new : Device) : Type 0 where
  pub read : HasRead reader_old reader_new bytes
  pub direction : base ≡ direction_of rules escapes bytes
  pub early : StopsEarly rules escapes bytes
  pub whole : is_whole ≡ true → IsAtEnd reader_new.bytes × (reader_new.failures ≡ reader_old.failures)
  pub begins : is_whole ≡ false → FailedLast reader_old reader_new
      ⊎ ((reader_new.failures ≡ reader_old.failures) × ((more : List ℕ) → base ≡ direction_of rules escapes (bytes ++ more)))
