-- The numbers of the statuses, as in include/hordguli.h, and the statuses of faults.
use Rattle.std.specs.Prelude.{ℕ, ◌≤◌, List, [], ◌∷◌, slice_index_or}
use Rattle.session.specs.declared.edits.AdvanceFault.{AdvanceFault}
use Rattle.session.specs.declared.edits.AdvanceFault.TheVariants as measured
use Rattle.session.specs.declared.edits.EditFault.{EditFault}
use Rattle.session.specs.declared.edits.EditFault.TheVariants as faults
use Rattle.hordguli_c.specs.declared.status.Status.{Status}
use Rattle.hordguli_c.specs.declared.status.Status.TheVariants as is

abbrev pub statuses : List Status
statuses =
    is.Ok ∷ is.OutOfRange ∷ is.WidthOutOfRange ∷ is.TextTooLong ∷ is.ParagraphTooLong ∷ is.NoMemory ∷ is.TableFault ∷ is.NotUtf8
    ∷ is.NotACharacter ∷ is.Closed ∷ is.AlreadyOpen ∷ is.UnknownOption ∷ is.NoRoom ∷ is.NoRoom ∷ is.NoRoom ∷ is.NoRoom ∷ is.NotMeasured ∷ []

-- the status with the given number; only hordguli.c returns 13 to 15, and no status has a number above 16
unfoldable pub status_of : ℕ → Status
status_of number = slice_index_or statuses number is.NoRoom

-- a function returns to C the number of a status for which `says` holds
pub record Returns (says : Status → Type 0) (number : ℕ) : Type 0 where
  pub status : says (status_of number)
  pub within : number ≤ 16

-- the status for each `EditFault`
abbrev pub edit_status : EditFault → Status
edit_status faults.OutOfRange = is.OutOfRange
edit_status faults.WidthOutOfRange = is.WidthOutOfRange
edit_status faults.TextTooLong = is.TextTooLong
edit_status faults.ParagraphTooLong = is.ParagraphTooLong
edit_status faults.NoMemory = is.NoMemory

-- the status for each `AdvanceFault`
abbrev pub advance_status : AdvanceFault → Status
advance_status measured.NotMeasured = is.NotMeasured
advance_status measured.OutOfRange = is.OutOfRange
advance_status measured.WidthOutOfRange = is.WidthOutOfRange
advance_status measured.ParagraphTooLong = is.ParagraphTooLong
advance_status measured.NoMemory = is.NoMemory
