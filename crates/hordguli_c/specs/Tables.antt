-- How the functions that take a handle of tables change the handle, and what they store.
use Rattle.std.specs.Prelude.{◌≡◌, ℕ, ◌-◌, ◌⊎◌, ◌==◌, List, Option, Some, None, if◌then◌else◌}
use Rattle.ucd.specs.Imaged.{IsImageOf}
use Rattle.ucd.specs.Images.{IsImageFault, version_number}
use Rattle.ucd.specs.Tables.{AreTablesAs, IsFaultAs}
use Rattle.ucd.specs.declared.fault.Cause.{Cause}
use Rattle.ucd.specs.declared.fault.Cause.TheVariants as cause
use Rattle.ucd.specs.declared.fault.TableFault.{TableFault}
use Rattle.ucd.specs.declared.image_fault.ImageFault.{ImageFault}
use Rattle.ucd.specs.declared.image_fault.ImageFault.TheVariants as image
use Rattle.ucd.specs.declared.tables.Tables.{Tables}
use Rattle.ucd.specs.declared.tables.UcdFiles.{UcdFiles}
use Rattle.ucd.specs.declared.version.Version.{Version}
use Rattle.ucd.specs.declared.version.Version.TheVariants.{V15_0, V17_0}
use Rattle.hordguli_c.specs.declared.table_calls.TableFaultOut.{TableFaultOut}
use Rattle.hordguli_c.specs.declared.status.Status.{Status}
use Rattle.hordguli_c.specs.declared.status.Status.TheVariants as is

-- the version of Unicode that has this number in images, or `None` if no version has it
abbrev pub version_of : ℕ → Option Version
version_of number = if number == 0x000F_0000 then Some V15_0 else if number == 0x0011_0000 then Some V17_0 else None

abbrev pub cause_number : Cause → ℕ
cause_number cause.NotAscii = 1
cause_number cause.CodePoint = 2
cause_number cause.Reversed = 3
cause_number cause.FieldCount = 4
cause_number cause.Value = 5
cause_number cause.NamedBefore = 6
cause_number cause.Memory = 7

-- the form in which a fault is stored: files are counted from 0, and lines from 1
abbrev pub fault_out : TableFault → TableFaultOut
fault_out fault = record { file = fault.file - 1; line = fault.line; cause = cause_number fault.cause }

-- after a failed allocation, the status is `NoMemory` and nothing is stored; any other fault is stored
abbrev pub TellsFault : Cause → TableFault → Status → TableFaultOut → TableFaultOut → Type 0
TellsFault cause.Memory fault status old new = (status ≡ is.NoMemory) × (new ≡ old)
TellsFault why fault status old new = (status ≡ is.TableFault) × (new ≡ fault_out fault)

-- the handle holds the tables read from the files of a version, or an allocation failed, or the files have a
-- fault
abbrev pub Reads : Version → UcdFiles → Status → Option Tables → TableFaultOut → TableFaultOut → Type 0
Reads version files status (Some tables) old new = (status ≡ is.Ok) × AreTablesAs version files tables × (new ≡ old)
Reads version files status None old new =
    ((status ≡ is.NoMemory) × (new ≡ old))
    ⊎ ((fault : TableFault) × IsFaultAs version files fault × TellsFault fault.cause fault status old new)

-- tables are read into a closed handle; an open handle is unchanged
abbrev pub ReadsTables : Version → UcdFiles → Status → Option Tables → Option Tables → TableFaultOut → TableFaultOut → Type 0
ReadsTables version files status None after old new = Reads version files status after old new
ReadsTables version files status (Some tables) after old new = (status ≡ is.AlreadyOpen) × (after ≡ Some tables) × (new ≡ old)

-- tables of the version with the given number are read; if no version has this number, nothing changes
abbrev pub ReadsTablesBy : Option Version → UcdFiles → Status → Option Tables → Option Tables → TableFaultOut → TableFaultOut → Type 0
ReadsTablesBy None files status before after old new = (status ≡ is.UnknownOption) × (after ≡ before) × (new ≡ old)
ReadsTablesBy (Some version) files status before after old new = ReadsTables version files status before after old new

-- the number of the tables' version is stored
abbrev pub TellsVersion : Status → Tables → ℕ → ℕ → Type 0
TellsVersion status tables old new = (status ≡ is.Ok) × (new ≡ version_number tables.version)

-- the cause number of each fault of an image
abbrev pub image_cause_number : ImageFault → ℕ
image_cause_number image.Truncated = 8
image_cause_number image.Magic = 9
image_cause_number image.Format = 10
image_cause_number image.Version = 11
image_cause_number image.Excess = 12
image_cause_number image.Checksum = 13
image_cause_number image.PageNumber = 14
image_cause_number image.Entry = 15
image_cause_number image.Bracket = 16
image_cause_number image.Mirror = 17
image_cause_number image.Flags = 18
image_cause_number image.Memory = 7

-- after a failed allocation, the status is `NoMemory` and nothing is stored; any other fault is stored, with 7 as its
-- file
abbrev pub TellsImageFault : ImageFault → Status → TableFaultOut → TableFaultOut → Type 0
TellsImageFault image.Memory status old new = (status ≡ is.NoMemory) × (new ≡ old)
TellsImageFault why status old new =
    (status ≡ is.TableFault) × (new ≡ record { file = 7; line = 0; cause = image_cause_number why })

-- the handle holds the tables of the image, or the image has a fault, or an allocation failed
abbrev pub Decodes : List ℕ → Status → Option Tables → TableFaultOut → TableFaultOut → Type 0
Decodes bytes status (Some tables) old new = (status ≡ is.Ok) × IsImageOf bytes tables × (new ≡ old)
Decodes bytes status None old new = (why : ImageFault) × IsImageFault bytes why × TellsImageFault why status old new

-- an image is decoded into a closed handle; an open handle is unchanged
abbrev pub OpensImage : List ℕ → Status → Option Tables → Option Tables → TableFaultOut → TableFaultOut → Type 0
OpensImage bytes status None after old new = Decodes bytes status after old new
OpensImage bytes status (Some tables) after old new = (status ≡ is.AlreadyOpen) × (after ≡ Some tables) × (new ≡ old)
