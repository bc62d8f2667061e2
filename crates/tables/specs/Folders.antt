-- The tables of a folder, given its contents: files, by their index in `FILE_NAMES`, and possibly an image.
use Rattle.std.specs.Prelude.{◌≡◌, ◌≢◌, ℕ, ◌<◌, ◌⊎◌, List, codes, ⊤}
use Rattle.ucd.specs.FileNames.{file_name}
use Rattle.ucd.specs.Imaged.{IsImageOf}
use Rattle.ucd.specs.Images.{image_version, IsFirstFault, IsImage, MayAllocate}
use Rattle.ucd.specs.Tables.{AreTablesAs, IsFaultAs}
use Rattle.ucd.specs.declared.image_fault.ImageFault.TheVariants as image
use Rattle.ucd.specs.declared.tables.Tables.{Tables}
use Rattle.ucd.specs.declared.tables.UcdFiles.{UcdFiles}
use Rattle.ucd.specs.declared.version.Version.{Version}
use Rattle.ucd.specs.declared.version.Version.TheVariants.{V15_0}
use Rattle.tables.specs.declared.fault.FolderFault.{FolderFault}
use Rattle.tables.specs.declared.fault.FolderFault.TheVariants.{Unread, Table, Image, Memory}

abbrev pub image_name : List ℕ
image_name = codes "tables.image"

-- a file with this name cannot be read, or an allocation failed
abbrev pub IsUnread : Type 0 → List ℕ → FolderFault → Type 0
IsUnread fails name (Unread unread) = fails × (unread.now ≡ name)
IsUnread fails name Memory = ⊤
IsUnread fails name other = ⊥

-- the first fault of the image, or an allocation failure
abbrev pub IsUnusable : List ℕ → FolderFault → Type 0
IsUnusable bytes (Image why) = IsFirstFault bytes why
IsUnusable bytes Memory = MayAllocate bytes
IsUnusable bytes other = ⊥

-- the first fault of an image, `Version` if a valid image has another version, or an allocation failure
abbrev pub IsUnusableAs : Version → List ℕ → FolderFault → Type 0
IsUnusableAs version bytes (Image why) = IsFirstFault bytes why ⊎ ((why ≡ image.Version) × IsImage bytes × (image_version bytes ≢ version))
IsUnusableAs version bytes Memory = MayAllocate bytes
IsUnusableAs version bytes other = ⊥

-- the first fault of the files, parsed as those of the given version
abbrev pub IsFaultFor : Version → UcdFiles → FolderFault → Type 0
IsFaultFor version files (Table fault) = IsFaultAs version files fault
IsFaultFor version files other = ⊥

-- a folder in which each file has certain bytes, or cannot be read
module _ (has_file : ℕ → List ℕ → Type 0) (cannot_read : ℕ → Type 0) where
  -- the contents of the seven files
  pub record AreFiles (files : UcdFiles) : Type 0 where
    pub bidi_class : has_file 0 files.bidi_class.now
    pub bidi_brackets : has_file 1 files.bidi_brackets.now
    pub bidi_mirroring : has_file 2 files.bidi_mirroring.now
    pub line_break : has_file 3 files.line_break.now
    pub general_category : has_file 4 files.general_category.now
    pub east_asian_width : has_file 5 files.east_asian_width.now
    pub emoji_data : has_file 6 files.emoji_data.now

  -- the tables are those of the files
  abbrev pub AreFromFilesAs : Version → Tables → Type 0
  AreFromFilesAs version tables = (files : UcdFiles) × AreFiles files × AreTablesAs version files tables

  abbrev pub AreFromFiles : Tables → Type 0
  AreFromFiles = AreFromFilesAs V15_0

  -- the file at `index` is the first file that cannot be read, or an allocation failed
  pub record IsFirstUnread (why : FolderFault) (index : ℕ) : Type 0 where
    pub within : index < 7
    pub first : (k : ℕ) → k < index → (bytes : List ℕ) × has_file k bytes
    pub unread : IsUnread (cannot_read index) (file_name index) why

  -- `why` says that a file cannot be read or that memory ran out, or is the first fault of the files
  abbrev pub IsFileFaultAs : Version → FolderFault → Type 0
  IsFileFaultAs version why = ((index : ℕ) × IsFirstUnread why index) ⊎ ((files : UcdFiles) × AreFiles files × IsFaultFor version files why)

  abbrev pub IsFileFault : FolderFault → Type 0
  IsFileFault = IsFileFaultAs V15_0

  -- a folder in which the image has certain bytes, cannot be read, or does not exist
  module _ (has_image : List ℕ → Type 0) (has_no_image cannot_read_image : Type 0) where
    -- the tables are those of the image, which has this version, or those of the files if there is no image
    abbrev pub AreInstalledAs : Version → Tables → Type 0
    AreInstalledAs version tables =
        ((bytes : List ℕ) × has_image bytes × IsImageOf bytes tables × (tables.version ≡ version)) ⊎ (has_no_image × AreFromFilesAs version tables)

    abbrev pub AreInstalled : Tables → Type 0
    AreInstalled = AreInstalledAs V15_0

    -- If there is an image, `why` says that it cannot be read or that memory ran out, or is its first fault.
    -- If there is none, `IsFileFaultAs` holds.
    abbrev pub IsInstalledFaultAs : Version → FolderFault → Type 0
    IsInstalledFaultAs version why =
        IsUnread cannot_read_image image_name why ⊎ (((bytes : List ℕ) × has_image bytes × IsUnusableAs version bytes why) ⊎ (has_no_image × IsFileFaultAs version why))

    abbrev pub IsInstalledFault : FolderFault → Type 0
    IsInstalledFault = IsInstalledFaultAs V15_0

-- The contents of the file system are not specified: each file and the image may have any bytes, and reading
-- may fail.
abbrev pub any_bytes : ℕ → List ℕ → Type 0
any_bytes index bytes = ⊤

abbrev pub may_fail : ℕ → Type 0
may_fail index = ⊤

abbrev pub any_image : List ℕ → Type 0
any_image bytes = ⊤
