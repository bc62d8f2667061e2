-- The properties that tables assign to characters, and the files from which the tables are read.
use Rattle.std.specs.Prelude.{◌≡◌, ℕ, ◌-◌, ◌<◌, ◌⊎◌, ◌&&◌, Bool, true, false, List, Option, Some, is_some, option_map, unwrap_or}
use Rattle.std.specs.Char.{IsScalar}
use Rattle.ucd.specs.declared.bidi_class.BidiClass.{BidiClass}
use Rattle.ucd.specs.declared.bracket.Bracket.{Bracket}
use Rattle.ucd.specs.declared.bracket.Mirror.{Mirror}
use Rattle.ucd.specs.declared.category.Category.{Category}
use Rattle.ucd.specs.declared.category.Category.TheVariants.{Mark, Unassigned}
use Rattle.ucd.specs.declared.fault.Cause.{Cause}
use Rattle.ucd.specs.declared.fault.Cause.TheVariants as cause
use Rattle.ucd.specs.declared.fault.TableFault.{TableFault}
use Rattle.ucd.specs.declared.file.FileFault.{FileFault}
use Rattle.ucd.specs.declared.line_class.LineClass.{LineClass}
use Rattle.ucd.specs.declared.line_class.LineClass.TheVariants.{XX}
use Rattle.ucd.specs.declared.line_detail.LineDetail.{LineDetail}
use Rattle.ucd.specs.declared.line_detail.LineDetail.TheVariants.{Plain}
use Rattle.ucd.specs.declared.tables.Tables.{Tables}
use Rattle.ucd.specs.declared.tables.UcdFiles.{UcdFiles}
use Rattle.ucd.specs.declared.version.Version.{Version}
use Rattle.ucd.specs.declared.version.Version.TheVariants.{V15_0}
use Rattle.ucd.specs.declared.width.Width.{Width}
use Rattle.ucd.specs.declared.width.Width.TheVariants.{Wide}
use Rattle.ucd.specs.BidiClasses.{bidi_class_form}
use Rattle.ucd.specs.Brackets.{bracket_form, mirror_form}
use Rattle.ucd.specs.Categories.{category_form}
use Rattle.ucd.specs.Emoji.{emoji_form}
use Rattle.ucd.specs.Defaults.{default_class}
use Rattle.ucd.specs.Entries.{value_at}
use Rattle.ucd.specs.Files.{IsGood, IsFirstFault, value_in}
use Rattle.ucd.specs.Grammar.{Form, lines_of}
use Rattle.ucd.specs.Versions.{line_class_form, detail_by}
use Rattle.ucd.specs.Widths.{width_form}

-- the mirror as a character, if there is one
abbrev pub mirror_by : Option Mirror → Option ℕ
mirror_by mirror = option_map (λ m. m.0) mirror

-- whether a width is given and is wide
abbrev pub is_wide_by : Option Width → Bool
is_wide_by (Some Wide) = true
is_wide_by _ = false

-- whether characters of a category are marks (Mn or Mc)
abbrev pub is_mark_by : Category → Bool
is_mark_by Mark = true
is_mark_by _ = false

-- whether code points of a category are unassigned (Cn)
abbrev pub is_unassigned_by : Category → Bool
is_unassigned_by Unassigned = true
is_unassigned_by _ = false

-- the properties that tables assign to a character, with defaults for characters that no line lists
unfoldable pub class_of : Tables → ℕ → BidiClass
class_of t c = unwrap_or (value_at t.bidi_classes c) (default_class t.version c)

unfoldable pub bracket_of : Tables → ℕ → Option Bracket
bracket_of t c = value_at t.brackets c

unfoldable pub mirror_of : Tables → ℕ → Option ℕ
mirror_of t c = mirror_by (value_at t.mirrors c)

unfoldable pub line_class_of : Tables → ℕ → LineClass
line_class_of t c = unwrap_or (value_at t.line_classes c) XX

unfoldable pub line_detail_of : Tables → ℕ → LineDetail
line_detail_of t c = unwrap_or (value_at t.line_details c) Plain

unfoldable pub is_wide_in : Tables → ℕ → Bool
is_wide_in t c = is_wide_by (value_at t.widths c)

abbrev pub category_of : Tables → ℕ → Category
category_of t c = unwrap_or (value_at t.categories c) Unassigned

unfoldable pub is_mark_in : Tables → ℕ → Bool
is_mark_in t c = is_mark_by (category_of t c)

unfoldable pub is_future_pictograph_in : Tables → ℕ → Bool
is_future_pictograph_in t c = is_some (value_at t.pictographs c) && is_unassigned_by (category_of t c)

-- no line of the files is faulty
pub record AreGood (version : Version) (files : UcdFiles) : Type 0 where
  pub bidi_class : IsGood bidi_class_form (lines_of files.bidi_class.now)
  pub bidi_brackets : IsGood bracket_form (lines_of files.bidi_brackets.now)
  pub bidi_mirroring : IsGood mirror_form (lines_of files.bidi_mirroring.now)
  pub line_break : IsGood (line_class_form version) (lines_of files.line_break.now)
  pub general_category : IsGood category_form (lines_of files.general_category.now)
  pub east_asian_width : IsGood width_form (lines_of files.east_asian_width.now)
  pub emoji_data : IsGood emoji_form (lines_of files.emoji_data.now)

-- the category that the file assigns to a character, or Cn if it assigns none
abbrev pub category_in : UcdFiles → ℕ → Category
category_in files c = unwrap_or (value_in category_form (lines_of files.general_category.now) c) Unassigned

-- the line breaking class that the file assigns to a character, or XX if it assigns none
abbrev pub line_class_from : Version → UcdFiles → ℕ → LineClass
line_class_from version files c = unwrap_or (value_in (line_class_form version) (lines_of files.line_break.now) c) XX

-- the tables assign to the character c the same properties as the files do, with the same defaults
pub record SayOf (version : Version) (files : UcdFiles) (t : Tables) (c : ℕ) : Type 0 where
  pub bidi_class : class_of t c ≡ unwrap_or (value_in bidi_class_form (lines_of files.bidi_class.now) c) (default_class version c)
  pub bracket : bracket_of t c ≡ value_in bracket_form (lines_of files.bidi_brackets.now) c
  pub mirror : mirror_of t c ≡ mirror_by (value_in mirror_form (lines_of files.bidi_mirroring.now) c)
  pub line_class : line_class_of t c ≡ line_class_from version files c
  pub line_detail : line_detail_of t c ≡ detail_by version (category_in files c) (line_class_from version files c) c
  pub is_wide : is_wide_in t c ≡ is_wide_by (value_in width_form (lines_of files.east_asian_width.now) c)
  pub is_mark : is_mark_in t c ≡ is_mark_by (category_in files c)
  pub is_future_pictograph : is_future_pictograph_in t c
      ≡ (is_some (value_in emoji_form (lines_of files.emoji_data.now) c) && is_unassigned_by (category_in files c))

pub record AreTablesAs (version : Version) (files : UcdFiles) (t : Tables) : Type 0 where
  pub of_version : t.version ≡ version
  pub good : AreGood version files
  pub say : (c : ℕ) → IsScalar c → SayOf version files t c

-- tables of Unicode 15.0
abbrev pub AreTablesOf : UcdFiles → Tables → Type 0
AreTablesOf = AreTablesAs V15_0

-- The fault is at the first faulty line of this file, or is an allocation failure, whose file and line are 0.
module _ {V : Type 0} (number : ℕ) (form : Form V) (lines : List (List ℕ)) where
  abbrev pub IsFaultBy : ℕ → ℕ → Cause → Type 0
  IsFaultBy file line cause.Memory = (file ≡ 0) × (line ≡ 0)
  IsFaultBy file line why = (file ≡ number) × (0 < line) × IsFirstFault form lines (line - 1) why

  abbrev pub IsFaultIn : TableFault → Type 0
  IsFaultIn fault = IsFaultBy fault.file fault.line fault.cause

  -- The fault is in this file, or this file has no fault and the fault is in a later file.
  abbrev pub IsInOr : (TableFault → Type 0) → TableFault → Type 0
  IsInOr after fault = IsFaultIn fault ⊎ (IsGood form lines × after fault)

-- the first fault in the files for bidirectional text; below, in those for line breaking, and in all files
abbrev pub IsBidiFaultOf : UcdFiles → TableFault → Type 0
IsBidiFaultOf files =
    IsInOr 1 bidi_class_form (lines_of files.bidi_class.now) (
    IsInOr 2 bracket_form (lines_of files.bidi_brackets.now) (
    IsFaultIn 3 mirror_form (lines_of files.bidi_mirroring.now)))

abbrev pub IsBreakFaultAs : Version → UcdFiles → TableFault → Type 0
IsBreakFaultAs version files =
    IsInOr 4 (line_class_form version) (lines_of files.line_break.now) (
    IsInOr 5 category_form (lines_of files.general_category.now) (
    IsInOr 6 width_form (lines_of files.east_asian_width.now) (
    IsFaultIn 7 emoji_form (lines_of files.emoji_data.now))))

abbrev pub IsFaultAs : Version → UcdFiles → TableFault → Type 0
IsFaultAs version files =
    IsInOr 1 bidi_class_form (lines_of files.bidi_class.now) (
    IsInOr 2 bracket_form (lines_of files.bidi_brackets.now) (
    IsInOr 3 mirror_form (lines_of files.bidi_mirroring.now) (
    IsBreakFaultAs version files)))

abbrev pub IsFaultOf : UcdFiles → TableFault → Type 0
IsFaultOf = IsFaultAs V15_0

-- a fault in a line of a file, or an allocation failure, which names no file
abbrev pub fault_by : ℕ → ℕ → Cause → TableFault
fault_by file line cause.Memory = record { file = 0; line = 0; cause = cause.Memory }
fault_by file line why = record { file = file; line = line; cause = why }

abbrev pub fault_in : ℕ → FileFault → TableFault
fault_in file fault = fault_by file fault.line fault.cause
