-- A compiled image of the tables: bytes that hold the properties of all code points.
--
-- All numbers are unsigned and little-endian. The parts of an image, with the offset of each:
--      0   the 12 bytes `hordguli-ucd`
--     12   u32: the version of the format, which is 1
--     16   u32: the version of Unicode, 65536 times the first number plus 256 times the second: 15.0 or 17.0
--     20   three u32: the numbers of pages, brackets and mirrors
--     32   4352 u16: for each block of 256 code points, the number of its page
--   8736   256 u16 for each page: the properties of each code point (see Answers.antt for the bits)
--   next   two u32 for each bracket: its code point, and twice its pair, plus 1 for an opening bracket
--   next   two u32 for each character with a mirror: its code point and its mirror
--   last   u64: the checksum of all bytes before it
-- The brackets, and the characters with a mirror, are in ascending order of their code points.
use Rattle.std.specs.Prelude.{◌≡◌, ℕ, zero, suc, ◌+◌, ◌*◌, ◌/◌, ◌%◌, ◌^◌, ◌<◌, ◌≤◌, ◌==◌, ◌&&◌, ◌⊎◌, nat_lt, not, Bool, List, length, take, slice_index, codes, Option, Some, None, is_some, IsSome, IsTrue, option_map, if◌then◌else◌}
use Rattle.ucd.specs.Answers.{PropertyAnswers, answers_in}
use Rattle.ucd.specs.Brackets.{scalar_only}
use Rattle.ucd.specs.declared.bracket.Bracket.{Bracket}
use Rattle.ucd.specs.declared.bracket.Mirror.{Mirror}
use Rattle.ucd.specs.declared.image_fault.ImageFault.{ImageFault}
use Rattle.ucd.specs.declared.image_fault.ImageFault.TheVariants as fault
use Rattle.ucd.specs.declared.version.Version.{Version}
use Rattle.ucd.specs.declared.version.Version.TheVariants.{V15_0, V17_0}
use Rattle.ucd.specs.Versions.{number_count}

-- the 16-bit number at the offset i
unfoldable pub u16_at : List ℕ → ℕ → ℕ
u16_at bytes i = slice_index bytes i + 256 * slice_index bytes (i + 1)

-- the 32-bit number at the offset i
unfoldable pub u32_at : List ℕ → ℕ → ℕ
u32_at bytes i = u16_at bytes i + 65536 * u16_at bytes (i + 2)

-- the 64-bit number at the offset i
unfoldable pub u64_at : List ℕ → ℕ → ℕ
u64_at bytes i = u32_at bytes i + 4294967296 * u32_at bytes (i + 4)

-- the checksum of the first k 64-bit numbers
unfoldable pub checksum : List ℕ → ℕ → ℕ
checksum bytes zero = 0
checksum bytes (suc k) = (checksum bytes k * 11400714819323198485 % 2 ^ 64 + u64_at bytes (8 * k)) % 2 ^ 64

-- the number that encodes a version of Unicode in an image
abbrev pub version_number : Version → ℕ
version_number V15_0 = 0x000F_0000
version_number V17_0 = 0x0011_0000

-- the Unicode version of an image: 17.0 if the header has its number, and otherwise 15.0
abbrev pub image_version : List ℕ → Version
image_version bytes = if u32_at bytes 16 == 0x0011_0000 then V17_0 else V15_0

-- the number of pages
abbrev pub page_count : List ℕ → ℕ
page_count bytes = u32_at bytes 20

-- the number of brackets
abbrev pub bracket_count : List ℕ → ℕ
bracket_count bytes = u32_at bytes 24

-- the number of mirrors
abbrev pub mirror_count : List ℕ → ℕ
mirror_count bytes = u32_at bytes 28

-- the offset of the brackets
abbrev pub brackets_at : List ℕ → ℕ
brackets_at bytes = 8736 + 512 * page_count bytes

-- the offset of the mirrors
abbrev pub mirrors_at : List ℕ → ℕ
mirrors_at bytes = brackets_at bytes + 8 * bracket_count bytes

-- the offset of the checksum
abbrev pub checksum_at : List ℕ → ℕ
checksum_at bytes = mirrors_at bytes + 8 * mirror_count bytes

-- the page number of a block of 256 code points
abbrev pub page_number : List ℕ → ℕ → ℕ
page_number bytes block = u16_at bytes (32 + 2 * block)

-- the entry at an index of the concatenated pages, as bits
abbrev pub entry_at : List ℕ → ℕ → ℕ
entry_at bytes i = u16_at bytes (8736 + 2 * i)

-- the properties of a code point, as bits
abbrev pub bits_at : List ℕ → ℕ → ℕ
bits_at bytes c = entry_at bytes (page_number bytes (c / 256) * 256 + c % 256)

-- whether the bits encode properties: the bidi class and the line-breaking number are in range, and no mark
-- is a future pictograph
abbrev pub is_entry : Version → ℕ → Bool
is_entry version bits = nat_lt (bits % 32) 23 && (nat_lt (bits / 1024) (number_count version) && not (bits / 128 % 4 == 3))

-- the bracket that a number encodes, if it encodes one
abbrev pub bracket_in : ℕ → Option Bracket
bracket_in number = option_map (λ pair. record { pair = pair; opens = number % 2 == 1 }) (scalar_only (Some (number / 2)))

-- the mirror that a number encodes, if it encodes one
abbrev pub mirror_in : ℕ → Option Mirror
mirror_in number = option_map (λ mirror. record { 0 = mirror }) (scalar_only (Some number))

-- pairs of a code point and a number that encodes its value
module _ {V : Type 0} (decode : ℕ → Option V) (bytes : List ℕ) (start : ℕ) where
  abbrev pub point_at : ℕ → ℕ
  point_at k = u32_at bytes (start + 8 * k)

  abbrev pub point_value : ℕ → Option V
  point_value k = decode (u32_at bytes (start + 8 * k + 4))

  -- the value that the first `count` pairs assign to a code point, if any
  unfoldable pub found : ℕ → ℕ → Option V
  found zero c = None
  found (suc k) c = if point_at k == c then point_value k else found k c

  -- pair k has a code point above those of the pairs before it, and a number that encodes a value
  pub record IsPoint (k : ℕ) : Type 0 where
    pub within : point_at k < 1114112
    pub ascending : (j : ℕ) → j < k → point_at j < point_at k
    pub value : IsSome (point_value k)

  abbrev pub ArePoints : ℕ → Type 0
  ArePoints count = (k : ℕ) → k < count → IsPoint k

  -- a flag in the properties of each code point says whether the pairs include the code point
  abbrev pub AreFlags : (PropertyAnswers → Bool) → ℕ → Type 0
  AreFlags flag count = (c : ℕ) → c < 1114112 → flag (answers_in (bits_at bytes c)) ≡ is_some (found count c)

-- the bracket data of a code point, if it is a bracket
abbrev pub bracket_at : List ℕ → ℕ → Option Bracket
bracket_at bytes c = found bracket_in bytes (brackets_at bytes) (bracket_count bytes) c

-- the mirror of a code point, if it has one
abbrev pub mirror_at : List ℕ → ℕ → Option Mirror
mirror_at bytes c = found mirror_in bytes (mirrors_at bytes) (mirror_count bytes) c

-- The conditions on an image, in the order in which they are checked. First, the frame is checked: the
-- header, the length and the checksum.
pub record IsFramed (bytes : List ℕ) : Type 0 where
  pub header : 32 ≤ length bytes
  pub magic : take 12 bytes ≡ codes "hordguli-ucd"
  pub format : u32_at bytes 12 ≡ 1
  pub version : u32_at bytes 16 ≡ version_number (image_version bytes)
  pub room : checksum_at bytes + 8 ≤ length bytes
  pub end : length bytes ≤ checksum_at bytes + 8
  pub checksum : u64_at bytes (checksum_at bytes) ≡ checksum bytes (checksum_at bytes / 8)

-- Then the parts between the header and the checksum are checked.
abbrev pub ArePagesKnown : List ℕ → Type 0
ArePagesKnown bytes = (block : ℕ) → block < 4352 → page_number bytes block < page_count bytes

abbrev pub AreEntries : List ℕ → Type 0
AreEntries bytes = (i : ℕ) → i < 256 * page_count bytes → IsTrue (is_entry (image_version bytes) (entry_at bytes i))

abbrev pub AreBrackets : List ℕ → Type 0
AreBrackets bytes = ArePoints bracket_in bytes (brackets_at bytes) (bracket_count bytes)

abbrev pub AreMirrors : List ℕ → Type 0
AreMirrors bytes = ArePoints mirror_in bytes (mirrors_at bytes) (mirror_count bytes)

abbrev pub AreBracketFlags : List ℕ → Type 0
AreBracketFlags bytes = AreFlags bracket_in bytes (brackets_at bytes) (λ a. a.has_bracket) (bracket_count bytes)

abbrev pub AreMirrorFlags : List ℕ → Type 0
AreMirrorFlags bytes = AreFlags mirror_in bytes (mirrors_at bytes) (λ a. a.has_mirror) (mirror_count bytes)

pub record IsImage (bytes : List ℕ) : Type 0 where
  pub framed : IsFramed bytes
  pub pages : ArePagesKnown bytes
  pub entries : AreEntries bytes
  pub brackets : AreBrackets bytes
  pub mirrors : AreMirrors bytes
  pub bracket_flags : AreBracketFlags bytes
  pub mirror_flags : AreMirrorFlags bytes

-- Either the condition is false and `why` is its cause, or the condition is true and a later one determines
-- `why`.
abbrev Fails : Type 0 → ImageFault → (ImageFault → Type 0) → ImageFault → Type 0
Fails condition cause later why = ((¬ condition) × (why ≡ cause)) ⊎ (condition × later why)

-- the cause of the first condition that fails
unfoldable pub IsFirstFault : List ℕ → ImageFault → Type 0
IsFirstFault bytes =
    Fails (32 ≤ length bytes) fault.Truncated (
    Fails (take 12 bytes ≡ codes "hordguli-ucd") fault.Magic (
    Fails (u32_at bytes 12 ≡ 1) fault.Format (
    Fails (u32_at bytes 16 ≡ version_number (image_version bytes)) fault.Version (
    Fails (checksum_at bytes + 8 ≤ length bytes) fault.Truncated (
    Fails (length bytes ≤ checksum_at bytes + 8) fault.Excess (
    Fails (u64_at bytes (checksum_at bytes) ≡ checksum bytes (checksum_at bytes / 8)) fault.Checksum (
    Fails (ArePagesKnown bytes) fault.PageNumber (
    Fails (AreEntries bytes) fault.Entry (
    Fails (AreBrackets bytes) fault.Bracket (
    Fails (AreMirrors bytes) fault.Mirror (
    Fails (AreBracketFlags bytes) fault.Flags (
    Fails (AreMirrorFlags bytes) fault.Flags (λ _. ⊥)))))))))))))

-- the conditions that are checked before any memory is allocated
pub record MayAllocate (bytes : List ℕ) : Type 0 where
  pub framed : IsFramed bytes
  pub pages : ArePagesKnown bytes
  pub entries : AreEntries bytes

-- the first fault of the image, or an allocation failure
abbrev pub IsImageFault : List ℕ → ImageFault → Type 0
IsImageFault bytes fault.Memory = MayAllocate bytes
IsImageFault bytes why = IsFirstFault bytes why
