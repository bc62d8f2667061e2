-- Bytes that are appended to an image.
use Rattle.std.specs.Prelude.{◌≡◌, ℕ, ◌+◌, ◌*◌, ◌/◌, ◌%◌, ◌<◌, ◌≤◌, List, length, slice_index, Option, Some, IsTrue}
use Rattle.ucd.specs.Answers.{PropertyAnswers, answers_in}
use Rattle.ucd.specs.declared.version.Version.{Version}
use Rattle.ucd.specs.Images.{u16_at, u32_at, u64_at, checksum, image_version, page_count, bracket_count, mirror_count, brackets_at, mirrors_at, is_entry, IsFramed}

-- the `count` bytes at `at` in `bytes` equal the bytes at `from` in `part`
pub record Shows (bytes : List ℕ) (at : ℕ) (part : List ℕ) (from count : ℕ) : Type 0 where
  pub each : (i j : ℕ) → at ≤ i → i < at + count → i + from ≡ j + at → slice_index bytes i ≡ slice_index part j

-- a 16-bit number is appended, and the bytes before it are unchanged
pub record Adds16 (old new : List ℕ) (number : ℕ) : Type 0 where
  pub kept : Shows new 0 old 0 (length old)
  pub len : length new ≡ length old + 2
  pub here : u16_at new (length old) ≡ number

-- a 32-bit number is appended, and the bytes before it are unchanged
pub record Adds32 (old new : List ℕ) (number : ℕ) : Type 0 where
  pub kept : Shows new 0 old 0 (length old)
  pub len : length new ≡ length old + 4
  pub here : u32_at new (length old) ≡ number

-- a pair of a code point and its value is appended
pub record AddsPoint {V : Type 0} (decode : ℕ → Option V) (old new : List ℕ) (c : ℕ) (value : V) : Type 0 where
  pub kept : Shows new 0 old 0 (length old)
  pub len : length new ≡ length old + 8
  pub point : u32_at new (length old) ≡ c
  pub number : decode (u32_at new (length old + 4)) ≡ Some value

-- the checksum of all bytes is appended
pub record AddsChecksum (old new : List ℕ) : Type 0 where
  pub kept : Shows new 0 old 0 (length old)
  pub len : length new ≡ length old + 8
  pub here : u64_at new (length old) ≡ checksum old (length old / 8)

-- `bytes` is a framed image with this version and these pages, brackets and mirrors
pub record Joins (version : Version) (bytes index pages brackets mirrors : List ℕ) : Type 0 where
  pub framed : IsFramed bytes
  pub of_version : image_version bytes ≡ version
  pub page_count : 512 * page_count bytes ≡ length pages
  pub bracket_count : 8 * bracket_count bytes ≡ length brackets
  pub mirror_count : 8 * mirror_count bytes ≡ length mirrors
  pub index_shown : Shows bytes 32 index 0 8704
  pub pages_shown : Shows bytes 8736 pages 0 (length pages)
  pub brackets_shown : Shows bytes (brackets_at bytes) brackets 0 (length brackets)
  pub mirrors_shown : Shows bytes (mirrors_at bytes) mirrors 0 (length mirrors)

-- the page numbers and the pages, as bytes, determine the properties of each code point
pub record ArePages (version : Version) (answers : ℕ → PropertyAnswers) (index pages : List ℕ) : Type 0 where
  pub places : length index ≡ 8704
  pub whole : length pages % 512 ≡ 0
  pub room : length pages ≤ 2228224
  pub within : (block : ℕ) → block < 4352 → 512 * u16_at index (2 * block) + 512 ≤ length pages
  pub valid : (k : ℕ) → 2 * k < length pages → IsTrue (is_entry version (u16_at pages (2 * k)))
  pub same : (c : ℕ) → c < 1114112 → answers_in (u16_at pages (2 * (u16_at index (2 * (c / 256)) * 256 + c % 256))) ≡ answers c
  pub distinct : (p q : ℕ) → p < q → 512 * q + 512 ≤ length pages
      → ¬ ((k : ℕ) → k < 256 → u16_at pages (2 * (p * 256 + k)) ≡ u16_at pages (2 * (q * 256 + k)))
