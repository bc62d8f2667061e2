-- The joining type of each code point, in pages of 256 code points.
use Rattle.std.specs.Prelude.{◌≡◌, ℕ, ◌+◌, ◌*◌, ◌/◌, ◌%◌, ◌<◌, ◌≤◌, length, List, slice_index, slice_index_or, Option, None, unwrap_or}
use Rattle.std.specs.Option.{option_or}
use Rattle.ucd.specs.declared.joining_type.JoiningType.{JoiningType}
use Rattle.ucd.specs.declared.joining_type.JoiningType.TheVariants.{NonJoining}

-- The joining type of a code point. `index` holds the page number of each block, and `entries` holds the contents of the pages.
abbrev pub type_at : List ℕ → List JoiningType → ℕ → JoiningType
type_at index entries c = slice_index_or entries (slice_index index (c / 256) * 256 + c % 256) NonJoining

-- the type from ArabicShaping.txt, or else that from UnicodeData.txt, or else U
abbrev pub merged : Option JoiningType → Option JoiningType → JoiningType
merged shaping_type data_type = unwrap_or (option_or shaping_type data_type) NonJoining

abbrev pub merged_at : List (Option JoiningType) → List (Option JoiningType) → ℕ → JoiningType
merged_at shaping_types data_types c = merged (slice_index_or shaping_types c None) (slice_index_or data_types c None)

-- In `new`, the page with the given number equals `page`. `new` is `old`, possibly with one page appended.
pub record HasTypes (old new page : List JoiningType) (number : ℕ) : Type 0 where
  pub whole : length new % 256 ≡ 0
  pub room : length new ≤ length old + 256
  pub within : number * 256 + 256 ≤ length new
  pub here : (k : ℕ) → k < 256 → slice_index_or new (number * 256 + k) NonJoining ≡ slice_index_or page k NonJoining
  pub others : (i : ℕ) → i < length old → slice_index_or new i NonJoining ≡ slice_index_or old i NonJoining
  pub longer : length old ≤ length new

-- the index and the entries determine the joining type of each code point in the first `place` blocks
pub record HoldsTypes (types : ℕ → JoiningType) (index : List ℕ) (entries : List JoiningType) (place : ℕ) : Type 0 where
  pub places : length index ≡ place
  pub whole : length entries % 256 ≡ 0
  pub room : length entries ≤ 256 * place
  pub within : (p : ℕ) → p < place → slice_index index p * 256 + 256 ≤ length entries
  pub same : (c : ℕ) → c < place * 256 → type_at index entries c ≡ types c
