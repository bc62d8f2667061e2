-- Lists of pages, no two of which are equal.
use Rattle.std.specs.Prelude.{◌≡◌, ℕ, ◌+◌, ◌*◌, ◌%◌, ◌<◌, ◌≤◌, ◌&&◌, false, List, length, slice_index, slice_index_or}
use Rattle.ucd.specs.Answers.{PropertyAnswers, unnamed}
use Rattle.ucd.specs.Pages.{answers_at}
use Rattle.ucd.specs.Versions.{IsOfVersion}
use Rattle.ucd.specs.declared.version.Version.{Version}

-- an image of tables of this version can contain these properties
pub record IsEntryOf (version : Version) (a : PropertyAnswers) : Type 0 where
  pub apart : (a.is_mark && a.is_future_pictograph) ≡ false
  pub number : IsOfVersion version a

abbrev pub AreEntriesOf : Version → List PropertyAnswers → Type 0
AreEntriesOf version entries = (i : ℕ) → IsEntryOf version (slice_index_or entries i unnamed)

-- the page with number p equals `page`
abbrev pub IsPage : List PropertyAnswers → ℕ → List PropertyAnswers → Type 0
IsPage entries p page = (k : ℕ) → k < 256 → slice_index_or entries (p * 256 + k) unnamed ≡ slice_index_or page k unnamed

-- no two pages are equal
abbrev pub AreDistinct : List PropertyAnswers → Type 0
AreDistinct entries = (p q : ℕ) → p < q → q * 256 + 256 ≤ length entries
    → ¬ ((k : ℕ) → k < 256 → slice_index_or entries (p * 256 + k) unnamed ≡ slice_index_or entries (q * 256 + k) unnamed)

-- the index and the entries determine the properties of each code point in the first `place` blocks
pub record HoldsPages (answers : ℕ → PropertyAnswers) (index : List ℕ) (entries : List PropertyAnswers) (place : ℕ) : Type 0 where
  pub places : length index ≡ place
  pub whole : length entries % 256 ≡ 0
  pub room : length entries ≤ 256 * place
  pub within : (p : ℕ) → p < place → slice_index index p * 256 + 256 ≤ length entries
  pub same : (c : ℕ) → c < place * 256 → answers_at index entries c ≡ answers c
