-- Pages of 256 code points, and the entries that they model.
use Rattle.std.specs.Prelude.{◌≡◌, ℕ, zero, suc, ◌+◌, ◌*◌, ◌/◌, ◌%◌, ◌<◌, ◌≤◌, length, List, [], ◌∷◌, ◌++◌, slice_index, slice_index_or, Option, Some, None, if◌then◌else◌, ◌-◌, drop}
use Rattle.ucd.specs.Answers.{PropertyAnswers, unnamed}
use Rattle.ucd.specs.declared.category.Category.{Category}
use Rattle.ucd.specs.declared.category.Category.TheVariants as category
use Rattle.ucd.specs.declared.emoji.Pictograph.{Pictograph}
use Rattle.ucd.specs.declared.grammar.Entry.{Entry}
use Rattle.ucd.specs.declared.width.Width.{Width}
use Rattle.ucd.specs.declared.width.Width.TheVariants as width

-- The properties of a code point. `index` holds the page number of each block, and `entries` holds the
-- contents of the pages.
abbrev pub answers_at : List ℕ → List PropertyAnswers → ℕ → PropertyAnswers
answers_at index entries c = slice_index_or entries (slice_index index (c / 256) * 256 + c % 256) unnamed

-- entries that assign to each code point below n the value of a function at that code point, if there is one
abbrev pub single : {V : Type 0} → ℕ → Option V → List (Entry V)
single c None = []
single c (Some v) = record { first = c; last = c; value = v } ∷ []

unfoldable pub singles : {V : Type 0} → (ℕ → Option V) → ℕ → List (Entry V)
singles f zero = []
singles f (suc n) = singles f n ++ single n (f n)

-- a general category that results in these properties
abbrev pub category_in : PropertyAnswers → Category
category_in a = if a.is_future_pictograph then category.Unassigned else (if a.is_mark then category.Mark else category.Other)

-- an East Asian width that results in these properties
abbrev pub width_in : PropertyAnswers → Width
width_in a = if a.is_wide then width.Wide else width.Other

-- a pictograph entry that results in these properties, if one is needed
abbrev pub pictograph_in : PropertyAnswers → Option Pictograph
pictograph_in a = if a.is_future_pictograph then Some (record {}) else None

-- the last page of `pages` equals `page`
abbrev pub EndsWithPage : List PropertyAnswers → List PropertyAnswers → Type 0
EndsWithPage pages page = (256 ≤ length pages) × (drop (length pages - 256) pages ≡ page)

-- In `new`, the page with the given number equals `page`. `new` is `old`, possibly with one page appended.
pub record HasPage (old new page : List PropertyAnswers) (number : ℕ) : Type 0 where
  pub whole : length new % 256 ≡ 0
  pub room : length new ≤ length old + 256
  pub within : number * 256 + 256 ≤ length new
  pub here : (k : ℕ) → k < 256 → slice_index_or new (number * 256 + k) unnamed ≡ slice_index_or page k unnamed
  pub others : (i : ℕ) → i < length old → slice_index_or new i unnamed ≡ slice_index_or old i unnamed
  pub longer : length old ≤ length new
