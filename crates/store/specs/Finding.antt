-- The result of a search in a list of items: the item that contains a character, line, byte or code unit.
use Rattle.std.specs.Prelude.{◌≡◌, ℕ, ◌+◌, ◌<◌, List, ◌∷◌, ◌++◌, length, take, sum_by}
use Rattle.store.specs.Sums.{measure, AreSums}
use Rattle.store.specs.declared.found.Found.{Found}
use Rattle.store.specs.declared.found.Position.{Position}
use Rattle.store.specs.declared.measured.Measured.{Ghosts}
use Rattle.store.specs.declared.sums.Unit.{Unit as Counted}

-- The character, line, byte or code unit with number n, counted from 0 across all items, is number `rest`
-- within the item at `index`.
pub record Finds {P : Type 0} (size chars lines : P → ℕ) (items : List P) (n : ℕ) (found : Found) : Type 0 where
  pub before : List P
  pub item : P
  pub after : List P
  pub place : items ≡ before ++ item ∷ after
  pub index : found.index ≡ length before
  pub rest : sum_by size before + found.rest ≡ n
  pub within : found.rest < size item
  pub chars_before : found.chars_before ≡ sum_by chars before
  pub lines_before : found.lines_before ≡ sum_by lines before

-- the item at an index, with the numbers of characters and lines in the items before it
pub record FindsItem {P : Type 0} (chars lines : P → ℕ) (items : List P) (index : ℕ) (found : Found) : Type 0 where
  pub index_is : found.index ≡ index
  pub rest : found.rest ≡ 0
  pub chars_before : found.chars_before ≡ sum_by chars (take index items)
  pub lines_before : found.lines_before ≡ sum_by lines (take index items)

-- the numbers of bytes and UTF-16 code units in the items before the found item
pub record CountsBefore {P : Type 0} (bytes utf16 : P → ℕ) (items : List P) (found : Found) : Type 0 where
  pub bytes_before : found.bytes_before ≡ sum_by bytes (take found.index items)
  pub utf16_before : found.utf16_before ≡ sum_by utf16 (take found.index items)

-- converts a position to a search result
abbrev pub found_at : Position → Found
found_at position = record {
  index = position.index;
  rest = position.rest;
  chars_before = position.before.chars;
  lines_before = position.before.lines;
  bytes_before = position.before.bytes;
  utf16_before = position.before.utf16;
  visits = position.visits;
}

-- whether the position is that of the character, line, byte or code unit with number n, and `position.before` holds
-- the sums of the items before the found one
pub record IsPosition {P : Type 0} (G : Ghosts P) (unit : Counted) (items : List P) (n : ℕ) (position : Position) : Type 0 where
  pub finds : Finds (measure G unit) G.chars G.lines items n (found_at position)
  pub sums : AreSums G finds.before position.before

-- whether the position is the start of the item at an index, and `position.before` holds the sums of the items
-- before it
pub record IsItemPosition {P : Type 0} (G : Ghosts P) (items : List P) (index : ℕ) (position : Position) : Type 0 where
  pub index_is : position.index ≡ index
  pub rest : position.rest ≡ 0
  pub sums : AreSums G (take index items) position.before
