-- The tables of single characters: an index of pages, pages with an entry for each of 256 code points, and the values
-- of the entries.
use Rattle.std.specs.Prelude.{ℕ, ◌+◌, ◌*◌, ◌/◌, ◌%◌, ◌==◌, ◌&&◌, List, length, map, slice_index, slice_index_or, if◌then◌else◌}
use Rattle.std.specs.List.{range_with_len}

-- The entry of a code point. All code points past the end of the index are in page 0.
abbrev pub entry_at : List ℕ → List ℕ → ℕ → ℕ
entry_at index pages c = slice_index_or pages (slice_index_or index (c / 256) 0 * 256 + c % 256) 0

-- the type of a code point, which is its entry
abbrev pub type_at : List ℕ → List ℕ → ℕ → ℕ
type_at index pages c = entry_at index pages c

-- the mirror or bracket of a code point: the value that its entry refers to, which is 0 for most code points
abbrev pub number_at : List ℕ → List ℕ → List ℕ → ℕ → ℕ
number_at index pages numbers c = slice_index_or numbers (entry_at index pages c) 0

-- the bracket of a code point: 0 unless its type is ON
abbrev pub bracket_at : List ℕ → List ℕ → List ℕ → ℕ → ℕ → ℕ
bracket_at index pages numbers c type = if type == 64 then number_at index pages numbers c else 0

-- an array after the types or brackets of a string's code points were written to it; unchanged if the lengths
-- differ
abbrev pub types_at : List ℕ → List ℕ → List ℕ → List ℕ → List ℕ
types_at index pages characters old = if length old == length characters then map (type_at index pages) characters else old

abbrev pub brackets_by : List ℕ → List ℕ → List ℕ → List ℕ → List ℕ → List ℕ
brackets_by index pages numbers characters types =
    map (λ k. bracket_at index pages numbers (slice_index characters k) (slice_index types k)) (range_with_len 0 (length characters))

abbrev pub brackets_at : List ℕ → List ℕ → List ℕ → List ℕ → List ℕ → List ℕ → List ℕ
brackets_at index pages numbers characters types old =
    if length types == length characters && length old == length characters then brackets_by index pages numbers characters types else old
