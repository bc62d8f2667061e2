-- Bounds on a list of indices.
use Rattle.std.specs.Prelude.{ℕ, ◌<◌, List, length, slice_index}

-- every index in the list is below `len`
abbrev pub AreWithin : ℕ → List ℕ → Type 0
AreWithin len places = (k : ℕ) → k < length places → slice_index places k < len
