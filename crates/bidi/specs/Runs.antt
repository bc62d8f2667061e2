-- Level runs as ranges of indices, found by a pass over a list of levels.
use Rattle.std.specs.Prelude.{◌≡◌, ◌≢◌, ℕ, ◌-◌, ◌<◌, ◌≤◌, Bool, true, nat_lt, ◌==◌, ◌&&◌, not, List, [], ◌∷◌, length, slice_index, slice_set, Option, Some, None, if◌then◌else◌}
use Rattle.std.specs.List.{range_with_len}
use Rattle.ucd.specs.declared.bidi_class.BidiClass.{BidiClass}
use Rattle.bidi.specs.Cuts.{paragraphs}
use Rattle.bidi.specs.Sequences.{changes, joined}

-- the level run from `start` ends before `end`: its levels are equal, and the level at `end`, if any, differs
pub record IsRunEnd (levels : List ℕ) (start end : ℕ) : Type 0 where
  pub above : start < end
  pub within : end ≤ length levels
  pub same : (k : ℕ) → start < k → k < end → slice_index levels (k - 1) ≡ slice_index levels k
  pub other : end < length levels → slice_index levels (end - 1) ≢ slice_index levels end

-- the level runs from the index `start` on
abbrev pub runs_from : List ℕ → ℕ → List (List ℕ)
runs_from levels start = paragraphs (changes levels) (range_with_len start (length levels - start))

-- the first run, joined with the later runs in which it continues (BD13)
abbrev pub joined_first : List BidiClass → List (List ℕ) → List ℕ
joined_first classes [] = []
joined_first classes (run ∷ later) = joined classes run later

abbrev pub sequence_at : List BidiClass → List ℕ → ℕ → List ℕ
sequence_at classes levels start = joined_first classes (runs_from levels start)

-- the index k, if a run begins there because the level at k differs from the level before k
abbrev pub next_start : List ℕ → ℕ → Option ℕ
next_start levels k = if nat_lt k (length levels) && not (slice_index levels k == slice_index levels (k - 1)) then Some k else None

-- the list of flags, with the flag at the given index set, if an index is given
abbrev pub flagged : List Bool → Option ℕ → List Bool
flagged flags None = flags
flagged flags (Some place) = slice_set flags place true
