-- The characters of a line in visual order, as they are shown (UAX #9, L4).
use Rattle.std.specs.Prelude.{ℕ, List, map, slice_index, unwrap_or, if◌then◌else◌}
use Rattle.ucd.specs.Tables.{mirror_of}
use Rattle.ucd.specs.declared.tables.Tables.{Tables}
use Rattle.reorder.specs.Order.{is_odd}

module _ (t : Tables) where
  -- a character, replaced by its mirror if it is at an odd level and has one
  abbrev pub mirrored : ℕ → ℕ → ℕ
  mirrored level c = if is_odd level then unwrap_or (mirror_of t c) c else c

  -- the characters of a line at the positions in `vtol`, as they are shown
  abbrev pub visual_chars : List ℕ → List ℕ → List ℕ → List ℕ
  visual_chars levels text vtol = map (λ i. mirrored (slice_index levels i) (slice_index text i)) vtol
