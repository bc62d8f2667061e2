-- Which paragraphs an edit touches, where they are, and how many characters the edit analyses.
use Rattle.std.specs.Prelude.{◌≡◌, ℕ, ◌+◌, ◌-◌, ◌<◌, ◌≤◌, nat_le, Bool, ◌&&◌, List, [], length, take, count_by, unwrap_or}
use Rattle.std.specs.List.{concat, range_with_len, slice_range}
use Rattle.ucd.specs.Least.{least}
use Rattle.session.specs.Edits.{Replacement}

-- the start of the paragraph at an index, which is the end of the one before it
abbrev pub start_of : List (List ℕ) → ℕ → ℕ
start_of pars i = length (concat (take i pars))

module _ (pars : List (List ℕ)) (edit : Replacement) where
  -- whether the edited range overlaps paragraph i or is adjacent to it
  abbrev pub is_touched : ℕ → Bool
  is_touched i = nat_le (start_of pars i) (edit.pos + edit.count) && nat_le edit.pos (start_of pars (i + 1))

  -- the first touched paragraph
  abbrev pub first_touched : ℕ
  first_touched = unwrap_or (least is_touched 0 (length pars)) 0

  -- the number of touched paragraphs
  abbrev pub touched_count : ℕ
  touched_count = count_by is_touched (range_with_len 0 (length pars))

  -- the length of the text that replaces the touched paragraphs
  abbrev pub fresh : ℕ
  fresh = length (concat (slice_range pars first_touched (first_touched + touched_count))) - edit.count + length edit.piece

-- `piece` replaces the characters from position `from` up to `to`
abbrev pub region_edit : ℕ → ℕ → List ℕ → Replacement
region_edit from to piece = record { pos = from; count = to - from; piece = piece }

-- adjacent paragraphs: from index `first` up to `end`, with the characters from position `start` up to `stop`
pub record Span : Type 0 where
  pub first : ℕ
  pub end : ℕ
  pub start : ℕ
  pub stop : ℕ

-- The paragraphs that an edit of the characters from `pos` up to `end` touches. If another paragraph precedes
-- them, they contain a character before the edited range. If another paragraph follows them, they contain a
-- character after that range.
pub record AreTouched (pars : List (List ℕ)) (pos end : ℕ) (touched : Span) : Type 0 where
  pub first : touched.first ≡ first_touched pars (region_edit pos end [])
  pub count : touched.end ≡ touched.first + touched_count pars (region_edit pos end [])
  pub within : touched.end ≤ length pars
  pub start : touched.start ≡ start_of pars touched.first
  pub stop : touched.stop ≡ start_of pars touched.end
  pub before : touched.start ≤ pos
  pub after : end ≤ touched.stop
  pub before_strictly : 0 < touched.start → touched.start < pos
  pub after_strictly : touched.stop < length (concat pars) → end < touched.stop
