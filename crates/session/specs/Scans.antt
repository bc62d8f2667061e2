-- What the fields of a scan hold after it has read a text.
use Rattle.std.specs.Prelude.{◌≡◌, ℕ, ◌-◌, min, Bool, true, not, List, [], length, drop, slice_get, slice_index_or, sum}
use Rattle.bidi.specs.Cuts.{paragraphs}
use Rattle.session.specs.Edits.{are_within, have_room}
use Rattle.session.specs.declared.room.RoomScan.{RoomScan}
use Rattle.session.specs.declared.scan.Scan.{Scan}
use Rattle.lines.specs.declared.engine.TheConstants.{PARAGRAPH_LIMIT}

abbrev pub is_long_scan : Scan → Bool
is_long_scan scan = scan.is_long

-- whether a scan holds the last character of a text, the length of the last paragraph (capped at the limit)
-- and, in `is_long`, whether any paragraph is too long
pub record HasScanned (is_cut : ℕ → ℕ → Bool) (text : List ℕ) (scan : Scan) : Type 0 where
  pub last : scan.last ≡ slice_get text (length text - 1)
  pub len : scan.len ≡ min (length (slice_index_or (paragraphs is_cut text) (length (paragraphs is_cut text) - 1) [])) PARAGRAPH_LIMIT
  pub is_long : scan.is_long ≡ not (are_within (paragraphs is_cut text))

abbrev pub is_over_scan : RoomScan → Bool
is_over_scan scan = scan.is_over

-- the last paragraph of a text
abbrev pub last_paragraph : List (List ℕ) → List ℕ
last_paragraph pars = slice_index_or pars (length pars - 1) []

-- Whether a scan holds the last character of a text and, in `is_over`, whether the advances of any paragraph
-- add up to 2^32 or more. If there is no such paragraph, the scan also holds the sum of the last paragraph's
-- advances.
pub record HasSummed (is_cut : ℕ → ℕ → Bool) (text advances : List ℕ) (scan : RoomScan) : Type 0 where
  pub last : scan.last ≡ slice_get text (length text - 1)
  pub each : length advances ≡ length text
  pub is_over : scan.is_over ≡ not (have_room advances (paragraphs is_cut text))
  pub sum_is : have_room advances (paragraphs is_cut text) ≡ true
      → scan.sum ≡ sum (drop (length text - length (last_paragraph (paragraphs is_cut text))) advances)
