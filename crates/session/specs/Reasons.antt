-- How the algorithms arrive at the level and the break mark of a character.
use Rattle.std.specs.Prelude.{ℕ, ◌-◌, nat_le, List, [], length, slice_get, slice_index_or, Option, Some, None, if◌then◌else◌}
use Rattle.bidi.specs.LevelReasons.{level_reasons_of}
use Rattle.bidi.specs.declared.level_reason.LevelReason.{LevelReason}
use Rattle.breaks.specs.Reasons.{reasons_of}
use Rattle.breaks.specs.declared.reason.Reason.{Reason}
use Rattle.lines.specs.Layouts.{Layout, Rules}
use Rattle.session.specs.Kept.{pars_of, text_of}
use Rattle.session.specs.Places.{count_to, paragraph_starts}
use Rattle.session.specs.Touched.{start_of}
use Rattle.session.specs.declared.reasons.CharReasons.{CharReasons}

abbrev pub reasons_with : ℕ → Option LevelReason → Option Reason → Option CharReasons
reasons_with start (Some level) (Some mark) = Some (record { paragraph_start = start; level = level; mark = mark })
reasons_with start level mark = None

-- the reasons for character k of a paragraph that starts at `start`
abbrev pub reasons_in : Rules → ℕ → List ℕ → ℕ → Option CharReasons
reasons_in rules start text k =
    reasons_with start (slice_get (level_reasons_of rules.tables text rules.options.base) k)
    (slice_get (reasons_of rules.tables rules.options.whole_numbers text) k)

-- the reasons for the character at a position of a text; `None` past the last character
abbrev pub reasons_at : Rules → List Layout → ℕ → Option CharReasons
reasons_at rules kept pos =
    let i = count_to pos (paragraph_starts kept) - 1 in
    let start = start_of (pars_of kept) i in
    (if nat_le (length (text_of kept)) pos then None else reasons_in rules start (slice_index_or (pars_of kept) i []) (pos - start))
