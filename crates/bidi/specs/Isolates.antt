-- The matches of all initiators, as a list (UAX #9, BD9).
use Rattle.std.specs.Prelude.{ℕ, List, length, map, unwrap_or, if◌then◌else◌}
use Rattle.std.specs.List.{range_with_len}
use Rattle.ucd.specs.declared.bidi_class.BidiClass.{BidiClass}
use Rattle.ucd.specs.Classes.{class_at, is_initiator}
use Rattle.bidi.specs.Base.{match_of}

-- the match of the initiator at k, or the length of the list if there is no initiator at k or it has no match
abbrev pub match_at : List BidiClass → ℕ → ℕ
match_at classes k = if is_initiator (class_at classes k) then unwrap_or (match_of classes k) (length classes) else length classes

abbrev pub matches_of : List BidiClass → List ℕ
matches_of classes = map (match_at classes) (range_with_len 0 (length classes))
