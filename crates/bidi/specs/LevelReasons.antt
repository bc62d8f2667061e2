-- How the algorithm arrives at the level of each character (UAX #9): a list with one item for each character
-- of the paragraph. Positions are indices in the paragraph.
use Rattle.std.specs.Prelude.{ℕ, ◌==◌, not, List, [], ◌∷◌, length, map, slice_index, Option, None, option_map, unwrap_or, if◌then◌else◌}
use Rattle.std.specs.List.{range_with_len, slice_get}
use Rattle.std.specs.Option.{option_and_then}
use Rattle.ucd.specs.declared.bidi_class.BidiClass.{BidiClass}
use Rattle.ucd.specs.declared.tables.Tables.{Tables}
use Rattle.ucd.specs.Classes.{class_at, is_initiator, is_removed}
use Rattle.ucd.specs.Tables.{bracket_of, class_of}
use Rattle.bidi.specs.declared.base.Base.{Base}
use Rattle.bidi.specs.declared.level_reason.LevelReason.{LevelReason}
use Rattle.bidi.specs.declared.level_reason.SequenceReason.{SequenceReason}
use Rattle.bidi.specs.declared.sequence_steps.SequenceStep.{SequenceStep}
use Rattle.bidi.specs.Base.{base_level_of, match_of}
use Rattle.bidi.specs.Brackets.{greatest}
use Rattle.bidi.specs.Explicit.{directed}
use Rattle.bidi.specs.Isolates.{matches_of}
use Rattle.bidi.specs.Levels.{levels_of}
use Rattle.bidi.specs.Reasons.{explicit_step, index_from, Sequence, sequences_by}
use Rattle.bidi.specs.Sequences.{retained}

-- the index of the first item that equals k, if there is one
abbrev pub index_of : List ℕ → ℕ → Option ℕ
index_of items k = index_from (λ item. item == k) 0 items

-- BD9: the position of the PDI that matches an initiator at p, or of the initiator that a PDI at p matches,
-- if any
abbrev pub matching : List BidiClass → ℕ → Option ℕ
matching classes p = if is_initiator (class_at classes p) then match_of classes p else index_of (matches_of classes) p

-- `kept` lists the positions of the characters that X9 keeps, and `places` the indices of a sequence's characters
-- in this list
module _ (kept places : List ℕ) where
  -- the position of the character at index k of the sequence
  abbrev pub position : ℕ → ℕ
  position k = slice_index kept (slice_index places k)

  -- a step of the sequence, with positions in place of its indices
  abbrev pub moved : SequenceStep → SequenceStep
  moved step = record step {
    bracket = record step.bracket { partner = option_map position step.bracket.partner; inside = option_map position step.bracket.inside };
    neutral = record step.neutral { left = option_map position step.neutral.left; right = option_map position step.neutral.right };
  }

-- what the rules W1 to I2 do with the character at index k of a sequence, or `None` past its end
abbrev pub reason_in : List ℕ → Sequence → ℕ → Option SequenceReason
reason_in kept sequence k = option_map (λ step. record {
  sequence = position kept sequence.places 0;
  level = sequence.level;
  sos = sequence.sos;
  eos = sequence.eos;
  step = moved kept sequence.places step;
}) (slice_get sequence.steps k)

-- what the rules W1 to I2 do with the kept character at index q in the first sequence that contains it, or
-- `None` if none does
abbrev pub resolved_in : List ℕ → List Sequence → ℕ → Option SequenceReason
resolved_in kept [] q = None
resolved_in kept (sequence ∷ later) q = unwrap_or (option_map (reason_in kept sequence) (index_of sequence.places q)) (resolved_in kept later q)

-- The reason for the level of the character at p, given the classes, the paragraph level, the sequences and the
-- levels. In `acting`, each FSI has been replaced by the initiator that it acts as. If X9 removes the character, it
-- has no index among the kept characters, and the nearest kept character before it determines its level.
abbrev pub level_reason : List BidiClass → List BidiClass → ℕ → List Sequence → List ℕ → ℕ → LevelReason
level_reason classes acting base sequences levels p = record {
  class = class_at classes p;
  explicit = explicit_step base acting p;
  matching = matching acting p;
  level = slice_index levels p;
  resolved = option_and_then (resolved_in (retained acting) sequences) (index_of (retained acting) p);
  level_from = if is_removed (class_at acting p) then greatest (λ k. not (is_removed (class_at acting k))) p else None;
}

abbrev pub level_reasons_of : Tables → List ℕ → Base → List LevelReason
level_reasons_of tables text base =
    let classes = map (class_of tables) text in
    let level = base_level_of classes base in
    map (level_reason classes (directed classes) level (sequences_by (bracket_of tables) text (directed classes) level) (levels_of tables text base))
    (range_with_len 0 (length text))

-- the level in each reason
abbrev pub levels_in : List LevelReason → List ℕ
levels_in reasons = map (λ reason. reason.level) reasons
