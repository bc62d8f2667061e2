-- The lists from which the reasons for a paragraph's levels are assembled.
use Rattle.std.specs.Prelude.{◌≡◌, ℕ, ◌<◌, ◌==◌, List, length, map, drop, option_map, slice_index_or, unwrap_or}
use Rattle.std.specs.List.{range_with_len}
use Rattle.ucd.specs.declared.bidi_class.BidiClass.{BidiClass}
use Rattle.bidi.specs.declared.level_reason.Parts.{Parts}
use Rattle.bidi.specs.Isolates.{matches_of}
use Rattle.bidi.specs.LevelReasons.{index_of, resolved_in}
use Rattle.bidi.specs.Reasons.{explicit_steps, index_from, Sequence}
use Rattle.bidi.specs.Sequences.{retained}

-- `new` is `old` after these writes: for each k from `from` on, in descending order, `value k` at the index
-- that item k of `items` gives
pub record IsFilled {X : Type 0} (items : List ℕ) (value : ℕ → X) (old : List X) (from : ℕ) (new : List X) : Type 0 where
  pub size : length new ≡ length old
  pub each : (q : ℕ) (other : X) → q < length old
      → slice_index_or new q other ≡ unwrap_or (option_map value (index_from (λ item. item == q) from (drop from items))) (slice_index_or old q other)

-- all lists except `resolved` have `len` items, one for each character
pub record AreSized (len : ℕ) (parts : Parts) : Type 0 where
  pub classes : length parts.classes.now ≡ len
  pub matches : length parts.matches.now ≡ len
  pub explicit : length parts.explicit.now ≡ len
  pub levels : length parts.levels.now ≡ len
  pub initiators : length parts.initiators.now ≡ len
  pub indices : length parts.indices.now ≡ len

-- the lists of a paragraph with these classes, in which each FSI has been replaced by the initiator that it acts as
pub record AreParts (classes : List BidiClass) (base : ℕ) (sequences : List Sequence) (parts : Parts) : Type 0 where
  pub matches_are : parts.matches.now ≡ matches_of classes
  pub explicit_are : parts.explicit.now ≡ explicit_steps base classes
  pub initiators_are : parts.initiators.now ≡ map (index_of (matches_of classes)) (range_with_len 0 (length classes))
  pub indices_are : parts.indices.now ≡ map (index_of (retained classes)) (range_with_len 0 (length classes))
  pub resolved_are : parts.resolved.now ≡ map (resolved_in (retained classes) sequences) (range_with_len 0 (length (retained classes)))
