-- Level runs and isolating run sequences (UAX #9, X9, X10, BD7 and BD13). Indices refer to the list of
-- characters that X9 keeps. This list contains all isolate initiators and PDIs of the paragraph, so they
-- match in the same way as in the paragraph.
use Rattle.std.specs.Prelude.{ℕ, ◌+◌, ◌-◌, ◌%◌, ◌==◌, max, Bool, false, ◌&&◌, not, List, [], ◌∷◌, ◌++◌, length, filter, slice_index, Option, Some, None, is_none, if◌then◌else◌}
use Rattle.std.specs.List.{list_any, range_with_len}
use Rattle.ucd.specs.declared.bidi_class.BidiClass.{BidiClass}
use Rattle.ucd.specs.declared.bidi_class.BidiClass.TheVariants.{L, R}
use Rattle.ucd.specs.Classes.{class_at, is_initiator, is_removed}
use Rattle.bidi.specs.Base.{match_of}
use Rattle.bidi.specs.Cuts.{paragraphs}

-- the indices of the characters that X9 keeps in a paragraph
abbrev pub retained : List BidiClass → List ℕ
retained classes = filter (λ k. not (is_removed (class_at classes k))) (range_with_len 0 (length classes))

-- BD7: level runs are the parts of the list between changes of level
abbrev pub changes : List ℕ → ℕ → ℕ → Bool
changes levels j k = not (slice_index levels j == slice_index levels k)

abbrev pub runs : List ℕ → List (List ℕ)
runs levels = paragraphs (changes levels) (range_with_len 0 (length levels))

abbrev pub first_of : List ℕ → ℕ
first_of run = slice_index run 0

abbrev pub last_of : List ℕ → ℕ
last_of run = slice_index run (length run - 1)

abbrev pub is_match : Option ℕ → ℕ → Bool
is_match (Some j) k = j == k
is_match None k = false

module _ (classes : List BidiClass) where
  -- BD13: whether a run continues in `next`: its last character is an isolate initiator, and `next` begins
  -- with the matching PDI
  abbrev pub continues_in : List ℕ → List ℕ → Bool
  continues_in run next = is_initiator (class_at classes (last_of run)) && is_match (match_of classes (last_of run)) (first_of next)

  -- a run joined with the later runs in which it continues
  abbrev pub joined : List ℕ → List (List ℕ) → List ℕ
  joined run [] = run
  joined run (next ∷ later) = if continues_in run next then run ++ joined next later else joined run later

  -- one sequence for each run in which no earlier run continues
  abbrev pub sequences_from : List (List ℕ) → List (List ℕ) → List (List ℕ)
  sequences_from earlier [] = []
  sequences_from earlier (run ∷ later) =
      if list_any (λ before. continues_in before run) earlier then sequences_from (run ∷ earlier) later
      else joined run later ∷ sequences_from (run ∷ earlier) later

  abbrev pub sequences : List ℕ → List (List ℕ)
  sequences levels = sequences_from [] (runs levels)

-- the direction of a level
abbrev pub direction : ℕ → BidiClass
direction level = if level % 2 == 1 then R else L

-- X10: sos and eos, determined by the higher of the two levels at each end of a sequence
module _ (base : ℕ) (levels : List ℕ) where
  abbrev pub level_before : ℕ → ℕ
  level_before k = if k == 0 then base else slice_index levels (k - 1)

  abbrev pub sos : List ℕ → BidiClass
  sos sequence = direction (max (slice_index levels (first_of sequence)) (level_before (first_of sequence)))

module _ (base : ℕ) (classes : List BidiClass) (levels : List ℕ) where
  -- The level after index k: the level of the next character. At the end of the list, and after an initiator
  -- without a match, it is the paragraph level.
  abbrev pub level_after : ℕ → ℕ
  level_after k =
      if is_initiator (class_at classes k) && is_none (match_of classes k) then base
      else (if k + 1 == length levels then base else slice_index levels (k + 1))

  abbrev pub eos : List ℕ → BidiClass
  eos sequence = direction (max (slice_index levels (last_of sequence)) (level_after (last_of sequence)))
