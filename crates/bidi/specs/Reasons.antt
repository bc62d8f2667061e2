-- How the algorithm arrives at each level: the types after each step, and what the rules read.
use Rattle.std.specs.Prelude.{◌≡◌, ℕ, suc, ◌+◌, Bool, not, List, [], ◌∷◌, length, map, slice_index, Option, Some, None, if◌then◌else◌}
use Rattle.ucd.specs.declared.bidi_class.BidiClass.{BidiClass}
use Rattle.std.specs.List.{range_with_len}
use Rattle.ucd.specs.Classes.{class_at}
use Rattle.ucd.specs.Tables.{bracket_of, class_of}
use Rattle.ucd.specs.declared.tables.Tables.{Tables}
use Rattle.bidi.specs.Base.{base_level_of}
use Rattle.bidi.specs.Isolates.{matches_of}
use Rattle.bidi.specs.Levels.{levels_of}
use Rattle.bidi.specs.declared.base.Base.{Base}
use Rattle.bidi.specs.declared.paragraph_reasons.ParagraphReasons.{ParagraphReasons}
use Rattle.ucd.specs.declared.bracket.Bracket.{Bracket}
use Rattle.bidi.specs.Brackets.{brackets}
use Rattle.bidi.specs.BracketSteps.{bracket_step}
use Rattle.bidi.specs.Explicit.{directed, inside_at, level_at, opener_at, type_at}
use Rattle.bidi.specs.Neighbours.{nearest}
use Rattle.bidi.specs.Neutral.{agree, implicit_level, is_neutral, neutral_at}
use Rattle.bidi.specs.Sequences.{direction, eos, first_of, sequences, sos, retained}
use Rattle.bidi.specs.Weak.{is_left, w1, w2, w3, w4, w5, w6, weak}
use Rattle.bidi.specs.declared.bracket_steps.BracketStep.{BracketStep}
use Rattle.bidi.specs.declared.explicit_steps.ExplicitStep.{ExplicitStep}
use Rattle.bidi.specs.declared.neutral_steps.NeutralRule.{NeutralRule}
use Rattle.bidi.specs.declared.neutral_steps.NeutralRule.TheVariants.{N1, N2}
use Rattle.bidi.specs.declared.neutral_steps.NeutralStep.{NeutralStep}
use Rattle.bidi.specs.declared.sequence_reasons.SequenceReasons.{SequenceReasons}
use Rattle.bidi.specs.declared.sequence_steps.SequenceStep.{SequenceStep}

-- X1 to X8 for the character at k: its explicit level and type, and the override and opener that apply to it
abbrev pub explicit_step : ℕ → List BidiClass → ℕ → ExplicitStep
explicit_step base classes k = record {
  level = level_at base classes k;
  class = type_at base classes k;
  overriding = (inside_at base classes k).override;
  opener = opener_at base classes k;
}

abbrev pub explicit_steps : ℕ → List BidiClass → List ExplicitStep
explicit_steps base classes = map (explicit_step base classes) (range_with_len 0 (length classes))

module _ {T : Type 0} (test : T → Bool) where
  -- the index of the nearest item that passes the test, if any does; the list holds the items before some
  -- index, nearest first
  abbrev pub index_before : List T → Option ℕ
  index_before [] = None
  index_before (item ∷ before) = if test item then Some (length before) else index_before before

  -- the index of the first item that passes the test, if any does; the first item of the list has index k
  abbrev pub index_from : ℕ → List T → Option ℕ
  index_from k [] = None
  index_from k (item ∷ after) = if test item then Some k else index_from (suc k) after

-- the result of a rule for each item of a list; the rule has the same arguments as in `each_by`
abbrev pub each_into : {T U : Type 0} → (List T → T → List T → U) → List T → List T → List U
each_into rule before [] = []
each_into rule before (item ∷ after) = rule before item after ∷ each_into rule (item ∷ before) after

-- N1 and N2: which of the two rules applies to a run of neutrals, given the types on both sides
abbrev pub rule_between : BidiClass → BidiClass → NeutralRule
rule_between before after = if agree (is_left before) (is_left after) then N1 else N2

-- N1 and N2 for a type: the type after these rules. For a neutral, also the rule that decides, and the indices of
-- the types on both sides of its run. A side without an index is sos or eos.
module _ (embedding sos eos : BidiClass) where
  abbrev pub neutral_step : List BidiClass → BidiClass → List BidiClass → NeutralStep
  neutral_step before type after = record {
    class = neutral_at embedding sos eos before type after;
    rule = if is_neutral type
        then Some (rule_between (nearest (λ type. not (is_neutral type)) sos before) (nearest (λ type. not (is_neutral type)) eos after))
        else None;
    left = if is_neutral type then index_before (λ type. not (is_neutral type)) before else None;
    right = if is_neutral type then index_from (λ type. not (is_neutral type)) (length before + 1) after else None;
  }

  abbrev pub neutral_steps : List BidiClass → List NeutralStep
  neutral_steps types = each_into neutral_step [] types

-- the result of a function for each item of a list; its arguments are the item's index, counted from k, and
-- the item
abbrev pub numbered : {T U : Type 0} → (ℕ → T → U) → ℕ → List T → List U
numbered f k [] = []
numbered f k (item ∷ items) = f k item ∷ numbered f (suc k) items

-- What each rule does with the character at index k of a sequence. `types` holds the explicit types, `paired`
-- the types after N0, and `bracket` what N0 does with each character.
module _ (level : ℕ) (sos : BidiClass) (types paired : List BidiClass) (bracket : ℕ → BracketStep) where
  abbrev pub sequence_step : ℕ → NeutralStep → SequenceStep
  sequence_step k neutral = record {
    w1 = class_at (w1 sos types) k;
    w2 = class_at (w2 sos (w1 sos types)) k;
    w3 = class_at (w3 (w2 sos (w1 sos types))) k;
    w4 = class_at (w4 (w3 (w2 sos (w1 sos types)))) k;
    w5 = class_at (w5 (w4 (w3 (w2 sos (w1 sos types))))) k;
    w6 = class_at (w6 (w5 (w4 (w3 (w2 sos (w1 sos types)))))) k;
    w7 = class_at (weak sos types) k;
    n0 = class_at paired k;
    bracket = bracket k;
    neutral = neutral;
    level = implicit_level level neutral.class;
  }

-- what the rules W1 to I2 do with each character of a sequence at the given level
abbrev pub sequence_steps : (ℕ → Option Bracket) → ℕ → BidiClass → BidiClass → List ℕ → List BidiClass → List SequenceStep
sequence_steps bracket_of level sos eos characters types =
    let paired = brackets bracket_of (direction level) sos characters types (weak sos types) in
    let bracket = bracket_step bracket_of (direction level) sos characters types (weak sos types) in
    numbered (sequence_step level sos types paired bracket) 0 (neutral_steps (direction level) sos eos paired)

-- the levels after I1 and I2
abbrev pub levels_in : List SequenceStep → List ℕ
levels_in steps = map (λ step. step.level) steps

-- A sequence. `places` holds the indices of its characters in the list of characters that X9 keeps, and
-- `steps` what the rules W1 to I2 do with each character.
pub record Sequence : Type 0 where
  pub places : List ℕ
  pub level : ℕ
  pub sos : BidiClass
  pub eos : BidiClass
  pub steps : List SequenceStep

abbrev pub sequence_of : SequenceReasons → Sequence
sequence_of found = record { places = found.places.items; level = found.level; sos = found.sos; eos = found.eos; steps = found.steps.items }

-- The sequences of a paragraph, and what the rules do with them. As in `resolved`, the lists have one item
-- for each character that X9 keeps.
module _ (bracket_of : ℕ → Option Bracket) (base : ℕ) (characters : List ℕ) (classes : List BidiClass) (levels : List ℕ) (types : List BidiClass) where
  abbrev pub sequence_reasons : List ℕ → Sequence
  sequence_reasons sequence = record {
    places = sequence;
    level = slice_index levels (first_of sequence);
    sos = sos base levels sequence;
    eos = eos base classes levels sequence;
    steps = sequence_steps bracket_of (slice_index levels (first_of sequence)) (sos base levels sequence) (eos base classes levels sequence)
        (map (slice_index characters) sequence) (map (class_at types) sequence);
  }

  abbrev pub all_sequences : List Sequence
  all_sequences = map sequence_reasons (sequences classes levels)

-- the sequences of a paragraph, given its characters, their classes and the paragraph level, as in `levels_by`
abbrev pub sequences_by : (ℕ → Option Bracket) → List ℕ → List BidiClass → ℕ → List Sequence
sequences_by bracket_of text classes base =
    let places = retained classes in
    all_sequences bracket_of base (map (slice_index text) places) (map (class_at classes) places) (map (level_at base classes) places) (map (type_at base classes) places)

-- `reasons` holds what each rule does with the characters of a paragraph
pub record AreReasons (tables : Tables) (text : List ℕ) (base : Base) (reasons : ParagraphReasons) : Type 0 where
  pub classes_are : reasons.classes.items ≡ directed (map (class_of tables) text)
  pub matches_are : reasons.matches.items ≡ matches_of (directed (map (class_of tables) text))
  pub explicit_are : reasons.explicit.items ≡ explicit_steps (base_level_of (map (class_of tables) text) base) (directed (map (class_of tables) text))
  pub kept_are : reasons.kept.items ≡ retained (directed (map (class_of tables) text))
  pub sequences_are : map sequence_of reasons.sequences.items
      ≡ sequences_by (bracket_of tables) text (directed (map (class_of tables) text)) (base_level_of (map (class_of tables) text) base)
  pub levels_are : reasons.levels.items ≡ levels_of tables text base
