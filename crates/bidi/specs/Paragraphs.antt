-- The input for resolving the sequences of a paragraph, and the resulting levels. The input describes the
-- characters that X9 keeps.
use Rattle.std.specs.Prelude.{◌≡◌, ℕ, ◌<◌, max, true, false, Option, None, All, List, length, map, slice_index}
use Rattle.ucd.specs.declared.bracket.Bracket.{Bracket}
use Rattle.bidi.specs.BracketTypes.{bracket_at, bracket_types}
use Rattle.ucd.specs.Classes.{class_at}
use Rattle.bidi.specs.Isolates.{matches_of}
use Rattle.bidi.specs.Levels.{levels_in, put, resolved}
use Rattle.ucd.specs.Within.{AreWithin}
use Rattle.bidi.specs.Runs.{sequence_at}
use Rattle.bidi.specs.Sequences.{direction, first_of, last_of, level_before, level_after}
use Rattle.bidi.specs.Retained.{HasAll}
use Rattle.bidi.specs.declared.sequence_levels.Paragraph.{Paragraph}
use Rattle.bidi.specs.declared.sequence_levels.Sequence.{Sequence}
use Rattle.bidi.specs.declared.sequence_levels.Sides.{Sides}
use Rattle.bidi.specs.declared.sequence_levels.Brackets.{Brackets}

-- if there are brackets, `brackets` has a bracket type for each of the n characters
abbrev pub AreFor : Brackets → ℕ → Type 0
AreFor brackets n = brackets.has_any ≡ true → length brackets.types.now ≡ n

-- `brackets` holds the bracket types of a text of n characters, or states that the text contains no bracket
pub record AreBracketsOf (brackets : Brackets) (n : ℕ) (look : ℕ → Option Bracket) (text : List ℕ) : Type 0 where
  pub size : length text ≡ n
  pub types : brackets.has_any ≡ true → brackets.types.now ≡ bracket_types look text
  pub none : brackets.has_any ≡ false → All (λ c. look c ≡ None) text

-- the statement `holds` is true for every text and lookup with these bracket types
abbrev pub OfAllTexts : Brackets → ℕ → ((ℕ → Option Bracket) → List ℕ → Type 0) → Type 0
OfAllTexts brackets n holds = (look : ℕ → Option Bracket) (text : List ℕ) → AreBracketsOf brackets n look text → holds look text

-- `p` holds the class, level and type of each kept character, their bracket types if any of them is a
-- bracket, and the matches of all initiators
pub record IsReady (p : Paragraph) : Type 0 where
  pub retained : HasAll p.retained.now
  pub matches : p.matches.now ≡ matches_of p.retained.now.classes.items
  pub found : length p.matches.now ≡ length p.retained.now.levels.items
  pub brackets : AreFor p.brackets (length p.retained.now.levels.items)

abbrev pub sequence_in : Paragraph → ℕ → List ℕ
sequence_in p start = sequence_at p.retained.now.classes.items p.retained.now.levels.items start

-- the levels `done`, after the levels of the sequence that begins at `start` have been written to them
abbrev pub write_by : (ℕ → Option Bracket) → List ℕ → Paragraph → List ℕ → ℕ → List ℕ
write_by look text p done start =
    put done (sequence_in p start)
    (levels_in look p.base text p.retained.now.classes.items
    p.retained.now.levels.items p.retained.now.types.items (sequence_in p start))

abbrev pub resolved_by : (ℕ → Option Bracket) → List ℕ → Paragraph → List ℕ
resolved_by look text p = resolved look p.base text p.retained.now.classes.items p.retained.now.levels.items p.retained.now.types.items

-- `sides` holds the level, sos and eos of the sequence whose first and last characters are at `first` and `last`
pub record AreSidesBetween (p : Paragraph) (first last : ℕ) (sides : Sides) : Type 0 where
  pub level_is : sides.level ≡ slice_index p.retained.now.levels.items first
  pub sos_is : sides.sos ≡ direction (max (slice_index p.retained.now.levels.items first) (level_before p.base p.retained.now.levels.items first))
  pub eos_is : sides.eos ≡ direction (max (slice_index p.retained.now.levels.items last) (level_after p.base p.retained.now.classes.items p.retained.now.levels.items last))

abbrev pub AreSides : Paragraph → List ℕ → Sides → Type 0
AreSides p places sides = AreSidesBetween p (first_of places) (last_of places) sides

-- `sequence` holds the indices, bracket types and explicit types of the sequence that begins at `start`. The
-- current types in `sequence` are still the explicit types.
pub record Takes (p : Paragraph) (start : ℕ) (sequence : Sequence) : Type 0 where
  pub places_are : sequence.places.items ≡ sequence_in p start
  pub within : AreWithin (length p.retained.now.levels.items) sequence.places.items
  pub some : 0 < length sequence.places.items
  pub brackets_are : p.brackets.has_any ≡ true → sequence.brackets.items ≡ map (bracket_at p.brackets.types.now) sequence.places.items
  pub explicit_are : sequence.explicit.items ≡ map (class_at p.retained.now.types.items) sequence.places.items
  pub types_are : sequence.types.items ≡ sequence.explicit.items
