-- One step of the walk over the characters of a paragraph, for the rules of any version.
use Rattle.std.specs.Prelude.{◌≡◌, Bool, List, [], ◌∷◌, ◌++◌, MatchBool, map, if◌then◌else◌}
use Rattle.ucd.specs.declared.line_class.LineClass.TheVariants.{CM, ZWJ}
use Rattle.ucd.specs.declared.properties.Properties.{Properties}
use Rattle.ucd.specs.declared.version.Version.{Version}
use Rattle.breaks.specs.Bases.{BaseCharacter, Character, alone, bases_of, end_of, stays_with}
use Rattle.breaks.specs.Classes.{is_one_of}
use Rattle.breaks.specs.Marks.{marks_after}
use Rattle.breaks.specs.Rules.{Rule, mark_by, rules}
use Rattle.breaks.specs.Symbols.{character_by}
use Rattle.breaks.specs.declared.mark.Mark.{Mark}
use Rattle.breaks.specs.declared.mark.Mark.TheVariants.{Never}

-- the last base after the next character has been attached to it
abbrev pub with_attached : BaseCharacter → Character → BaseCharacter
with_attached last c = record { first = last.first; attached = last.attached ++ c ∷ [] }

-- the bases of a text, without the leading CMs and ZWJs that join the base before the text
abbrev pub bases_after : List Character → List BaseCharacter
bases_after [] = []
bases_after (c ∷ text) = if is_one_of (CM ∷ ZWJ ∷ []) c.class then bases_after text else bases_of (c ∷ text)

-- The outcome before the character c has the mark that the rules determine. The new state belongs to the
-- bases up to and including that of c. `mark` returns the outcome's mark, given the bases after that of c.
-- `stands` tells whether the new state belongs to given bases.
abbrev pub Passes : List Rule → (List BaseCharacter → Mark) → (BaseCharacter → List BaseCharacter → Type 0) → BaseCharacter → List BaseCharacter → Character → Type 0
Passes some mark stands last others c =
    MatchBool (stays_with (end_of last) c)
    (((rest : List BaseCharacter) → mark rest ≡ Never) × stands (with_attached last c) others)
    (((text : List Character) → mark (bases_after text) ≡ mark_by some (last ∷ others) (bases_of (c ∷ text)))
    × stands (alone c) (last ∷ others))

-- the marks of a paragraph whose characters have these properties
unfoldable pub marks_by : Version → Bool → List Properties → List Mark
marks_by v whole_numbers all = marks_after (rules v whole_numbers) [] (bases_of (map (character_by v) all))
