-- The break marks of a paragraph (UAX #14).
use Rattle.std.specs.Prelude.{ℕ, Bool, List, [], ◌∷◌, ◌++◌, map}
use Rattle.ucd.specs.declared.tables.Tables.{Tables}
use Rattle.breaks.specs.Bases.{BaseCharacter, bases_of, character}
use Rattle.breaks.specs.Rules.{Rule, rules, mark_by}
use Rattle.breaks.specs.declared.mark.Mark.{Mark}
use Rattle.breaks.specs.declared.mark.Mark.TheVariants.{Never}

-- The marks after the characters of some bases: `Never` inside a base (LB9), and the mark that the rules
-- determine after each base. `before` holds the preceding bases, nearest first.
abbrev pub marks_after : List Rule → List BaseCharacter → List BaseCharacter → List Mark
marks_after rules before [] = []
marks_after rules before (b ∷ after) =
    map (λ _. Never) b.attached
    ++ mark_by rules (b ∷ before) after ∷ marks_after rules (b ∷ before) after

-- The mark after each character of a paragraph. In 15.0, LB25 is applied to whole numbers if `whole_numbers`
-- is true, and otherwise to pairs of bases.
unfoldable pub marks_of : Tables → Bool → List ℕ → List Mark
marks_of t whole_numbers text = marks_after (rules t.version whole_numbers) [] (bases_of (map (character t) text))
