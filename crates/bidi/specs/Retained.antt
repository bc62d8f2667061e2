-- The data that the pass of X1 to X9 collects: the class, explicit level and explicit type of each character
-- that X9 keeps (UAX #9).
use Rattle.std.specs.Prelude.{◌≡◌, ◌≤◌, ℕ, List, length, map, slice_index}
use Rattle.ucd.specs.declared.bidi_class.BidiClass.{BidiClass}
use Rattle.bidi.specs.declared.explicit.Retained.{Retained}
use Rattle.ucd.specs.Classes.{class_at}
use Rattle.bidi.specs.Explicit.{level_at, type_at}
use Rattle.bidi.specs.Sequences.{retained}

pub record IsRetained (classes : List BidiClass) (base : ℕ) (left : Retained) : Type 0 where
  pub classes_are : left.classes.items ≡ map (class_at classes) (retained classes)
  pub levels_are : left.levels.items ≡ map (level_at base classes) (retained classes)
  pub types_are : left.types.items ≡ map (type_at base classes) (retained classes)

-- each kept character has a class, a level and a type, and no level is above 125
pub record HasAll (left : Retained) : Type 0 where
  pub classes : length left.classes.items ≡ length left.levels.items
  pub types : length left.types.items ≡ length left.levels.items
  pub bounded : (k : ℕ) → slice_index left.levels.items k ≤ 125
