-- How the pass for N0 searches the types before N0.
use Rattle.std.specs.Prelude.{◌≡◌, ℕ, ◌<◌, ◌≤◌, Bool, false, List, length}
use Rattle.ucd.specs.declared.bidi_class.BidiClass.{BidiClass}
use Rattle.bidi.specs.Brackets.{is_toward}
use Rattle.ucd.specs.Classes.{class_at}

-- no strong type of the given direction is between `place` and `next`
pub record IsClear (left : Bool) (before : List BidiClass) (place next : ℕ) : Type 0 where
  pub bounded : next ≤ length before
  pub passed : (m : ℕ) → place < m → m < next → is_toward left (class_at before m) ≡ false
