-- The object of a handle, if the handle is open.
use Rattle.std.specs.Prelude.{Option, Some, None}
use Rattle.std.specs.Global.{Global, Box}
use Rattle.hordguli_c.specs.declared.raw_box.RawBox.{RawBox}

-- a `Global`; which one does not matter, since all of them may free the same blocks
abbrev pub the_global : Global
the_global = record { memory = record { seal = tt } }

module _ {V : Type 0} where
  abbrev pub box_held : Option (Box V) → Option V
  box_held None = None
  box_held (Some b) = Some b.value

  abbrev pub raw_held : Option (RawBox V Global) → Option V
  raw_held None = None
  raw_held (Some l) = Some l.value
