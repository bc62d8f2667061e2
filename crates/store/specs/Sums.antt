-- The units in which items are measured, and the sums of items in each of them.
use Rattle.std.specs.Prelude.{◌≡◌, ℕ, ◌<◌, ◌^◌, List, sum_by}
use Rattle.store.specs.declared.measured.Measured.{Ghosts}
use Rattle.store.specs.declared.sums.Sums.{Sums}
use Rattle.store.specs.declared.sums.Unit.{Unit as Counted}
use Rattle.store.specs.declared.sums.Unit.TheVariants.{Char, Line, Byte, Utf16}

-- the size of an item in a unit
abbrev pub measure : {P : Type 0} → Ghosts P → Counted → P → ℕ
measure G Char = G.chars
measure G Line = G.lines
measure G Byte = G.bytes
measure G Utf16 = G.utf16

-- the sum in one unit
abbrev pub part : Sums → Counted → ℕ
part sums Char = sums.chars
part sums Line = sums.lines
part sums Byte = sums.bytes
part sums Utf16 = sums.utf16

-- whether `sums` are the sums of the items, in each unit
pub record AreSums {P : Type 0} (G : Ghosts P) (items : List P) (sums : Sums) : Type 0 where
  pub each : (unit : Counted) → part sums unit ≡ sum_by (measure G unit) items

-- whether the sums of the items fit in a `usize`
pub record SumsFit {P : Type 0} (G : Ghosts P) (items : List P) : Type 0 where
  pub each : (unit : Counted) → sum_by (measure G unit) items < 2 ^ 64
