-- What a tables handle owns: nothing if it is null, and otherwise the allocation that holds the tables and
-- their buffers.
use Rattle.std.specs.Prelude.{◌≡◌, Option, Some, None}
use base.Fml.{Fml, ftrue, fex}
use denote.RattleType.{RattleType}
use denote.RawPtr.{Ptr, null_ptr}
use Rattle.std.specs.Box.Ownership.{box_owns}
use Rattle.std.specs.contracts.impls.GlobalAllocator.TheImpl.{ghosts}
use Rattle.ucd.specs.declared.tables.Tables.{Tables}
use Rattle.hordguli_c.specs.Held.{the_global}
use Rattle.hordguli_c.specs.contracts.tables_object.TablesObject as object

-- the value that represents tables in contracts
abbrev pub Value : Type 0
Value = Tables

abbrev pub object_row : RattleType
object_row = object.the_row

-- what the pointer of a handle owns
abbrev pub object_at : Ptr → Option Value → Fml
object_at p None = fex (p ≡ null_ptr) (λ _. ftrue)
object_at p (Some x) = box_owns (ghosts.dealloc_token the_global) object_row p x
