-- Tables may be moved to another thread, and so may a handle that owns them.
use base.Shift.{Keyless}
use mir.Raw.{raw}
use denote.Memory.{lone}
use denote.RawPtr.{Ptr}
use denote.Struct.Struct.{exits_of}
use denote.Struct.Owning.{shape, fields, to}
use denote.Param.Send.{IsSend, AllSend, owning_send, struct_send, sendable}
use Rattle.std.proofs.Crossing as heap
use Rattle.std.specs.declared.option.Option.{Option}
use Rattle.std.specs.declared.option.Option.TheVariants.{None, Some}
use Rattle.std_alloc.proofs.SendSync.{quiet, lies}
use Rattle.hordguli_c.specs.Held.{the_global}
use Rattle.hordguli_c.proofs.tables_object.TablesObject.TheSendSync as object
use Rattle.hordguli_c.specs.TablesHeld.{Value, object_at, object_row}
use Rattle.hordguli_c.specs.contracts.tables_handle.TablesHandle.{the_row, the_type}

object_send : IsSend object_row
object_send = object.the_send

crosses : (p : Ptr) (x : Option Value) → Keyless (object_at p x)
crosses p None = λ _. tt
crosses p (Some x) = (lies object_row object_send p x, heap.frees.frees the_global (raw (lone object_row.mir)) p)

pub send : IsSend the_row
send =
    let all : AllSend (fields the_type) = (search sendable, tt) in
    owning_send the_type all (λ d. crosses d.at d.held)
    (λ k. quiet (to the_type) (exits_of k (fields the_type)) ((struct_send (shape the_type) all).leaving k))
