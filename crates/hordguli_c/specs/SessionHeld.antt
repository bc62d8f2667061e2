-- What a session handle owns: nothing if it is null, and otherwise the allocation that holds the session.
use Rattle.std.specs.Prelude.{◌≡◌, Option, Some, None}
use base.Fml.{Fml, ftrue, fex}
use denote.RattleType.{RattleType}
use denote.RawPtr.{Ptr, null_ptr}
use Rattle.std.specs.Box.Ownership.{box_owns}
use Rattle.std.specs.contracts.impls.GlobalAllocator.TheImpl.{ghosts}
use Rattle.session.specs.contracts.kept.Kept as kept
use Rattle.session.specs.contracts.kept.KeptMeasured.TheImpl as measured
use Rattle.session.specs.contracts.session.Session as session
use Rattle.store.specs.contracts.tree_store.TreeStore as store
use Rattle.store.specs.contracts.tree_store.TreeStoreParagraphStore.TheImpl as store_impl
use Rattle.session.specs.Sessions.{SessionState}
use Rattle.hordguli_c.specs.Held.{the_global}

-- the value that represents a session in contracts
abbrev pub Value : Type 0
Value = SessionState

abbrev pub object_row : RattleType
object_row = session.the_row (store.the_row kept.the_row measured.ghosts) (store_impl.ghosts kept.the_row measured.ghosts store_impl.no_dict)

-- what the pointer of a handle owns
abbrev pub object_at : Ptr → Option Value → Fml
object_at p None = fex (p ≡ null_ptr) (λ _. ftrue)
object_at p (Some x) = box_owns (ghosts.dealloc_token the_global) object_row p x
