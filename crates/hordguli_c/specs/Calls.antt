-- How a call changes a handle and an output parameter. The conditions of a call are checked one after
-- another. Each definition checks one condition. If the condition does not hold, the call returns a status.
-- Otherwise, the next condition is checked.
use Rattle.std.specs.Prelude.{◌≡◌, ℕ, ◌⊎◌, List, Option, Some, None, IsUtf8, chars}
use Rattle.hordguli_c.specs.declared.status.Status.{Status}
use Rattle.hordguli_c.specs.declared.status.Status.TheVariants as is

-- If a condition holds, the next one is checked. Otherwise, the call returns a status and changes nothing.
abbrev pub Given : Type 0 → Status → Status → Type 0 → Type 0 → Type 0
Given holds refused status unchanged rest = ((¬ holds) × (status ≡ refused) × unchanged) ⊎ (holds × rest)

-- The last condition of a call that may allocate: the call succeeds, or an allocation fails and nothing changes.
abbrev pub OrNoMemory : Type 0 → Status → Type 0 → Type 0 → Type 0
OrNoMemory allocates status unchanged done = done ⊎ ((status ≡ is.NoMemory) × allocates × unchanged)

-- a query about the object of a handle, with one output parameter; nothing is written if the handle is closed
abbrev pub Asks : {A O : Type 0} → (Status → A → O → O → Type 0) → Status → Option A → O → O → Type 0
Asks says status None old new = (status ≡ is.Closed) × (new ≡ old)
Asks says status (Some held) old new = says status held old new

-- a query with options; if a bit is unknown, the status is `UnknownOption` and nothing is written
abbrev pub AsksBy : {P A O : Type 0} → (P → Status → A → O → O → Type 0) → Option P → Status → Option A → O → O → Type 0
AsksBy says None status held old new = (status ≡ is.UnknownOption) × (new ≡ old)
AsksBy says (Some options) status held old new = Asks (says options) status held old new

-- a call that may change the object of a handle: an open handle stays open, and a closed one stays closed
abbrev pub Changes : {A O : Type 0} → (Status → A → A → O → O → Type 0) → Status → Option A → Option A → O → O → Type 0
Changes does status None after old new = (status ≡ is.Closed) × (after ≡ None) × (new ≡ old)
Changes does status (Some before) None old new = ⊥
Changes does status (Some before) (Some after) old new = does status before after old new

-- the result is stored if there is one; otherwise the status is `OutOfRange`
abbrev pub Gives : {O : Type 0} → Option O → Status → O → O → Type 0
Gives None status old new = (status ≡ is.OutOfRange) × (new ≡ old)
Gives (Some x) status old new = (status ≡ is.Ok) × (new ≡ x)

-- a call on a text that is passed as bytes; if they are not UTF-8, the status is `NotUtf8` and nothing
-- changes
abbrev pub OfText : List ℕ → Status → Type 0 → (List ℕ → Type 0) → Type 0
OfText bytes status unchanged does = Given (IsUtf8 bytes) is.NotUtf8 status unchanged (does (chars bytes))
