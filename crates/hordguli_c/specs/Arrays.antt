-- Copying lists to the arrays of C callers.
use Rattle.std.specs.Prelude.{◌≡◌, ℕ, ◌<◌, ◌≤◌, ◌||◌, ◌⊎◌, nat_le, not, Bool, List, ◌++◌, length, drop, if◌then◌else◌}
use Rattle.hordguli_c.specs.declared.status.Status.{Status}
use Rattle.hordguli_c.specs.declared.status.Status.TheVariants as is

-- an array after a list was copied to its front; the array's other elements are unchanged
abbrev pub put : {A : Type 0} → List A → List A → List A
put list array = list ++ drop (length list) array

-- `put_if` copies a list to an array if a caller requested the array. `has_room` is true if `len` elements
-- fit in the array or the array was not requested.
abbrev pub put_if : Bool → List ℕ → List ℕ → List ℕ
put_if wanted list array = if wanted then put list array else array

abbrev pub has_room : Bool → ℕ → ℕ → Bool
has_room wanted len room = not wanted || nat_le len room

-- Items are copied to an array if all of them fit. Their number is stored in either case.
abbrev pub PutsItems : {A : Type 0} → List A → Status → List A × ℕ → List A × ℕ → Type 0
PutsItems items status old new =
    ((status ≡ is.Ok) × (length items ≤ length old.0) × (new ≡ (put items old.0, length items)))
    ⊎ ((status ≡ is.NoRoom) × (length old.0 < length items) × (new ≡ (old.0, length items)))
