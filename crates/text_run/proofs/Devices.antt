-- Sources and sinks that have not changed.
use Rattle.std.proofs.Common.{◌≡◌, ℕ, List, [], Option, Some, None, IfSome, unwrap_or, refl, sym, arith}
use Rattle.std.specs.Io.KnownBytes.{Appends}
use Rattle.std.proofs.lemmas.List.{append-nil}
use Rattle.device.specs.Device.{Device, Took}

Appends-refl : (known : Option (List ℕ)) → Appends known known []
Appends-refl None = tt
Appends-refl (Some xs) = sym (append-nil xs)

-- an unchanged sink has taken no bytes
pub Took-nothing : (device : Device) → Took device device []
Took-nothing device = record { bytes = Appends-refl device.bytes; passed = omega arith }

-- if the bytes of a source are known, `unwrap_or` returns them
pub known-bytes : (known : Option (List ℕ)) → IfSome known (λ all. all ≡ unwrap_or known [])
known-bytes None = tt
known-bytes (Some all) = refl
