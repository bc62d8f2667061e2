-- The state of a source or sink, and how a call changes it.
use Rattle.std.specs.Prelude.{◌≡◌, ℕ, ◌+◌, ◌-◌, ◌^◌, ◌<◌, ◌≤◌, ◌==◌, min, List, length, take, Option, Result, MatchResult, MatchBool}
use Rattle.std.specs.Io.KnownBytes.{Keeps, Appends, Consumes, IsAtEnd}

-- The state of a source or sink. `bytes` are the bytes left in a source or stored in a sink, if these are
-- known. `passed` counts all bytes that were transferred. `failures` counts failed calls, up to 2^64 - 1.
-- `failed_at` is the value of `passed` at the last failure.
pub record Device : Type 0 where
  pub bytes : Option (List ℕ)
  pub passed : ℕ
  pub failures : ℕ
  pub failed_at : ℕ

-- the state of a source or sink before any call
abbrev pub fresh_device : Option (List ℕ) → Device
fresh_device bytes = record { bytes = bytes; passed = 0; failures = 0; failed_at = 0 }

abbrev pub greatest : ℕ
greatest = 2 ^ 64 - 1

-- n bytes were transferred, and no call failed
pub record Passes (old new : Device) (n : ℕ) : Type 0 where
  pub passed : new.passed ≡ old.passed + n
  pub bounded : new.passed ≤ greatest
  pub failures : new.failures ≡ old.failures
  pub failed_at : new.failed_at ≡ old.failed_at

-- no byte was transferred, and a call failed
pub record Fails (old new : Device) : Type 0 where
  pub bytes : Keeps old.bytes new.bytes
  pub passed : new.passed ≡ old.passed
  pub failures : new.failures ≡ min (old.failures + 1) greatest
  pub failed_at : new.failed_at ≡ old.passed

-- A read wrote n bytes to the front of a buffer. The read wrote no bytes only if the source had none left.
pub record Gives (old new : Device) (n : ℕ) (buffer : List ℕ) : Type 0 where
  pub bytes : Consumes old.bytes new.bytes (take n buffer)
  pub end : n ≡ 0 → IsAtEnd new.bytes
  pub passes : Passes old new n

abbrev pub Reads : {E : Type 0} → Device → Device → Result ℕ E → List ℕ → Type 0
Reads old new result buffer = MatchResult result (λ n. Gives old new n buffer) (λ _. Fails old new)

-- a write accepted the first n of the given bytes
pub record Takes (old new : Device) (n : ℕ) (given : List ℕ) : Type 0 where
  pub bytes : Appends old.bytes new.bytes (take n given)
  pub passes : Passes old new n

abbrev pub Writes : {E : Type 0} → Device → Device → Result ℕ E → List ℕ → Type 0
Writes old new result given =
    MatchResult result (λ n. MatchBool (n == 0) (Fails old new) (Takes old new n given)) (λ _. Fails old new)

-- One call failed between two states, and no bytes were transferred after the failure. The count of failures
-- increased, unless it was already at its maximum.
pub record FailedLast (old new : Device) : Type 0 where
  pub failures : new.failures ≡ min (old.failures + 1) greatest
  pub last : new.failed_at ≡ new.passed

-- a sink accepted these bytes and no others
pub record Took (old new : Device) (given : List ℕ) : Type 0 where
  pub bytes : Appends old.bytes new.bytes given
  pub passed : new.passed ≡ old.passed + length given

-- all bytes were accepted without a failure
abbrev pub Wrote : List ℕ → Device → Device → Type 0
Wrote given old new = Took old new given × (new.failures ≡ old.failures)

-- the sink failed after it had accepted the first n bytes
abbrev pub StoppedAt : ℕ → List ℕ → Device → Device → Type 0
StoppedAt n given old new = (n < length given) × Took old new (take n given) × FailedLast old new

-- if bytes were transferred, `passed` is at most `greatest`
abbrev pub StaysCounted : Device → Device → Type 0
StaysCounted old new = old.passed < new.passed → new.passed ≤ greatest
