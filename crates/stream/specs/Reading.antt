-- Reading into a buffer.
use Rattle.std.specs.Prelude.{◌≡◌, ℕ, ◌+◌, ◌≤◌, List, ◌++◌, length, take}
use Rattle.device.specs.Device.{Device, Gives}

-- n bytes were read into the list from index `place` on
pub record IsReadTo (place n : ℕ) (old new : List ℕ) (reader_old reader_new : Device) : Type 0 where
  pub buffer : List ℕ
  pub gives : Gives reader_old reader_new n buffer
  pub within : n ≤ length buffer
  pub small : place + n ≤ length old
  pub chunk : take (place + n) new ≡ take place old ++ take n buffer
