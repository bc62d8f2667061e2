-- Parts that are written one after another, with one byte count for all of them.
use Rattle.std.specs.Prelude.{◌≡◌, ℕ, ◌+◌, ◌-◌, ◌≤◌, List, length}
use Rattle.device.specs.Device.{Device, Wrote, StoppedAt}

-- the whole part was written after `before` earlier bytes, so n bytes were written in total
pub record PassedOn (part : List ℕ) (before : ℕ) (old new : Device) (n : ℕ) : Type 0 where
  pub count : n ≡ before + length part
  pub wrote : Wrote part old new

-- the sink failed within the part, after `written` bytes in total, including the `before` earlier ones
pub record StoppedIn (part : List ℕ) (before : ℕ) (old new : Device) (written : ℕ) : Type 0 where
  pub after : before ≤ written
  pub stopped : StoppedAt (written - before) part old new
