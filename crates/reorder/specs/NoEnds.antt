-- Ranges without separators, which the scan for L1 may skip. No public contract uses this definition.
use Rattle.std.specs.Prelude.{◌≡◌, ℕ, ◌<◌, ◌≤◌, false, List}
use Rattle.ucd.specs.declared.bidi_class.BidiClass.{BidiClass}
use Rattle.ucd.specs.Classes.{class_at}
use Rattle.reorder.specs.Spaces.{ends_segment}

-- no character from `start` up to `end_at` is a separator
abbrev pub AreNoEnds : List BidiClass → ℕ → ℕ → Type 0
AreNoEnds classes start end_at = (k : ℕ) → start ≤ k → k < end_at → ends_segment (class_at classes k) ≡ false
