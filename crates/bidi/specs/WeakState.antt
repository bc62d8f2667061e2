-- The state of the pass for the weak rules at an index.
use Rattle.std.specs.Prelude.{◌≡◌, ℕ, ◌/◌, ◌%◌, ◌≤◌, true, List}
use Rattle.ucd.specs.declared.bidi_class.BidiClass.{BidiClass}
use Rattle.bidi.specs.declared.weak.State.{State}
use Rattle.bidi.specs.declared.weak_table.TheConstants.{LAST_ROW}
use Rattle.bidi.specs.Waiting.{AreTypesSoFar, waits}
use Rattle.bidi.specs.WeakTable.{pending, run_at, strong_at}

-- `row` is the start of a row of the tables, and the pending types, if there are any, start at or before `at`
pub record IsState (row start at : ℕ) : Type 0 where
  pub within : row ≤ LAST_ROW
  pub starts : row % 32 ≡ 0
  pub order : waits (run_at (row / 32)) ≡ true → start ≤ at

-- the state of the pass at the index `at`, given as a row of the tables
abbrev pub AreRead : BidiClass → List BidiClass → List BidiClass → BidiClass → ℕ → ℕ → ℕ → Type 0
AreRead sos old current before row start at =
    AreTypesSoFar sos old current before (strong_at (row / 32)) (run_at (row / 32)) (pending (row / 32) start at) at

-- Applying the rules to the types from `at` up to `end` results in the types `put` and the state `next`.
abbrev pub Reads : List BidiClass → State → ℕ → List BidiClass → State → ℕ → Type 0
Reads types state at put next end =
    (sos : BidiClass) (old : List BidiClass) → AreRead sos old types state.before state.row state.start at
    → AreRead sos old put next.before next.row next.start end
