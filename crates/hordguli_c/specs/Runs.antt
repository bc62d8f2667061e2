-- Directional runs in the form in which they are stored.
use Rattle.std.specs.Prelude.{ℕ, List, map}
use Rattle.reorder.specs.Runs.{runs_of}
use Rattle.reorder.specs.declared.runs.Run.{Run}
use Rattle.hordguli_c.specs.declared.runs.RunOut.{RunOut}

abbrev pub run_out : Run → RunOut
run_out run = record { start = run.start; length = run.len; level = run.level; zero = 0 }

-- the runs of characters with these levels after L1, from left to right
abbrev pub runs_out : List ℕ → List RunOut
runs_out levels = map run_out (runs_of levels)
