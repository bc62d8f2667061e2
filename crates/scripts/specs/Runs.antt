-- The maximal runs of characters with the same script.
use Rattle.std.specs.Prelude.{ℕ, zero, suc, Bool, true, not, List, length, drop, filter, map, slice_index_or}
use Rattle.std.specs.List.{prefix_len, range_with_len}
use Rattle.ucd_script.specs.Script.{script_eq}
use Rattle.ucd_script.specs.declared.Script.{Script}
use Rattle.ucd_script.specs.declared.Script.TheVariants.{Common}
use Rattle.scripts.specs.declared.runs.ScriptRun.{ScriptRun}

abbrev pub script_at : List Script → ℕ → Script
script_at scripts k = slice_index_or scripts k Common

module _ (scripts : List Script) where
  -- whether a run begins at a position: no character is before it, or the character before it has another
  -- script
  abbrev pub begins_run : ℕ → Bool
  begins_run zero = true
  begins_run (suc k) = not (script_eq (script_at scripts (suc k)) (script_at scripts k))

  -- the run that begins at a position: the characters from there up to the next one with another script
  abbrev pub run_from : ℕ → ScriptRun
  run_from start = record {
    start = start;
    len = prefix_len (script_eq (script_at scripts start)) (drop start scripts);
    script = script_at scripts start;
  }

  unfoldable pub runs_of : List ScriptRun
  runs_of = map run_from (filter begins_run (range_with_len 0 (length scripts)))
