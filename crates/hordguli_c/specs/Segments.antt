-- The grapheme clusters and the script runs of a text, without a session.
use Rattle.std.specs.Prelude.{◌≡◌, ℕ, List, length, map}
use Rattle.ucd.specs.Tables.{bracket_of}
use Rattle.ucd.specs.declared.tables.Tables.{Tables}
use Rattle.lines.specs.Clusters.{cluster_ends, ends_in}
use Rattle.scripts.specs.Codes.{iso_code}
use Rattle.scripts.specs.Runs.{runs_of}
use Rattle.scripts.specs.Scripts.{scripts_of}
use Rattle.scripts.specs.declared.runs.ScriptRun.{ScriptRun}
use Rattle.hordguli_c.specs.Arrays.{PutsItems}
use Rattle.hordguli_c.specs.Levels.{OfCharacters}
use Rattle.hordguli_c.specs.declared.segment_calls.ScriptRunOut.{ScriptRunOut}
use Rattle.hordguli_c.specs.declared.status.Status.{Status}

-- where the clusters of a text end, in ascending order
unfoldable pub clusters_of : List ℕ → List ℕ
clusters_of text = ends_in (cluster_ends text) 0 (length text)

-- the number of a text's clusters is stored and, if they fit, the ends of these clusters
abbrev pub PutsTextClusters : List ℕ → Status → List ℕ × ℕ → List ℕ × ℕ → Type 0
PutsTextClusters characters status old new =
    OfCharacters characters status (new ≡ old) (PutsItems (clusters_of characters) status old new)

-- the script runs of a text; the tables define which characters are paired brackets
unfoldable pub script_runs_of : Tables → List ℕ → List ScriptRun
script_runs_of tables text = runs_of (scripts_of (bracket_of tables) text)

abbrev pub script_run_out : ScriptRun → ScriptRunOut
script_run_out run = record { start = run.start; length = run.len; script = iso_code run.script; zero = 0 }

-- the number of a text's script runs is stored and, if they fit, the runs
abbrev pub PutsScriptRuns : List ℕ → Status → Tables → List ScriptRunOut × ℕ → List ScriptRunOut × ℕ → Type 0
PutsScriptRuns characters status tables old new =
    OfCharacters characters status (new ≡ old) (PutsItems (map script_run_out (script_runs_of tables characters)) status old new)
