use Rattle.std.proofs.Common.{◌≡◌, ◌++◌, drop, length}
use Rattle.ucd.specs.Tables.{bracket_of}
use Rattle.scripts.specs.Scripts.{scripts_from, scripts_of}
use Rattle.scripts.proofs.resolving.resolve.Given as goal

-- the scripts so far, followed by the scripts of the remaining characters, are the scripts of the text
abbrev pub invariant-loop-k : goal.invariant-loop-k
invariant-loop-k l =
    (l.openings.capacity ≡ 63) × (length l.scripts.items ≡ l.k)
    × (l.scripts.items ++ scripts_from (bracket_of l.tables) l.script l.openings.items (drop l.k l.text) ≡ scripts_of (bracket_of l.tables) l.text)
