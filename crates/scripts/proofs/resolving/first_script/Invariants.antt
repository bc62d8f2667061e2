use Rattle.std.proofs.Common.{◌≡◌, drop}
use Rattle.scripts.specs.Scripts.{first_script}
use Rattle.scripts.proofs.resolving.first_script.Given as goal

-- the characters so far are Common or Inherited, so the first script is the first script of the remaining
-- text
abbrev pub invariant-loop-k : goal.invariant-loop-k
invariant-loop-k l = first_script (drop l.k l.text) ≡ first_script l.text
