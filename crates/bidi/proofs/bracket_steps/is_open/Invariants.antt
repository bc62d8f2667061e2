use Rattle.std.proofs.Common.{◌≡◌, drop}
use Rattle.bidi.specs.BracketPasses.{is_open}
use Rattle.bidi.proofs.bracket_steps.is_open.Given as goal

abbrev pub invariant-loop-opener : goal.invariant-loop-opener
invariant-loop-opener l = is_open l.openers l.k ≡ is_open (drop l.opener-index l.openers) l.k
