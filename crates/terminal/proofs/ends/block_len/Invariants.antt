use Rattle.std.proofs.Common.{◌≡◌, ◌+◌, ◌<◌, ℕ, false, drop, get_or}
use Rattle.lines.specs.Engine.{rules_of}
use Rattle.lines.specs.Layouts.{cut_by}
use Rattle.terminal.specs.Texts.{ends_block}
use Rattle.terminal.proofs.ends.block_len.Given as goal

abbrev pub invariant-loop-k : goal.invariant-loop-k
invariant-loop-k l = (j : ℕ) → j < l.k → ends_block (cut_by (rules_of l.engine)) (get_or l.text j 0) (drop (j + 1) l.text) ≡ false
