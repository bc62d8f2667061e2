use Rattle.std.proofs.Common.{◌∙◌, drop, sym}
use Rattle.sequences.proofs.ProgressLemmas.{known_all}
use Rattle.sequences.proofs.known.Progress.scan.Goals as goal

-- the remaining characters change nothing
pub returns-else-not-is_known : goal.returns-else-not-is_known
returns-else-not-is_known c =
    let at = c.loop-at in
    sym (known_all at.progress (drop at.at c.args.text.now) (sym c.is_known.ensures ∙ c.if-not-is_known.false)) ∙ at.invariant.passed
