use Rattle.std.proofs.Common.{sym, ◌∙◌}
use Rattle.bidi.specs.WeakTable.{strong_at}
use Rattle.bidi.proofs.WeakStateLemmas.{strong-number}
use Rattle.bidi.proofs.weak.strong_after.Goals as goal

pub returns-then-is_strong-clause-strong : goal.returns-then-is_strong-clause-strong
returns-then-is_strong-clause-strong c = strong-number (strong_at c.args.strong) c.args.class (sym c.is_strong.ensures ∙ c.if-is_strong.true)
