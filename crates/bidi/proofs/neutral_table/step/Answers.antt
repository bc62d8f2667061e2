use Rattle.std.proofs.Common.{◌%◌, ◌≤◌, subst, sym}
use Rattle.bidi.proofs.NeutralTableLemmas.{step-below, step-is}
use Rattle.bidi.proofs.neutral_table.step.Goals as goal

pub returns-clause-entry : goal.returns-clause-entry
returns-clause-entry c = step-is c.args.level c.args.class c.args.row c.requires

pub returns-clause-bounded : goal.returns-clause-bounded
returns-clause-bounded c = subst (λ n. n % 256 ≤ 2) (sym (step-is c.args.level c.args.class c.args.row c.requires)) (step-below c.args.level c.args.row c.args.class)
