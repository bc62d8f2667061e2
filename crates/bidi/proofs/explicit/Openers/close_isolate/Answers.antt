use Rattle.std.proofs.Common.{arith}
use Rattle.bidi.proofs.OpenersLemmas.{Holds-void_isolate_closed, Holds-isolate_closed, Holds-no_isolate}
use Rattle.bidi.proofs.explicit.Openers.close_isolate.Goals as goal

pub returns-then-self-gt0 : goal.returns-then-self-gt0
returns-then-self-gt0 c base chain holds = Holds-void_isolate_closed base _ chain holds c.if-self-gt0.true

pub returns-then-self-gt0-2 : goal.returns-then-self-gt0-2
returns-then-self-gt0-2 c base chain holds =
    Holds-isolate_closed base _ chain holds (omega arith) c.if-self-gt0-2.true c.pop_isolate.new.statuses.items c.pop_isolate.ensures

pub returns-else-self-gt0-2 : goal.returns-else-self-gt0-2
returns-else-self-gt0-2 c base chain holds = Holds-no_isolate base _ chain holds (omega arith) (omega arith)
