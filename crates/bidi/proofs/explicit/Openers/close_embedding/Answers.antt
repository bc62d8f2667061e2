use Rattle.std.proofs.Common.{inl, inr, arith}
use Rattle.std.proofs.lemmas.Bool.{not-true, not-false}
use Rattle.bidi.proofs.OpenersLemmas.{Holds-passed, Holds-void_closed, Holds-closed, Holds-kept}
use Rattle.bidi.proofs.explicit.Openers.close_embedding.Goals as goal
use Rattle.bidi.proofs.explicit.Openers.close_embedding.Goals.{else-len-gt1-via-then-len-gt1+else-not-status as isolate, else-len-gt1-via-else-len-gt1 as few}

pub returns-then-self-gt0 : goal.returns-then-self-gt0
returns-then-self-gt0 c base chain holds = Holds-passed base _ chain holds c.if-self-gt0.true

pub returns-then-self-gt0-2 : goal.returns-then-self-gt0-2
returns-then-self-gt0-2 c base chain holds = Holds-void_closed base _ chain holds (omega arith) c.if-self-gt0-2.true

pub returns-then-not-status : goal.returns-then-not-status
returns-then-not-status c base chain holds =
    Holds-closed base _ chain holds (omega arith) (omega arith) c.status.result c.pop.new.self.items (c.status.ensures base chain holds)
    (omega arith) (not-true c.status.result.is_isolate c.if-not-status.true) c.pop.ensures.rest

pub returns-else-len-gt1 : goal.returns-else-len-gt1
returns-else-len-gt1 c base chain holds =
    Holds-kept base _ chain holds (omega arith) (omega arith)
    (elim c.else-len-gt1.branch [
      | isolate w ↦ inr (w.status.result, w.status.ensures base chain holds, not-false w.status.result.is_isolate w.if-not-status.false)
      | few w ↦ inl (omega arith)
    ])
