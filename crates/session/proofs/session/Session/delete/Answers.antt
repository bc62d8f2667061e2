use Rattle.std.proofs.Common.{length, ap, arith}
use Rattle.std.proofs.lemmas.Str.{chars-nil}
use Rattle.session.proofs.session.Session.delete.Goals as goal

pub returns-clause-ok : goal.returns-clause-ok
returns-clause-ok g c = rw chars-nil at c.replace.ensures.ok

pub returns-clause-err : goal.returns-clause-err
returns-clause-err g c = rw chars-nil at c.replace.ensures.err

pub returns-clause-memory : goal.returns-clause-memory
returns-clause-memory g c wants = omega (arith, c.replace.ensures.memory wants, ap length chars-nil)
