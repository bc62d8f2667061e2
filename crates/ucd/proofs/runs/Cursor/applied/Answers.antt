use Rattle.std.proofs.Common.{◌≡◌, ℕ, ◌<◌, None, sym, ap, ◌∙◌, arith}
use Rattle.ucd.specs.Entries.{value_at}
use Rattle.ucd.specs.Puts.{put_by}
use Rattle.ucd.proofs.RisingLemmas.{value_none}
use Rattle.ucd.proofs.runs.Cursor.applied.Goals as goal

-- no code point before the first entry has a value
pub returns-then-run-begin-clause-put : goal.returns-then-run-begin-clause-put
returns-then-run-begin-clause-put g c =
    let none : value_at c.args.self.now c.args.run.start ≡ None = rw c.self.view_is at (value_none c.self.inside.entries.now c.in-Some.first.now c.args.run.start (sym c.in-Some.ensures.value) c.self.invariant (omega arith)) in
    sym (ap (λ o. put_by (g.V.Layer.put c.args.version) o c.args.run.properties) none)

pub returns-then-run-begin-clause-same : goal.returns-then-run-begin-clause-same
returns-then-run-begin-clause-same g c = λ k from to.
    let none : (x : ℕ) → x < c.in-Some.first.now.first → value_at c.args.self.now x ≡ None =
    λ x lt. rw c.self.view_is at (value_none c.self.inside.entries.now c.in-Some.first.now x (sym c.in-Some.ensures.value) c.self.invariant lt) in
    none k (omega arith) ∙ sym (none c.args.run.start (omega arith))
