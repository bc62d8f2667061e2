use Rattle.std.proofs.Common.{◌≡◌, ℕ, List, IfOk, subst}
use Rattle.lines.specs.Engine.{rules_of}
use Rattle.lines.specs.Layouts.{layout_of, with_advances}
use Rattle.lines.specs.Measures.{given_if}
use Rattle.session.proofs.joined.lay_out_one.Goals as goal

pub returns-clause-ok : goal.returns-clause-ok
returns-clause-ok c =
    let first = subst (λ (text : List ℕ). IfOk c.lay_out_owned.result
    (λ kept. kept ≡ layout_of (with_advances (rules_of c.args.engine.now) (given_if c.args.form.is_measured c.in_ok-advances.advances.items)) c.args.form.width text))
    c.in_ok-text.ensures.items c.lay_out_owned.ensures.ok in
    subst (λ (list : List ℕ). IfOk c.lay_out_owned.result
    (λ kept. kept ≡ layout_of (with_advances (rules_of c.args.engine.now) (given_if c.args.form.is_measured list)) c.args.form.width c.args.part.now.text.now))
    c.in_ok-advances.ensures.items first
