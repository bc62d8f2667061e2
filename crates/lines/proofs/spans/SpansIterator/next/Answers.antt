use Rattle.std.proofs.Common.{arith, length, sym, ap, List, suc, ◌∙◌, ◌<◌, ◌≡◌}
use Rattle.lines.specs.Selections.{selected_in}
use Rattle.lines.specs.Spans.{spans_from}
use Rattle.lines.specs.declared.spans.Span.{Span}
use Rattle.lines.proofs.SelectionLemmas.{found_fresh, found_none, found_one}
use Rattle.lines.proofs.spans.SpansIterator.next.Goals as goal

pub invariant_of-self : goal.invariant_of-self
invariant_of-self c = (
  c.self.invariant.0,
  c.self.invariant.1,
  c.pass-right.ensures.at,
  found_fresh c.self.inside.selection c.pass-left.result c.pass-right.result c.pass-right.ensures.passes c.pass-right.ensures.at,
)

pub invariant_of-self-2 : goal.invariant_of-self-2
invariant_of-self-2 c = (
  c.self.invariant.0,
  c.self.invariant.1,
  c.pass-right.ensures.at,
  found_fresh c.self.inside.selection c.pass-left.result c.pass-right.result c.pass-right.ensures.passes c.pass-right.ensures.at,
)

pub returns-then-left-selection-clause-steps : goal.returns-then-left-selection-clause-steps
returns-then-left-selection-clause-steps c =
    let none = found_none c.self.inside.selection c.self.inside.at c.pass-left.result c.pass-right.result c.self.invariant.2 c.pass-left.ensures.at c.pass-left.ensures.passes c.if-left-selection.true c.pass-right.ensures.passes c.pass-right.ensures.at in
    (sym c.self.view_is ∙ none.0, none.1)

pub returns-clause-steps : goal.returns-clause-steps
returns-clause-steps c =
    let within : c.pass-left.result.place < length c.self.inside.selection.vtol.now = omega (arith, c.pass-left.ensures.at.within, c.if-left-selection.false) in
    sym c.self.view_is
    ∙ found_one c.self.inside.selection c.self.inside.at c.pass-left.result c.pass-right.result c.self.invariant.2 c.self.invariant.3 c.pass-left.ensures.at
    c.pass-left.ensures.passes within c.pass-right.ensures.passes c.pass-right.ensures.at

pub returns-clause-goes : goal.returns-clause-goes
returns-clause-goes c =
    let more : length c.args.self.now ≡ suc (length (spans_from (selected_in c.self.inside.selection) c.self.inside.selection.start c.self.inside.selection.end c.pass-right.result.column)) =
    ap (λ (spans : List Span). length spans) (returns-clause-steps c) in
    record { on = λ finite. (tt, tt, omega (arith, more)); keeps = tt; rests = λ finite. tt }
