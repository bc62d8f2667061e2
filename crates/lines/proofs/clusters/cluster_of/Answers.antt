use Rattle.std.proofs.Common.{◌+◌, ◌-◌, Bool, List, Result, Ok, Err, sym, ap, ◌∙◌, arith}
use Rattle.std.specs.Result.{OnErr}
use Rattle.lines.specs.Clusters.{cluster_begin, cluster_end}
use Rattle.lines.proofs.SplitLemmas.{only_begin, only_past, splits_after, splits_before, window_begin, window_end}
use Rattle.lines.proofs.clusters.cluster_of.Goals as goal

on_err : {A E P : Type 0} (r : Result A E) → P → OnErr r P
on_err (Ok x) p = tt
on_err (Err e) p = p

-- the window contains only character k
pub returns-then-end-start-eq1-clause-start : goal.returns-then-end-start-eq1-clause-start
returns-then-end-start-eq1-clause-start c =
    let opens = c.window_start-start.ensures in
    let closes = c.window_end-end.ensures in
    sym (only_begin c.args.text.now _ _ c.args.k opens.split closes.split opens.most closes.past closes.most (omega (arith, c.if-end-start-eq1.true)))

pub returns-then-end-start-eq1-clause-end : goal.returns-then-end-start-eq1-clause-end
returns-then-end-start-eq1-clause-end c =
    let opens = c.window_start-start.ensures in
    let closes = c.window_end-end.ensures in
    sym (only_past c.args.text.now _ _ c.args.k opens.split closes.split opens.most closes.past closes.most (omega (arith, c.if-end-start-eq1.true)))

pub returns-clause-start : goal.returns-clause-start
returns-clause-start c =
    let from = c.window_start-start.result in
    let opens = c.window_start-start.ensures in
    let closes = c.window_end-end.ensures in
    ap (λ n. from + n) (c.cluster_begin-first.ensures.value ∙ ap (λ (ends : List Bool). cluster_begin ends (c.args.k - from)) (c.deref.ensures.value ∙ c.in_ok-ends.ensures.ends))
    ∙ sym (window_begin c.args.text.now from c.window_end-end.result c.args.k opens.split closes.split opens.most closes.past closes.most)

pub returns-clause-end : goal.returns-clause-end
returns-clause-end c =
    let from = c.window_start-start.result in
    let opens = c.window_start-start.ensures in
    let closes = c.window_end-end.ensures in
    ap (λ n. from + n) (c.cluster_end-past.ensures.value ∙ ap (λ (ends : List Bool). cluster_end ends (c.args.k - from)) (c.deref-2.ensures.value ∙ c.in_ok-ends.ensures.ends))
    ∙ sym (window_end c.args.text.now from c.window_end-end.result c.args.k opens.split closes.split opens.most closes.past closes.most)

-- if there are split points directly before and after character k, the window contains only character k
pub returns-in_err-ends-clause-memory : goal.returns-in_err-ends-clause-memory
returns-in_err-ends-clause-memory c =
    let opens = c.window_start-start.ensures in
    let closes = c.window_end-end.ensures in
    on_err c.from_residual.result (λ (before, past).
    c.if-end-start-eq1.false (omega (
      arith,
      splits_before c.args.text.now _ c.args.k c.requires opens.most opens.nearest before,
      splits_after c.args.text.now _ c.args.k closes.most closes.past closes.nearest past,
    )))
