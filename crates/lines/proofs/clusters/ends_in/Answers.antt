use Rattle.std.proofs.Common.{◌≡◌, ◌-◌, Bool, List, IfOk, subst, ap, ◌∙◌, arith}
use Rattle.lines.specs.Clusters.{cluster_ends, ends_in}
use Rattle.lines.proofs.EndLemmas.{ends_in_window}
use Rattle.lines.proofs.clusters.ends_in.Goals as goal

pub returns : goal.returns
returns c =
    let text = c.args.text.now in
    let from = c.window_start-first.result in
    let to = c.window_end.result in
    let opens = c.window_start-first.ensures in
    let closes = c.window_end.ensures in
    let same : ends_in c.deref.result.now (c.args.start - from) c.args.len ≡ ends_in (cluster_ends text) c.args.start c.args.len =
    ap (λ (ends : List Bool). ends_in ends (c.args.start - from) c.args.len) (c.deref.ensures.value ∙ c.in_ok-ends.ensures.ends)
    ∙ ends_in_window text from to c.args.start c.args.len opens.split closes.split opens.most (omega (arith, closes.past)) closes.most in
    subst (λ items. IfOk c.part_ends.result (λ found. found.items ≡ items)) same c.part_ends.ensures
