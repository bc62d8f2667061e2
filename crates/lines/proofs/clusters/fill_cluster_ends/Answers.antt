use Rattle.std.proofs.Common.{rules, ◌≡◌, replicate, true, ◌++◌, length, append-nil, sym, ap, ap₂, ◌∙◌, arith}
use Rattle.std.proofs.lemmas.Bool.Decides.{nat_tests}
use Rattle.std.specs.List.{flat_map}
use Rattle.unicode_segmentation.specs.Iter.{graphemes_left}
use Rattle.lines.proofs.AloneLemmas.{ends_alone}
use Rattle.lines.proofs.ClusterLemmas.{ends_of_graphemes, length-cluster_ends, no_ends, spelled}
use Rattle.lines.specs.Clusters.{cluster_ends, ends_of}
use Rattle.lines.proofs.clusters.fill_cluster_ends.Goals as goal

-- an empty text has no cluster ends
pub returns-then-is_empty-clause-ends : goal.returns-then-is_empty-clause-ends
returns-then-is_empty-clause-ends c =
    let none : length c.args.text.now ≡ 0 = grind (arith, nat_tests, c.is_empty.ensures, c.if-is_empty.true) in
    c.clear.ensures.items ∙ sym (no_ends c.args.text.now none)

pub returns-then-are_alone-clause-ends : goal.returns-then-are_alone-clause-ends
returns-then-are_alone-clause-ends c =
    let all : replicate (length c.args.text.now) true ≡ cluster_ends c.args.text.now = ends_alone c.args.text.now (sym c.are_alone.ensures ∙ c.if-are_alone.true) in
    search rules

-- before the loop, all clusters of the text remain
pub loop-cluster-init : goal.loop-cluster-init
loop-cluster-init c =
    let all = spelled c.args.text.now c.deref.result.now (c.deref.ensures ∙ c.in_ok-spell.ensures) c.deref.utf8 in
    ap₂ ◌++◌ (c.in_ok-reserve.ensures ∙ c.clear.ensures.items) (ap (flat_map ends_of) (ap graphemes_left c.into_iter-cluster-iterator.ensures.into_iter_gives ∙ c.graphemes-cluster-items.ensures.left))
    ∙ ends_of_graphemes c.deref.result.now c.deref.utf8 ∙ ap cluster_ends all

-- after the loop, no cluster remains
pub returns : goal.returns
returns c =
    let ends = c.loop-cluster.ends.items in
    let all = sym (append-nil ends) ∙ ap (λ pieces. ends ++ flat_map ends_of pieces) (sym c.in-None.ensures.steps.0) ∙ c.loop-cluster.invariant in
    record { ends = all; len = ap length all ∙ length-cluster_ends c.args.text.now; memory = tt }
