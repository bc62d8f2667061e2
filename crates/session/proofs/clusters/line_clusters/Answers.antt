use Rattle.std.proofs.Common.{◌≡◌, ℕ, ◌-◌, List, length, map, get_or, Some, ap, ◌∙◌, arith}
use Rattle.lines.specs.Clusters.{cluster_ends, ends_in}
use Rattle.lines.specs.Layouts.{Layout, start_of as begins}
use Rattle.lines.specs.Visual.{end_of}
use Rattle.session.proofs.BorderLemmas.{found_some, length-lines, lines_of}
use Rattle.session.proofs.LineClusterLemmas.{clusters_found, clusters_past}
use Rattle.session.proofs.PlaceLemmas.{lined_read}
use Rattle.session.proofs.WantLemmas.{on_err}
use Rattle.session.proofs.clusters.line_clusters.Goals as goal

pub returns-then-n-total_lines-clause-ok : goal.returns-then-n-total_lines-clause-ok
returns-then-n-total_lines-clause-ok g c =
    let kept = g.S.ParagraphStore.items c.args.store.now in
    clusters_past kept c.args.n (omega (arith, c.if-n-total_lines.true, c.total_lines.ensures, length-lines kept))

pub unreachable-requires : goal.unreachable-requires
unreachable-requires g c = found_some lines_of (g.S.ParagraphStore.items c.args.store.now) c.args.n c.find_line-found.result c.find_line-found.ensures.found c.in-None.ensures

pub returns-in_err-clusters_in-in-Some-clause-memory : goal.returns-in_err-clusters_in-in-Some-clause-memory
returns-in_err-clusters_in-in-Some-clause-memory g c =
    on_err c.from_residual.result (omega (arith, c.if-n-total_lines.false, c.total_lines.ensures, length-lines (g.S.ParagraphStore.items c.args.store.now)))

pub returns-clause-ok : goal.returns-clause-ok
returns-clause-ok g c =
    let kept = g.S.ParagraphStore.items c.args.store.now in
    let l = c.in-Some.kept.now in
    let k = c.find_line-found.result.rest in
    let of : Layout → List ℕ = λ x. ends_in (cluster_ends x.text) (get_or (map begins x.lines) k 0) (end_of (length x.text) (map begins x.lines) k - get_or (map begins x.lines) k 0) in
    let ends : c.in_ok-clusters_in-in-Some.field-0.items ≡ of l = c.in_ok-clusters_in-in-Some.ensures ∙ ap of c.laid.ensures in
    ap Some ends
    ∙ clusters_found kept c.args.n c.find_line-found.result c.find_line-found.ensures.found l c.in-Some.ensures (lined_read kept c.find_line-found.result.index l c.requires c.in-Some.ensures)
