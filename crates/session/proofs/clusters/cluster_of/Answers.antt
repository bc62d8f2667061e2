use Rattle.std.proofs.Common.{◌≡◌, ◌<◌, ◌≤◌, ◌-◌, ◌+◌, ℕ, length, Some, sym, ap, ap₂, ◌∙◌, arith}
use Rattle.lines.specs.Clusters.{cluster_begin, cluster_end, cluster_ends}
use Rattle.lines.specs.Layouts.{Layout}
use Rattle.session.specs.Kept.{text_of}
use Rattle.session.specs.declared.clusters.Cluster.{Cluster}
use Rattle.session.proofs.ClusterLemmas.{cluster-fits, cluster-read, cluster-rest, no_cluster}
use Rattle.session.proofs.BorderLemmas.{chars_of, found_some, length-text}
use Rattle.session.proofs.PlaceLemmas.{char_read}
use Rattle.session.proofs.WantLemmas.{on_err}
use Rattle.session.proofs.clusters.cluster_of.Goals as goal

pub returns-then-pos-len-clause-ok : goal.returns-then-pos-len-clause-ok
returns-then-pos-len-clause-ok g c =
    no_cluster (g.S.ParagraphStore.items c.args.store.now) c.args.pos (omega (arith, c.if-pos-len.true, c.total_chars-len.ensures, length-text (g.S.ParagraphStore.items c.args.store.now)))

pub cluster-requires : goal.cluster-requires
cluster-requires g c =
    let read = char_read (g.S.ParagraphStore.items c.args.store.now) c.args.pos c.find_char-found.result c.find_char-found.ensures.found c.in-Some.kept.now c.in-Some.ensures in
    omega (arith, read.0, ap (λ (l : Layout). length l.text) c.laid.ensures)

pub overflow_add-result-in-Some : goal.overflow_add-result-in-Some
overflow_add-result-in-Some g c =
    let few : c.in_ok-cluster-in-Some.cluster.1 ≤ length c.in-Some.kept.now.text =
    omega (arith, c.in_ok-cluster-in-Some.ensures.within, ap (λ (l : Layout). length l.text) c.laid.ensures) in
    let fits = cluster-fits (g.S.ParagraphStore.items c.args.store.now) c.args.pos c.find_char-found.result
    c.find_char-found.ensures.found c.in-Some.kept.now c.in-Some.ensures c.requires c.total_chars-len.result
    c.in_ok-cluster-in-Some.cluster.1 c.total_chars-len.ensures few in
    omega (arith, fits, c.total_chars-len.type_inv)

pub unreachable-requires : goal.unreachable-requires
unreachable-requires g c = found_some chars_of (g.S.ParagraphStore.items c.args.store.now) c.args.pos c.find_char-found.result c.find_char-found.ensures.found c.in-None.ensures

pub returns-in_err-cluster-in-Some-clause-memory : goal.returns-in_err-cluster-in-Some-clause-memory
returns-in_err-cluster-in-Some-clause-memory g c =
    on_err c.from_residual.result (omega (arith, c.if-pos-len.false, c.total_chars-len.ensures, length-text (g.S.ParagraphStore.items c.args.store.now)))

pub returns-clause-ok : goal.returns-clause-ok
returns-clause-ok g c =
    let kept = g.S.ParagraphStore.items c.args.store.now in
    let l = c.in-Some.kept.now in
    let rest = c.find_char-found.result.rest in
    let start : c.in_ok-cluster-in-Some.cluster.0 ≡ cluster_begin (cluster_ends l.text) rest =
    c.in_ok-cluster-in-Some.ensures.start ∙ ap (λ (x : Layout). cluster_begin (cluster_ends x.text) rest) c.laid.ensures in
    let stop : c.in_ok-cluster-in-Some.cluster.1 ≡ cluster_end (cluster_ends l.text) rest =
    c.in_ok-cluster-in-Some.ensures.end ∙ ap (λ (x : Layout). cluster_end (cluster_ends x.text) rest) c.laid.ensures in
    let within : c.args.pos < length (text_of kept) = omega (arith, c.if-pos-len.false, c.total_chars-len.ensures, length-text kept) in
    ap₂ (λ (n m : ℕ). let here : Cluster = record { start = c.args.pos - rest + n; end = c.args.pos - rest + m } in Some here) start stop
    ∙ ap (λ (r : ℕ). let here : Cluster = record { start = c.args.pos - rest + cluster_begin (cluster_ends l.text) r; end = c.args.pos - rest + cluster_end (cluster_ends l.text) r } in Some here)
    (sym (cluster-rest kept c.args.pos c.find_char-found.result c.find_char-found.ensures.found l c.in-Some.ensures c.requires))
    ∙ cluster-read kept c.args.pos c.find_char-found.result c.find_char-found.ensures.found l c.in-Some.ensures c.requires within
