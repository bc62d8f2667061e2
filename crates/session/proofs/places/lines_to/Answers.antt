use Rattle.std.proofs.Common.{ℕ, leb, leb-true, leb-false, sym, arith, rules}
use Rattle.std.proofs.lemmas.List.Sorted.{IsPartitionPoint-from_clause, IsPartitionedBy-leb}
use Rattle.session.proofs.PlaceLemmas.{count_point}
use Rattle.session.proofs.places.lines_to.Goals as goal

pub returns-clause-count : goal.returns-clause-count
returns-clause-count c =
    let parted = IsPartitionedBy-leb (λ (s : ℕ). s) _ c.args.pos c.requires in
    let point = IsPartitionPoint-from_clause (λ s. leb s c.args.pos) _ _ c.partition_point.ensures.partitioned parted (λ a r q k. search rules) in
    sym (count_point c.args.pos c.args.starts.now c.partition_point.result c.partition_point.ensures.bound
    (λ k below. leb-true _ _ (point.0 k 0 (omega arith) below)) (λ k above under. leb-false _ _ (point.1 k 0 above under)))

pub returns-clause-before : goal.returns-clause-before
returns-clause-before c =
    let parted = IsPartitionedBy-leb (λ (s : ℕ). s) _ c.args.pos c.requires in
    let point = IsPartitionPoint-from_clause (λ s. leb s c.args.pos) _ _ c.partition_point.ensures.partitioned parted (λ a r q k. search rules) in
    λ k below. leb-true _ _ (point.0 k 0 (omega arith) below)
