use Rattle.std.proofs.Common.{◌≡◌, ◌-◌, ◌∙◌, ℕ, List, ap, drop, length, map, sum, take, arith}
use Rattle.std.proofs.lemmas.List.{drop-drop}
use Rattle.lines.specs.CharInfos.{columns_of}
use Rattle.lines.proofs.ColumnSumLemmas.{split_sum}
use Rattle.lines.proofs.column_cache.ColumnCache.sum.Goals as goal

pub loop-rest-preserved : goal.loop-rest-preserved
loop-rest-preserved c =
    let text = c.args.text.now in
    let before = length text - length c.loop-rest.rest.now in
    let split = c.split_at.ensures in
    let w = c.loop-rest.invariant in
    let rest = c.loop-rest.rest.now in
    let columns : List ℕ → ℕ = λ xs. sum (map columns_of xs) in
    let group : c.sum_of_group-sum.result ≡ columns (take 8 rest) = c.sum_of_group-sum.ensures.sum ∙ ap columns split.front in
    let after : columns c.split_at.result.1.now ≡ columns (drop 8 rest) = ap columns split.back in
    record {
      place = split.back ∙ ap (drop 8) w.place ∙ drop-drop 8 before text ∙ ap (λ (k : ℕ). drop k text) (omega (arith, split.back_len, w.within, c.loop-rest-test.true));
      within = omega (arith, split.back_len, w.within);
      total = omega (arith, w.total, group, after, split_sum 8 rest);
      most = omega (arith, w.most, c.sum_of_group-sum.ensures.most, split.front_len, split.back_len, c.loop-rest-test.true);
    }
