use Rattle.std.proofs.Common.{◌∙◌, length, take, ap, sym, subst, List, ℕ}
use Rattle.std.specs.List.{flat_map, range_with_len}
use Rattle.std.proofs.lemmas.List.{length-take-le}
use Rattle.ucd.specs.Within.{AreWithin}
use Rattle.reorder.specs.LevelRuns.{run_shown, turned}
use Rattle.reorder.proofs.OrderLemmas.{permuted_below}
use Rattle.reorder.proofs.PlainLemmas.{front_written, plain_within}
use Rattle.reorder.proofs.RunLemmas.{length-turned, places_in_order, runs_in_order, turned_permutes}
use Rattle.reorder.proofs.order.order_runs.Goals as goal

pub returns-clause-runs : goal.returns-clause-runs
returns-clause-runs c =
    let levels = c.args.levels.now in
    let count = c.find_runs-count.result.0 in
    let starts = take count c.find_runs-count.new.items in
    let size = length-turned levels starts ∙ length-take-le count c.find_runs-count.new.items c.find_runs-count.ensures.few in
    ap (flat_map (run_shown levels)) (front_written c.reverse_levels-2.new.items c.find_runs-count.new.items count (ap length c.reverse_levels-2.ensures ∙ size) ∙ c.reverse_levels-2.ensures)
    ∙ runs_in_order levels starts c.find_runs-count.ensures.runs

pub returns-clause-within : goal.returns-clause-within
returns-clause-within c =
    let levels = c.args.levels.now in
    let count = c.find_runs-count.result.0 in
    let starts = take count c.find_runs-count.new.items in
    let size = length-turned levels starts ∙ length-take-le count c.find_runs-count.new.items c.find_runs-count.ensures.few in
    subst (λ (xs : List ℕ). AreWithin (length levels) xs)
    (sym (front_written c.reverse_levels-2.new.items c.find_runs-count.new.items count (ap length c.reverse_levels-2.ensures ∙ size) ∙ c.reverse_levels-2.ensures))
    (permuted_below (length levels) starts (turned levels starts) (turned_permutes levels starts) c.find_runs-count.ensures.within)

pub reverse_levels-requires-clause-within : goal.reverse_levels-requires-clause-within
reverse_levels-requires-clause-within c =
    let levels = c.args.levels.now in
    let size = c.find_runs-count.auto.items ∙ c.requires.len in
    subst (λ (xs : List ℕ). AreWithin (length levels) xs) (sym (c.identity.ensures ∙ ap (range_with_len 0) size)) (plain_within (length levels))

pub returns-then-count-levels-clause-places : goal.returns-then-count-levels-clause-places
returns-then-count-levels-clause-places c =
    let levels = c.args.levels.now in
    let size = c.find_runs-count.auto.items ∙ c.requires.len in
    λ _. c.reverse_levels.ensures ∙ ap (turned levels) (c.identity.ensures ∙ ap (range_with_len 0) size) ∙ places_in_order levels
