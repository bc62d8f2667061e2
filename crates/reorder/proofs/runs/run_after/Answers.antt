use Rattle.std.proofs.Common.{ℕ, ◌+◌, ◌≤◌, List, ◌∷◌, length, inl, inr, subst, sym, ◌∙◌, ap, get_or, arith, Option, rules}
use Rattle.reorder.specs.LevelRuns.{level_run_len}
use Rattle.reorder.specs.Lowest.{IsNext}
use Rattle.reorder.specs.Runs.{run_from, runs_left}
use Rattle.reorder.proofs.LeftmostLemmas.{even_one, odd_one}
use Rattle.reorder.proofs.StartLemmas.{run_last, run_next, run_within, IsLast}
use Rattle.reorder.proofs.runs.run_after.Goals as goal
use Rattle.reorder.proofs.runs.run_after.Goals.{then-is_odd, else-is_odd}

pub overflow_add-last : goal.overflow_add-last
overflow_add-last c =
    let within : c.args.start + level_run_len c.args.levels.now c.args.start ≤ length c.args.levels.now = run_within c.args.levels.now c.args.start c.requires.start in
    search rules

pub right_of-requires : goal.right_of-requires
right_of-requires c =
    let within : c.args.start + level_run_len c.args.levels.now c.args.start ≤ length c.args.levels.now = run_within c.args.levels.now c.args.start c.requires.start in
    elim c.if-is_odd.branch [
      | then-is_odd w ↦ omega (arith, w.last-is, c.requires.start)
      | else-is_odd w ↦ omega (arith, w.last-is, c.requires.len, within)
    ]

pub returns-in_err-place-clause-rest : goal.returns-in_err-place-clause-rest
returns-in_err-place-clause-rest c =
    let levels : List ℕ = c.args.levels.now in
    let is : IsLast levels c.args.start c.if-is_odd.last = elim c.if-is_odd.branch [
      | then-is_odd w ↦ inl (odd_one (get_or levels c.args.start 0) w.if-is_odd.true, w.last-is)
      | else-is_odd w ↦ inr (even_one (get_or levels c.args.start 0) w.if-is_odd.false, omega (arith, w.last-is, c.requires.len))
    ] in
    run_last levels c.args.start c.if-is_odd.last c.requires.start c.requires.begins is
    (subst (λ (o : Option ℕ). IsNext levels c.if-is_odd.last o) c.in_err-place.was c.right_of.ensures)
    ∙ ap (λ (o : Option ℕ). run_from levels c.args.start ∷ runs_left levels o) (sym c.from_residual.ensures)

pub returns-clause-rest : goal.returns-clause-rest
returns-clause-rest c =
    let levels : List ℕ = c.args.levels.now in
    let is : IsLast levels c.args.start c.if-is_odd.last = elim c.if-is_odd.branch [
      | then-is_odd w ↦ inl (odd_one (get_or levels c.args.start 0) w.if-is_odd.true, w.last-is)
      | else-is_odd w ↦ inr (even_one (get_or levels c.args.start 0) w.if-is_odd.false, omega (arith, w.last-is, c.requires.len))
    ] in
    run_next levels c.args.start c.if-is_odd.last c.requires.start c.requires.begins is c.in_ok-place.place c.run_start.result
    (subst (λ (o : Option ℕ). IsNext levels c.if-is_odd.last o) c.in_ok-place.was c.right_of.ensures) c.run_start.ensures
