use Rattle.std.proofs.Common.{◌≡◌, ℕ, List, [], None, Option, ap, refl, subst, sym, ◌∙◌}
use Rattle.std.specs.Iterator.{YieldsFirst}
use Rattle.reorder.specs.Runs.{runs_left}
use Rattle.reorder.specs.declared.runs.Run.{Run}
use Rattle.reorder.proofs.runs.RunsIterator.next.Goals as goal

none_left : (levels : List ℕ) → runs_left levels None ≡ []
unfolding runs_left
none_left levels = refl

pub returns-in_err-start-clause-steps : goal.returns-in_err-start-clause-steps
returns-in_err-start-clause-steps c =
    let left : c.args.self.now ≡ [] =
    sym c.self.view_is ∙ ap (λ (o : Option ℕ). runs_left c.self.inside.levels.now o) c.in_err-start.was ∙ none_left c.self.inside.levels.now in
    subst (λ (o : Option Run). YieldsFirst {S = List Run} {A = Run} (λ runs. runs) c.args.self.now o c.args.self.now) (sym c.from_residual.ensures) (left, left)
