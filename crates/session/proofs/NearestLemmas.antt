-- Repeated steps reach each boundary in their direction. The theorems about the steps on one line are then
-- stated for all lines of a text.
use Rattle.std.proofs.Common.{◌≡◌, ℕ, zero, suc, ◌-◌, ◌≤◌, List, Option, Some, None, refl, sym, ap, subst, ◌⊎◌, ◌∙◌, inl, inr, arith}
use Rattle.std.specs.Option.{option_and_then}
use Rattle.lines.specs.Layouts.{Layout, Rules}
use Rattle.lines.specs.Visual.{Visual}
use Rattle.session.specs.Edges.{edge_on, line_at, step_at}
use Rattle.session.specs.Steps.{IsBoundary, IsFurther, IsOn, IsStep, Meets, StepsAreNearest, StepsTo, after_steps}
use Rattle.session.specs.declared.carets.Caret.{Caret}
use Rattle.session.specs.declared.edges.Direction.{Direction}
use Rattle.session.specs.declared.edges.Direction.TheVariants.{Left, Right}
use Rattle.session.specs.declared.edges.Edge.{Edge}
use Rattle.session.proofs.UnitEdgeLemmas.{IsLineOf}
use Rattle.session.proofs.UnitTileLemmas.{units_tile}
use Rattle.session.proofs.CaretEndLemmas.{AllClusters}
use Rattle.session.proofs.ColumnEdgeLemmas.{at_last, edge_is}
use Rattle.session.proofs.StepLemmas.{step_leads, step_returns}

either_option : {A : Type 0} (o : Option A) → (o ≡ None) ⊎ ((x : A) × (o ≡ Some x))
either_option None = inl refl
either_option (Some x) = inr (x, refl)

-- how far a column is from another one in a direction
abbrev ahead : Direction → ℕ → ℕ → ℕ
ahead Right from to = to - from
ahead Left from to = from - to

nearer : (direction : Direction) (from mid to d : ℕ) → ahead direction from to ≤ suc d → IsFurther direction from mid → IsFurther direction mid to → ahead direction mid to ≤ d
nearer Right from mid to d far one other = omega (arith, far, one, other)
nearer Left from mid to d far one other = omega (arith, far, one, other)

not_there : (direction : Direction) (from to : ℕ) → ahead direction from to ≤ 0 → IsFurther direction from to → ⊥
not_there Right from to none further = omega (arith, none, further)
not_there Left from to none further = omega (arith, none, further)

module _ (rules : Rules) (kept : List Layout) (line : Visual) (start : ℕ) (direction : Direction)
    (steps : (edge : Edge) (caret : Caret) → IsOn rules kept edge caret line start → IsStep rules kept line start direction caret (step_at rules kept edge direction)) where
  all_met : (d : ℕ) (edge : Edge) (caret : Caret) → IsOn rules kept edge caret line start → (c : ℕ) → IsBoundary kept line start c → IsFurther direction caret.column c
      → ahead direction caret.column c ≤ d → Meets rules kept direction edge caret c
  all_met zero edge caret on c bound further far = absurd (not_there direction caret.column c far further)
  all_met (suc d) edge caret on c bound further far =
      elim (either_option (step_at rules kept edge direction)) [
        | inl none ↦ absurd (subst (IsStep rules kept line start direction caret) none (steps edge caret on) c bound further)
        | inr found ↦
            let next : Edge = found.0 in
            let is : step_at rules kept edge direction ≡ Some next = found.1 in
            let step : StepsTo rules kept line start direction caret next = subst (IsStep rules kept line start direction caret) is (steps edge caret on) in
            elim (step.nearest c bound further) [
              | inl more ↦
                  let there : IsOn rules kept next step.to line start = record { drawn = step.drawn; read = ap (line_at kept) step.line_stays ∙ on.read } in
                  let rest : Meets rules kept direction next step.to c =
                  all_met d next step.to there c bound more (nearer direction caret.column step.to.column c d far step.further more) in
                  record {
                    count = suc rest.count;
                    last = rest.last;
                    to = rest.to;
                    steps = ap (option_and_then (after_steps rules kept direction rest.count)) is ∙ rest.steps;
                    drawn = rest.drawn;
                    line_stays = rest.line_stays ∙ step.line_stays;
                    there = rest.there;
                  }
              | inr same ↦ record {
                count = 1;
                last = next;
                to = step.to;
                steps = ap (option_and_then (after_steps rules kept direction 0)) is;
                drawn = step.drawn;
                line_stays = step.line_stays;
                there = sym same;
              }
            ]
      ]

-- `StepsAreNearest` holds for a text if `IsLineOf` holds for each of its lines
pub steps_are_nearest : (rules : Rules) (kept : List Layout) → AllClusters kept
    → ((n : ℕ) (line : Visual) (start : ℕ) → line_at kept n ≡ Some (line, start) → IsLineOf kept n line start) → StepsAreNearest rules kept
steps_are_nearest rules kept clusters lines =
    let steps : (line : Visual) (start : ℕ) (direction : Direction) (edge : Edge) (caret : Caret) → IsOn rules kept edge caret line start
    → IsStep rules kept line start direction caret (step_at rules kept edge direction) =
    λ line start direction edge caret on. step_leads rules kept clusters caret line start (lines caret.line line start on.read) on.read edge on.drawn direction in
    record {
      tile = λ n line start read. let facts : IsLineOf kept n line start = lines n line start read in units_tile kept line start facts.ordered facts.adjoin facts.clusters facts.columns;
      at = λ n line start read column.
          let facts : IsLineOf kept n line start = lines n line start read in
          (edge_on kept line start column, edge_is rules kept clusters n line start facts read column, at_last rules kept clusters n line start facts column);
      steps = λ edge caret line start on direction. steps line start direction edge caret on;
      meet = λ edge caret line start on direction c bound further.
          all_met rules kept line start direction (steps line start direction) (ahead direction caret.column c) edge caret on c bound further (omega arith);
      return = λ edge caret line start on direction. step_returns rules kept clusters caret line start (lines caret.line line start on.read) on.read edge on.drawn direction;
    }
