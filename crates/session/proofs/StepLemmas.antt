-- A step leads to the nearest boundary in its direction, and a step back returns.
use Rattle.std.proofs.Common.{◌≡◌, ℕ, zero, suc, ◌-◌, ◌<◌, ◌≤◌, List, Option, Some, None, refl, sym, ap, subst, ◌∙◌, inl, inr, arith}
use Rattle.std.specs.Option.{option_and_then, option_map}
use Rattle.std.proofs.lemmas.Bool.{cases_eq, cases_lt}
use Rattle.std.proofs.lemmas.Option.{none-some, same_Some}
use Rattle.lines.specs.Layouts.{Layout, Rules}
use Rattle.lines.specs.Visual.{Visual}
use Rattle.session.specs.Edges.{edge_caret_at, left_edge, line_at, right_edge, step_at, step_on}
use Rattle.session.specs.Steps.{left_of, right_of, Covers, IsBoundary, IsStep, Returns, StepsTo}
use Rattle.session.specs.Units.{unit_of}
use Rattle.session.specs.declared.carets.Caret.{Caret}
use Rattle.session.specs.declared.edges.Direction.{Direction}
use Rattle.session.specs.declared.edges.Direction.TheVariants.{Left, Right}
use Rattle.session.specs.declared.edges.Edge.{Edge}
use Rattle.session.specs.declared.units.CaretUnit.{CaretUnit}
use Rattle.session.proofs.UnitEdgeLemmas.{left_drawn, right_drawn, IsDrawn, IsLineOf}
use Rattle.session.proofs.UnitTileLemmas.{boundary_within, no_unit, none_inside, owns, Owns}
use Rattle.session.proofs.CaretEndLemmas.{caret_within_by, AllClusters}

module _ (rules : Rules) (kept : List Layout) (clusters : AllClusters kept) (caret : Caret) (line : Visual) (start : ℕ) (facts : IsLineOf kept caret.line line start) where
  abbrev Boundary : ℕ → Type 0
  Boundary = IsBoundary kept line start

  abbrev owned : (column : ℕ) → column < line.columns → Owns kept line start column
  owned = owns kept line start facts.ordered facts.adjoin facts.clusters facts.columns

  nothing_inside : (column : ℕ) (unit : CaretUnit) → Covers kept line start column unit → (c : ℕ) → Boundary c → left_of unit < c → right_of unit ≤ c
  nothing_inside = none_inside kept line start facts.ordered facts.adjoin facts.clusters facts.columns

  right_past : line.columns ≤ caret.column → step_on kept line start caret.column Right ≡ None
  right_past past = ap (option_map (right_edge start)) (no_unit kept line start facts.ordered facts.adjoin facts.clusters facts.columns caret.column past)

  right_over : (own : Owns kept line start caret.column) → step_on kept line start caret.column Right ≡ Some (right_edge start (unit_of line start own.has.cluster own.k))
  right_over own = ap (option_map (right_edge start)) own.covers.found

  left_over : (column : ℕ) → caret.column ≡ suc column → (own : Owns kept line start column)
      → step_on kept line start caret.column Left ≡ Some (left_edge start (unit_of line start own.has.cluster own.k))
  left_over column next own = ap (λ c. step_on kept line start c Left) next ∙ ap (option_map (left_edge start)) own.covers.found

  left_none : caret.column ≡ 0 → step_on kept line start caret.column Left ≡ None
  left_none first = ap (λ c. step_on kept line start c Left) first

  abbrev Leads : Direction → Option Edge → Type 0
  Leads direction = IsStep rules kept line start direction caret

  right_leads : Leads Right (step_on kept line start caret.column Right)
  right_leads =
      elim (cases_lt caret.column line.columns) [
        | inl below ↦
            let own : Owns kept line start caret.column = owned caret.column below in
            let unit : CaretUnit = unit_of line start own.has.cluster own.k in
            let next : IsDrawn rules kept caret.line (right_edge start unit) (right_of unit) = right_drawn rules kept caret.line line start facts own.k own.has own.held in
            let step : StepsTo rules kept line start Right caret (right_edge start unit) = record {
              to = next.to;
              drawn = next.drawn;
              line_stays = next.line;
              further = omega (arith, next.at, own.covers.right);
              boundary = inl (caret.column, unit, own.covers.found, inr (sym next.at));
              nearest = λ c bound after. elim (cases_eq c next.to.column) [
                | inl same ↦ inr same
                | inr other ↦ inl (omega (arith, other, next.at, nothing_inside caret.column unit own.covers c bound (omega (arith, after, own.covers.left))))
              ];
            } in
            subst (Leads Right) (sym (right_over own)) step
        | inr past ↦
            let none : Leads Right None = λ c bound after. omega (arith, past, after, boundary_within kept line start facts.ordered facts.adjoin facts.clusters facts.columns c bound) in
            subst (Leads Right) (sym (right_past past)) none
      ]

  left_leads_by : (column : ℕ) → caret.column ≡ column → caret.column ≤ line.columns → Leads Left (step_on kept line start caret.column Left)
  left_leads_by zero first within =
      let none : Leads Left None = λ c bound before. omega (arith, first, before) in
      subst (Leads Left) (sym (left_none first)) none
  left_leads_by (suc column) at within =
      let own : Owns kept line start column = owned column (omega (arith, at, within)) in
      let unit : CaretUnit = unit_of line start own.has.cluster own.k in
      let next : IsDrawn rules kept caret.line (left_edge start unit) (left_of unit) = left_drawn rules kept caret.line line start facts own.k own.has own.held in
      let step : StepsTo rules kept line start Left caret (left_edge start unit) = record {
        to = next.to;
        drawn = next.drawn;
        line_stays = next.line;
        further = omega (arith, next.at, at, own.covers.left);
        boundary = inl (column, unit, own.covers.found, inl (sym next.at));
        nearest = λ c bound before. elim (cases_lt c (left_of unit)) [
          | inl far ↦ inl (omega (arith, far, next.at))
          | inr near ↦
              elim (cases_eq c (left_of unit)) [
                | inl same ↦ inr (same ∙ sym next.at)
                | inr other ↦
                    absurd (omega (arith, near, other, at, before, own.covers.right, nothing_inside column unit own.covers c bound (omega (arith, near, other))))
              ]
        ];
      } in
      subst (Leads Left) (sym (left_over column at own)) step

  leads : (direction : Direction) → caret.column ≤ line.columns → Leads direction (step_on kept line start caret.column direction)
  leads Right within = right_leads
  leads Left within = left_leads_by caret.column refl within

  -- ---- a step back
  module _ (at : line_at kept caret.line ≡ Some (line, start)) where
    -- a step from an edge is a step from the column of the edge's caret
    step_from : (edge : Edge) (from : Caret) → edge_caret_at rules kept edge ≡ Some from → from.line ≡ caret.line → (direction : Direction)
        → step_at rules kept edge direction ≡ step_on kept line start from.column direction
    step_from edge from drawn there direction =
        ap (option_and_then (λ (c : Caret). option_and_then (λ found. step_on kept found.0 found.1 c.column direction) (line_at kept c.line))) drawn
        ∙ ap (option_and_then (λ found. step_on kept found.0 found.1 from.column direction)) (ap (line_at kept) there ∙ at)

    module _ (edge : Edge) (drawn : edge_caret_at rules kept edge ≡ Some caret) where
      pub step_leads : (direction : Direction) → Leads direction (step_at rules kept edge direction)
      step_leads direction =
          subst (Leads direction) (sym (step_from edge caret drawn refl direction)) (leads direction (caret_within_by rules kept clusters caret line start facts edge.side edge.pos drawn))

      -- a step back from `next` leads to an edge at the caret's column
      abbrev Back : Direction → Edge → Type 0
      Back direction next = (again : Edge) × (step_at rules kept next direction ≡ Some again) × (to : Caret) × (edge_caret_at rules kept again ≡ Some to) × (to.column ≡ caret.column)

      right_returns : Boundary caret.column → (next : Edge) → step_at rules kept edge Right ≡ Some next → Back Left next
      right_returns bound next is =
          elim (cases_lt caret.column line.columns) [
            | inr past ↦ absurd (none-some next (sym (step_from edge caret drawn refl Right ∙ right_past past) ∙ is))
            | inl below ↦
                let own : Owns kept line start caret.column = owned caret.column below in
                let unit : CaretUnit = unit_of line start own.has.cluster own.k in
                let there : IsDrawn rules kept caret.line (right_edge start unit) (right_of unit) = right_drawn rules kept caret.line line start facts own.k own.has own.held in
                let here : IsDrawn rules kept caret.line (left_edge start unit) (left_of unit) = left_drawn rules kept caret.line line start facts own.k own.has own.held in
                let passed : right_edge start unit ≡ next = same_Some _ next (sym (step_from edge caret drawn refl Right ∙ right_over own) ∙ is) in
                let first : left_of unit ≡ caret.column =
                elim (cases_eq (left_of unit) caret.column) [
                  | inl same ↦ same
                  | inr other ↦ absurd (omega (arith, own.covers.right, nothing_inside caret.column unit own.covers caret.column bound (omega (arith, other, own.covers.left))))
                ] in
                let last : there.to.column ≡ suc (right_of unit - 1) = omega (arith, there.at, own.covers.right) in
                let step : step_at rules kept (right_edge start unit) Left ≡ Some (left_edge start unit) =
                step_from (right_edge start unit) there.to there.drawn there.line Left
                ∙ ap (λ c. step_on kept line start c Left) last
                ∙ ap (option_map (left_edge start)) (own.covers.whole (right_of unit - 1) (omega (arith, own.covers.left, own.covers.right)) (omega (arith, own.covers.right))) in
                (left_edge start unit, subst (λ e. step_at rules kept e Left ≡ Some (left_edge start unit)) passed step, here.to, here.drawn, here.at ∙ first)
          ]

      left_returns_by : (column : ℕ) → caret.column ≡ column → caret.column ≤ line.columns → Boundary caret.column → (next : Edge) → step_at rules kept edge Left ≡ Some next → Back Right next
      left_returns_by zero first within bound next is = absurd (none-some next (sym (step_from edge caret drawn refl Left ∙ left_none first) ∙ is))
      left_returns_by (suc column) place within bound next is =
          let own : Owns kept line start column = owned column (omega (arith, place, within)) in
          let unit : CaretUnit = unit_of line start own.has.cluster own.k in
          let there : IsDrawn rules kept caret.line (left_edge start unit) (left_of unit) = left_drawn rules kept caret.line line start facts own.k own.has own.held in
          let here : IsDrawn rules kept caret.line (right_edge start unit) (right_of unit) = right_drawn rules kept caret.line line start facts own.k own.has own.held in
          let passed : left_edge start unit ≡ next = same_Some _ next (sym (step_from edge caret drawn refl Left ∙ left_over column place own) ∙ is) in
          let last : right_of unit ≡ caret.column =
          omega (arith, place, own.covers.right, nothing_inside column unit own.covers caret.column bound (omega (arith, place, own.covers.left))) in
          let step : step_at rules kept (left_edge start unit) Right ≡ Some (right_edge start unit) =
          step_from (left_edge start unit) there.to there.drawn there.line Right
          ∙ ap (λ c. step_on kept line start c Right) there.at
          ∙ ap (option_map (right_edge start)) (own.covers.whole (left_of unit) (omega arith) (omega (arith, own.covers.left, own.covers.right))) in
          (right_edge start unit, subst (λ e. step_at rules kept e Right ≡ Some (right_edge start unit)) passed step, here.to, here.drawn, here.at ∙ last)

      pub step_returns : (direction : Direction) → Returns rules kept line start direction edge caret
      step_returns Right bound next is = right_returns bound next is
      step_returns Left bound next is = left_returns_by caret.column refl (caret_within_by rules kept clusters caret line start facts edge.side edge.pos drawn) bound next is
