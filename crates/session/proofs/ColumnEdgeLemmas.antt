-- The edge at a column of a line is at the last boundary up to that column.
use Rattle.std.proofs.Common.{◌≡◌, ℕ, ◌+◌, ◌-◌, ◌<◌, ◌≤◌, ◌==◌, nat_le, List, length, Option, Some, sym, ap, ap₂, subst, ◌∙◌, inl, inr, arith}
use Rattle.std.specs.List.{slice_get}
use Rattle.std.specs.Option.{option_and_then, option_map}
use Rattle.std.proofs.lemmas.Bool.{and_left, cases_eq, cases_lt, cond-false, lt-leb, ne_eqb}
use Rattle.std.proofs.lemmas.Option.{slice_get_within}
use Rattle.lines.specs.Columns.{columns_left}
use Rattle.lines.specs.Layouts.{Layout, Rules}
use Rattle.lines.specs.Visual.{Visual}
use Rattle.session.specs.Carets.{caret_at}
use Rattle.session.specs.Clusters.{cluster_at}
use Rattle.session.specs.Edges.{before, caret_beside, caret_of, edge_at, edge_by, edge_caret_at, edge_on, is_next, left_edge, line_at, right_edge, unit_at}
use Rattle.session.specs.Kept.{lines_in, text_of}
use Rattle.session.specs.Places.{is_closed, place_in}
use Rattle.session.specs.Steps.{left_of, right_of, IsLastTo}
use Rattle.session.specs.Units.{unit_of}
use Rattle.session.specs.declared.carets.Caret.{Caret}
use Rattle.session.specs.declared.edges.Edge.{Edge}
use Rattle.session.specs.declared.edges.Side.TheVariants.{Before}
use Rattle.session.specs.declared.places.Place.{Place}
use Rattle.session.specs.declared.units.CaretUnit.{CaretUnit}
use Rattle.session.proofs.UnitEdgeLemmas.{left_drawn, right_drawn, IsDrawn, IsLineOf, IsPlaced}
use Rattle.session.proofs.UnitTileLemmas.{boundary_within, no_unit, none_inside, owns, HasCluster, Owns}
use Rattle.session.proofs.CaretEndLemmas.{beside_line, caret_within_by, AllClusters}

module _ (rules : Rules) (kept : List Layout) (clusters : AllClusters kept) (n : ℕ) (line : Visual) (start : ℕ) (facts : IsLineOf kept n line start) where
  abbrev end_column : ℕ
  end_column = columns_left line (length line.vtol) - 1

  abbrev AtLast : ℕ → Edge → Type 0
  AtLast = IsLastTo rules kept n line start

  -- the edge at a column of the line is at the last boundary up to this column
  over_unit : (column : ℕ) → column < line.columns → AtLast column (edge_on kept line start column)
  over_unit column below =
      let own : Owns kept line start column = owns kept line start facts.ordered facts.adjoin facts.clusters facts.columns column below in
      let unit : CaretUnit = unit_of line start own.has.cluster own.k in
      let here : IsDrawn rules kept n (left_edge start unit) (left_of unit) = left_drawn rules kept n line start facts own.k own.has own.held in
      let is : edge_on kept line start column ≡ left_edge start unit = ap (λ o. edge_by kept start o (unit_at kept line start end_column)) own.covers.found in
      subst (AtLast column) (sym is) (record {
        to = here.to;
        drawn = here.drawn;
        on_line = here.line;
        boundary = inl (column, unit, own.covers.found, inl (sym here.at));
        within = omega (arith, here.at, own.covers.left);
        last = λ c bound to. elim (cases_lt (left_of unit) c) [
          | inl past ↦
              absurd (omega (arith, past, to, own.covers.right, none_inside kept line start facts.ordered facts.adjoin facts.clusters facts.columns column unit own.covers c bound past))
          | inr fine ↦ omega (arith, fine, here.at)
        ];
      })

  -- the edge at a column to the right of the text is also at the last boundary up to this column
  past_units : (column : ℕ) → line.columns ≤ column → 0 < line.columns → AtLast column (edge_on kept line start column)
  past_units column past some =
      let own : Owns kept line start end_column = owns kept line start facts.ordered facts.adjoin facts.clusters facts.columns end_column (omega (arith, some, facts.columns)) in
      let unit : CaretUnit = unit_of line start own.has.cluster own.k in
      let here : IsDrawn rules kept n (right_edge start unit) (right_of unit) = right_drawn rules kept n line start facts own.k own.has own.held in
      let is : edge_on kept line start column ≡ right_edge start unit =
      ap₂ (edge_by kept start) (no_unit kept line start facts.ordered facts.adjoin facts.clusters facts.columns column past) own.covers.found in
      let at : here.to.column ≡ line.columns = omega (arith, here.at, own.covers.right, own.covers.within, facts.columns, some) in
      subst (AtLast column) (sym is) (record {
        to = here.to;
        drawn = here.drawn;
        on_line = here.line;
        boundary = inl (end_column, unit, own.covers.found, inr (sym here.at));
        within = omega (arith, at, past);
        last = λ c bound to. omega (arith, at, boundary_within kept line start facts.ordered facts.adjoin facts.clusters facts.columns c bound);
      })

  -- on a line without columns, the edge is before the first character
  no_units : (column : ℕ) → line.columns ≡ 0 → AtLast column (edge_on kept line start column)
  no_units column none =
      let is : edge_on kept line start column ≡ before start =
      ap₂ (edge_by kept start) (no_unit kept line start facts.ordered facts.adjoin facts.clusters facts.columns column (omega (arith, none)))
      (no_unit kept line start facts.ordered facts.adjoin facts.clusters facts.columns end_column (omega (arith, none))) in
      let first : start + 0 ≡ start = omega arith in
      let placed : IsPlaced kept n start 0 = facts.placed 0 facts.some in
      let inside : start < length (text_of kept) = omega (arith, placed.inside) in
      let has : HasCluster kept start = clusters start inside in
      let place : Place = place_in kept start in
      let on_line : place.line ≡ n = ap (λ pos. (place_in kept pos).line) (sym first) ∙ placed.line in
      let read : slice_get (lines_in kept) place.line ≡ Some line = ap (slice_get (lines_in kept)) on_line ∙ facts.read in
      let from : ℕ = start - place.offset in
      let caret : Caret = caret_beside Before place.line line from place.offset has.cluster in
      let drawn : edge_caret_at rules kept (before start) ≡ Some caret =
      cond-false (nat_le (length (text_of kept)) start) (caret_at rules kept start) (caret_of kept Before start place) (lt-leb (length (text_of kept)) start inside)
      ∙ ap (option_and_then (λ l. option_map (caret_beside Before place.line l from place.offset) (cluster_at kept start))) read
      ∙ ap (option_map (caret_beside Before place.line line from place.offset)) has.is in
      let there : caret.line ≡ n = beside_line Before line place from has.cluster ∙ on_line in
      let within : caret.column ≤ line.columns =
      caret_within_by rules kept clusters caret line start (subst (λ m. IsLineOf kept m line start) (sym there) facts) Before start drawn in
      let at : caret.column ≡ 0 = omega (arith, within, none) in
      subst (AtLast column) (sym is) (record {
        to = caret;
        drawn = drawn;
        on_line = there;
        boundary = inr (none, at);
        within = omega (arith, at);
        last = λ c bound to. omega (arith, none, boundary_within kept line start facts.ordered facts.adjoin facts.clusters facts.columns c bound);
      })

  pub at_last : (column : ℕ) → AtLast column (edge_on kept line start column)
  at_last column =
      elim (cases_lt column line.columns) [
        | inl below ↦ over_unit column below
        | inr past ↦
            elim (cases_eq line.columns 0) [
              | inl none ↦ no_units column none
              | inr some ↦ past_units column past (omega (arith, some))
            ]
      ]

  pub edge_is : line_at kept n ≡ Some (line, start) → (column : ℕ) → edge_at rules kept n column ≡ Some (edge_on kept line start column)
  edge_is read column =
      let few : n < length (lines_in kept) = slice_get_within (lines_in kept) n line facts.read in
      let here : Option Edge = option_map (λ found. edge_on kept found.0 found.1 column) (line_at kept n) in
      cond-false (is_next rules kept n) (Some (before (length (text_of kept)))) here
      (and_left (n == length (lines_in kept)) (is_closed rules (text_of kept)) (ne_eqb n (length (lines_in kept)) (λ e. omega (arith, e, few))))
      ∙ ap (option_map (λ found. edge_on kept found.0 found.1 column)) read
