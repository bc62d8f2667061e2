-- The carets at the two edges of a unit are at its two ends, on its line.
use Rattle.std.proofs.Common.{◌≡◌, ℕ, suc, ◌+◌, ◌-◌, ◌<◌, ◌≤◌, ◌==◌, ◌&&◌, nat_le, nat_lt, Bool, true, false, List, length, get_or, Some, None, if◌then◌else◌, sym, ap, ap₂, subst, ◌∙◌, arith}
use Rattle.std.specs.List.{slice_get}
use Rattle.std.specs.Option.{option_and_then, option_map}
use Rattle.std.proofs.lemmas.Bool.{and_from, and_right, cond-true, cond-false, eq-eqb, le-leb, lt-leb, lt-ltb}
use Rattle.bidi.specs.Brackets.{greatest}
use Rattle.lines.specs.Layouts.{Layout, Rules}
use Rattle.lines.specs.Ordered.{IsOrdered}
use Rattle.lines.specs.Visual.{Visual}
use Rattle.reorder.specs.Order.{is_odd}
use Rattle.session.specs.Carets.{caret_at, leading_edge, end_caret, trailing_edge}
use Rattle.session.specs.Clusters.{cluster_at}
use Rattle.session.specs.Edges.{after, before, caret_beside, caret_of, column_on, edge_caret_at, edge_caret_by, left_edge, right_edge}
use Rattle.session.specs.Kept.{lines_in, text_of}
use Rattle.session.specs.Places.{place_in}
use Rattle.session.specs.Steps.{left_of, right_of}
use Rattle.session.specs.Units.{column_after, column_before, column_by, holder, shown_begin, takes_columns, unit_end, unit_of, unit_start}
use Rattle.session.specs.declared.carets.Caret.{Caret}
use Rattle.session.specs.declared.clusters.Cluster.{Cluster}
use Rattle.session.specs.declared.edges.Edge.{Edge}
use Rattle.session.specs.declared.edges.Side.{Side}
use Rattle.session.specs.declared.edges.Side.TheVariants.{After, Before}
use Rattle.session.specs.declared.places.Place.{Place}
use Rattle.session.specs.declared.units.CaretUnit.{CaretUnit}
use Rattle.session.proofs.CaretUnitLemmas.{end_above, end_within, last_member, member, same_unit, shown, start_first, start_is, IsHeld, IsMember}
use Rattle.session.proofs.CoveringLemmas.{width_of}
use Rattle.session.proofs.FirstLemmas.{greatest_is, IsLast}
use Rattle.session.proofs.UnitTileLemmas.{Adjoins, HasCluster, HaveClusters}

-- whether the place of character k of a line that starts at `start` is on line n, at offset k
pub record IsPlaced (kept : List Layout) (n start k : ℕ) : Type 0 where
  pub inside : start + k < length (text_of kept)
  pub line : (place_in kept (start + k)).line ≡ n
  pub offset : (place_in kept (start + k)).offset ≡ k

-- the facts about line n of a text, which starts at the position `start`
pub record IsLineOf (kept : List Layout) (n : ℕ) (line : Visual) (start : ℕ) : Type 0 where
  pub read : slice_get (lines_in kept) n ≡ Some line
  pub ordered : IsOrdered line
  pub adjoin : Adjoins kept line start
  pub clusters : HaveClusters kept line start
  pub some : 0 < line.len
  pub placed : (k : ℕ) → k < line.len → IsPlaced kept n start k
  pub columns : width_of line ≡ line.columns

-- an edge whose caret is at a column of line n
pub record IsDrawn (rules : Rules) (kept : List Layout) (n : ℕ) (edge : Edge) (column : ℕ) : Type 0 where
  pub to : Caret
  pub drawn : edge_caret_at rules kept edge ≡ Some to
  pub line : to.line ≡ n
  pub at : to.column ≡ column

-- the caret on a side of character k of line n, which starts at `start`, is at a column of this line
record IsBeside (kept : List Layout) (n start : ℕ) (side : Side) (k column : ℕ) : Type 0 where
  to : Caret
  drawn : caret_of kept side (start + k) (place_in kept (start + k)) ≡ Some to
  line : to.line ≡ n
  at : to.column ≡ column

module _ (rules : Rules) (kept : List Layout) (n : ℕ) (line : Visual) (start : ℕ) (facts : IsLineOf kept n line start) where
  -- the caret on a side of a character is on this line, at the column that `column_on` returns
  beside : (side : Side) (k : ℕ) (cluster : Cluster) → k < length line.levels → cluster_at kept (start + k) ≡ Some cluster
      → IsBeside kept n start side k (column_on side line start cluster k)
  beside side k cluster within is =
      let placed : IsPlaced kept n start k = facts.placed k (omega (arith, within, facts.ordered.within)) in
      let place : Place = place_in kept (start + k) in
      let from : ℕ = start + k - place.offset in
      let caret : Caret = record { line = place.line; column = column_on side line from cluster place.offset; level = get_or line.levels place.offset 0 } in
      let there : slice_get (lines_in kept) place.line ≡ Some line = ap (slice_get (lines_in kept)) placed.line ∙ facts.read in
      let inner : place.offset < length line.levels = omega (arith, placed.offset, within) in
      let begins : from ≡ start = omega (arith, placed.offset) in
      record {
        to = caret;
        drawn =
            ap (option_and_then (λ l. option_map (caret_beside side place.line l from place.offset) (cluster_at kept (start + k)))) there
            ∙ ap (option_map (caret_beside side place.line line from place.offset)) is
            ∙ ap (λ (c : Caret). Some c) (cond-true (nat_lt place.offset (length line.levels)) caret (end_caret place.line line) (lt-ltb place.offset (length line.levels) inner));
        line = placed.line;
        at = ap₂ (λ s o. column_on side line s cluster o) begins placed.offset;
      }

  -- the edge before a character is drawn at the column that `column_before` returns
  before_drawn : (k : ℕ) (cluster : Cluster) → k < length line.levels → cluster_at kept (start + k) ≡ Some cluster
      → IsDrawn rules kept n (before (start + k)) (column_before line start cluster k)
  before_drawn k cluster within is =
      let placed : IsPlaced kept n start k = facts.placed k (omega (arith, within, facts.ordered.within)) in
      let place : Place = place_in kept (start + k) in
      let found : IsBeside kept n start Before k (column_before line start cluster k) = beside Before k cluster within is in
      record {
        to = found.to;
        drawn =
            cond-false (nat_le (length (text_of kept)) (start + k)) (caret_at rules kept (start + k)) (caret_of kept Before (start + k) place) (lt-leb (length (text_of kept)) (start + k) placed.inside)
            ∙ found.drawn;
        line = found.line;
        at = found.at;
      }

  after_drawn : (k : ℕ) (cluster : Cluster) → k < length line.levels → cluster_at kept (start + k) ≡ Some cluster
      → IsDrawn rules kept n (after (start + suc k)) (column_after line start cluster k)
  after_drawn k cluster within is =
      let placed : IsPlaced kept n start k = facts.placed k (omega (arith, within, facts.ordered.within)) in
      let place : Place = place_in kept (start + k) in
      let found : IsBeside kept n start After k (column_after line start cluster k) = beside After k cluster within is in
      let next : start + suc k ≡ suc (start + k) = omega arith in
      record {
        to = found.to;
        drawn =
            ap (edge_caret_by rules kept After) next
            ∙ cond-false (nat_le (length (text_of kept)) (start + k)) None (caret_of kept After (start + k) place) (lt-leb (length (text_of kept)) (start + k) placed.inside)
            ∙ found.drawn;
        line = found.line;
        at = found.at;
      }

  module _ (k : ℕ) (has : HasCluster kept (start + k)) (held : IsHeld line start has.cluster k) where
    abbrev unit : CaretUnit
    unit = unit_of line start has.cluster k

    within_line : k < length line.levels
    within_line = shown line facts.ordered start has.cluster k held

    -- the last character of the unit's range is in the cluster, and its trailing edge is the unit's
    last_inside : unit.end - 1 < length line.levels
    last_inside = omega (arith, end_above line facts.ordered start has.cluster k held, end_within line facts.ordered start has.cluster k held)

    last_cluster : cluster_at kept (start + (unit.end - 1)) ≡ Some has.cluster
    last_cluster =
        has.same (start + (unit.end - 1))
        (omega (arith, has.begin, end_above line facts.ordered start has.cluster k held))
        (omega (arith, end_above line facts.ordered start has.cluster k held, end_within line facts.ordered start has.cluster k held))

    last_column : column_after line start has.cluster (unit.end - 1) ≡ unit.trailing
    last_column =
        let above : k < unit.end = end_above line facts.ordered start has.cluster k held in
        let last = last_member line facts.ordered start has.cluster k held in
        let m : ℕ = last.0 in
        let from : k ≤ m = last.1 in
        let is : IsLast (takes_columns line) unit.end m = last.2 in
        let to : m < unit.end = is.below in
        let first : unit_start line start has.cluster k ≤ k = (start_first line facts.ordered start has.cluster k held).to in
        let own : IsMember line start has.cluster k m = member line facts.ordered start has.cluster k held m (omega arith) to is.passes in
        let same : unit_of line start has.cluster m ≡ unit = same_unit line facts.ordered start has.cluster k held m own in
        let next : suc (unit.end - 1) ≡ unit.end = omega arith in
        let test : ℕ → Bool = λ j. nat_le (shown_begin line start has.cluster) j && takes_columns line j in
        let holds : holder line start has.cluster (unit.end - 1) ≡ Some m =
        ap (greatest test) next
        ∙ greatest_is test unit.end m (record {
          below = to;
          passes = and_from (nat_le (shown_begin line start has.cluster) m) (takes_columns line m) (le-leb (shown_begin line start has.cluster) m (omega (arith, held.begin, from))) is.passes;
          fails = λ c over under. and_right (nat_le (shown_begin line start has.cluster) c) (takes_columns line c) (is.fails c over under);
        }) in
        let ends : unit_end line start has.cluster m ≡ suc (unit.end - 1) = ap (λ (u : CaretUnit). u.end) same ∙ sym next in
        ap (column_by line start has.cluster (unit.end - 1)) holds
        ∙ cond-true (unit_end line start has.cluster m == suc (unit.end - 1)) (unit_of line start has.cluster m).trailing (trailing_edge line (unit.end - 1))
        (eq-eqb (unit_end line start has.cluster m) (suc (unit.end - 1)) ends)
        ∙ ap (λ (u : CaretUnit). u.trailing) same

    -- the first character of the unit's range is also in the cluster, and its unit is the same one
    first_cluster : cluster_at kept (start + unit.start) ≡ Some has.cluster
    first_cluster =
        let own : IsMember line start has.cluster k unit.start = start_is line facts.ordered start has.cluster k held in
        has.same (start + unit.start) (omega (arith, own.from)) (omega (arith, own.shown))

    first_column : column_before line start has.cluster unit.start ≡ unit.leading
    first_column =
        let first : ℕ = unit.start in
        let own : IsMember line start has.cluster k first = start_is line facts.ordered start has.cluster k held in
        let same : unit_of line start has.cluster first ≡ unit = same_unit line facts.ordered start has.cluster k held first own in
        let begins : unit_start line start has.cluster first ≡ first = ap (λ (u : CaretUnit). u.start) same in
        cond-true (takes_columns line first && unit_start line start has.cluster first == first) (unit_of line start has.cluster first).leading (leading_edge line first)
        (and_from (takes_columns line first) (unit_start line start has.cluster first == first) own.takes (eq-eqb (unit_start line start has.cluster first) first begins))
        ∙ ap (λ (u : CaretUnit). u.leading) same

    start_drawn : IsDrawn rules kept n (before (start + unit.start)) unit.leading
    start_drawn =
        let to : unit.start ≤ k = (start_first line facts.ordered start has.cluster k held).to in
        subst (IsDrawn rules kept n (before (start + unit.start))) first_column
        (before_drawn unit.start has.cluster (omega (arith, within_line, to)) first_cluster)

    end_drawn : IsDrawn rules kept n (after (start + unit.end)) unit.trailing
    end_drawn =
        let next : suc (unit.end - 1) ≡ unit.end = omega (arith, end_above line facts.ordered start has.cluster k held) in
        subst (λ e. IsDrawn rules kept n (after (start + e)) unit.trailing) next
        (subst (IsDrawn rules kept n (after (start + suc (unit.end - 1)))) last_column (after_drawn (unit.end - 1) has.cluster last_inside last_cluster))

    pub left_drawn : IsDrawn rules kept n (left_edge start unit) (left_of unit)
    left_drawn =
        elim (is_odd unit.level) as (λ b. IsDrawn rules kept n (if b then after (start + unit.end) else before (start + unit.start)) (if b then unit.trailing else unit.leading)) [
          | true ↦ end_drawn
          | false ↦ start_drawn
        ]

    pub right_drawn : IsDrawn rules kept n (right_edge start unit) (right_of unit)
    right_drawn =
        elim (is_odd unit.level) as (λ b. IsDrawn rules kept n (if b then before (start + unit.start) else after (start + unit.end)) (if b then unit.leading else unit.trailing)) [
          | true ↦ start_drawn
          | false ↦ end_drawn
        ]
