-- The units of a line tile its columns, and there is no boundary inside a unit.
use Rattle.std.proofs.Common.{◌≡◌, ℕ, ◌+◌, ◌-◌, ◌<◌, ◌≤◌, true, List, length, get_or, Some, None, sym, ap, subst, ◌∙◌, ◌⊎◌, inl, inr, arith}
use Rattle.std.specs.Option.{option_and_then, option_map}
use Rattle.std.proofs.lemmas.Bool.{cases_Bool, cases_lt}
use Rattle.reorder.specs.Order.{is_odd}
use Rattle.std.proofs.lemmas.Option.{none-some, same_Some}
use Rattle.lines.proofs.ColumnLemmas.{left_more}
use Rattle.lines.specs.Columns.{columns_between, columns_left}
use Rattle.lines.specs.Layouts.{Layout}
use Rattle.lines.specs.Ordered.{AreInRun, IsOrdered}
use Rattle.lines.specs.Visual.{Visual}
use Rattle.session.specs.Clusters.{cluster_at}
use Rattle.session.specs.Edges.{unit_at, unit_in}
use Rattle.session.specs.Steps.{left_of, right_of, Covers, IsBoundary, UnitsTile}
use Rattle.session.specs.Units.{takes_columns, unit_of, unit_start}
use Rattle.session.specs.declared.clusters.Cluster.{Cluster}
use Rattle.session.specs.declared.units.CaretUnit.{CaretUnit}
use Rattle.session.proofs.CaretUnitLemmas.{even_columns, falling_columns, in_one_run, itself, reading_columns, same_unit, start_is, start_level, unit_within}
use Rattle.session.proofs.CaretUnitLemmas.{EvenAdjoins, HasColumns, IsHeld, IsMember, OddAdjoins}
use Rattle.session.proofs.CoveringLemmas.{covered, covering_is, takes_if, uncovered, width_of, CoveredBy}

-- the cluster of a position; it is the cluster of every position that it contains
pub record HasCluster (kept : List Layout) (pos : ℕ) : Type 0 where
  pub cluster : Cluster
  pub is : cluster_at kept pos ≡ Some cluster
  pub begin : cluster.start ≤ pos
  pub end : pos < cluster.end
  pub same : (other : ℕ) → cluster.start ≤ other → other < cluster.end → cluster_at kept other ≡ Some cluster

-- whether, in level runs at an odd level, the characters of each cluster are next to each other from left to
-- right
abbrev pub OddReads : List Layout → Visual → ℕ → Type 0
OddReads kept line start = (j k : ℕ) → AreInRun line j k → is_odd (get_or line.levels j 0) ≡ true
    → (cluster : Cluster) → cluster_at kept (start + j) ≡ Some cluster → start + k < cluster.end
    → columns_left line (get_or line.ltov k 0) ≡ columns_left line (get_or line.ltov j 0) + columns_between line j k

-- the visual order of the characters in the level runs of a line
pub record Adjoins (kept : List Layout) (line : Visual) (start : ℕ) : Type 0 where
  pub even : EvenAdjoins line
  pub odd : OddAdjoins line ⊎ OddReads kept line start

abbrev pub HaveClusters : List Layout → Visual → ℕ → Type 0
HaveClusters kept line start = (k : ℕ) → k < length line.levels → HasCluster kept (start + k)

module _ (kept : List Layout) (line : Visual) (start : ℕ) where
  -- a character whose unit covers a column
  pub record Owns (column : ℕ) : Type 0 where
    pub k : ℕ
    pub inside : k < length line.levels
    pub has : HasCluster kept (start + k)
    pub held : IsHeld line start has.cluster k
    pub covers : Covers kept line start column (unit_of line start has.cluster k)

  same_covers : (column : ℕ) (one other : CaretUnit) → unit_at kept line start column ≡ Some other → Covers kept line start column one → Covers kept line start column other
  same_covers column one other is covers = subst (Covers kept line start column) (same_Some one other (sym covers.found ∙ is)) covers

  module _ (ordered : IsOrdered line) (adjoin : Adjoins kept line start) (clusters : HaveClusters kept line start) (fits : width_of line ≡ line.columns) where
    -- the unit at a column is the unit of the character whose place covers the column
    at_place : (column k : ℕ) → k < length line.levels → columns_left line (get_or line.ltov k 0) ≤ column → column < columns_left line (get_or line.ltov k 0 + 1)
        → (cluster : Cluster) → cluster_at kept (start + k) ≡ Some cluster → unit_at kept line start column ≡ Some (unit_of line start cluster k)
    at_place column k within from to cluster is =
        let place : ℕ = get_or line.ltov k 0 in
        let inside : place < length line.vtol = omega (arith, ordered.inverse.ltov_within k within, ordered.vtol) in
        ap (option_and_then (λ p. unit_in kept line start (get_or line.vtol p 0))) (covering_is line column place inside from to)
        ∙ ap (unit_in kept line start) (ordered.inverse.at_ltov k within)
        ∙ ap (option_map (λ c. unit_of line start c k)) is

    -- for each column of a unit, that unit is found
    module _ (k : ℕ) (has : HasCluster kept (start + k)) (held : IsHeld line start has.cluster k) where
      abbrev unit : CaretUnit
      unit = unit_of line start has.cluster k

      columns : HasColumns line start has.cluster k
      columns =
          elim (cases_Bool (is_odd (get_or line.levels k 0))) [
            | inr even ↦ even_columns line ordered start has.cluster k held even adjoin.even
            | inl odd ↦ elim adjoin.odd [
              | inl falls ↦ falling_columns line ordered start has.cluster k held odd falls
              | inr reads ↦
                  let first : ℕ = unit_start line start has.cluster k in
                  let own : IsMember line start has.cluster k first = start_is line ordered start has.cluster k held in
                  reading_columns line ordered start has.cluster k held odd
                  (λ j is.
                  reads first j (in_one_run line ordered start has.cluster k held j is) (ap is_odd (start_level line ordered start has.cluster k held) ∙ odd) has.cluster
                  (has.same (start + first) (omega (arith, own.from)) (omega (arith, own.shown))) (omega (arith, is.shown)))
            ]
          ]

      whole_at : (c : ℕ) → left_of unit ≤ c → c < right_of unit → unit_at kept line start c ≡ Some unit
      whole_at c above under =
          let found = columns.owner c above under in
          let j : ℕ = found.0 in
          let own : IsMember line start has.cluster k j = found.1 in
          let one : unit_at kept line start c ≡ Some (unit_of line start has.cluster j) =
          at_place c j (omega (arith, own.shown)) found.2 found.3 has.cluster (has.same (start + j) (omega (arith, own.from)) (omega (arith, own.shown))) in
          let other : unit_of line start has.cluster j ≡ unit = same_unit line ordered start has.cluster k held j own in
          one ∙ ap (λ (u : CaretUnit). Some u) other

    pub owns : (column : ℕ) → column < line.columns → Owns column
    owns column below =
        let found = covered line column (omega (arith, below, fits)) in
        let place : ℕ = found.0 in
        let by : CoveredBy line column place = found.1 in
        let k : ℕ = get_or line.vtol place 0 in
        let placed : place < length line.levels = omega (arith, by.within, ordered.vtol) in
        let inside : k < length line.levels = ordered.inverse.vtol_within place placed in
        let there : get_or line.ltov k 0 ≡ place = ordered.inverse.at_vtol place placed in
        let from : columns_left line (get_or line.ltov k 0) ≤ column = subst (λ p. columns_left line p ≤ column) (sym there) by.from in
        let to : column < columns_left line (get_or line.ltov k 0 + 1) = subst (λ p. column < columns_left line (p + 1)) (sym there) by.to in
        let size : k < length line.text = omega (arith, inside, ordered.text) in
        let some : takes_columns line k ≡ true = takes_if line k size (omega (arith, by.from, by.to, left_more line place by.within)) in
        let has : HasCluster kept (start + k) = clusters k inside in
        let begin : has.cluster.start ≤ start + k = has.begin in
        let end : start + k < has.cluster.end = has.end in
        let held : IsHeld line start has.cluster k = record { begin = omega arith; end = omega arith; takes = some } in
        let own : IsMember line start has.cluster k k = itself line ordered start has.cluster k held in
        let around = (columns k has held).inside k own in
        let left : left_of (unit k has held) ≤ column = omega (arith, around.0, from) in
        let right : column < right_of (unit k has held) = omega (arith, around.1, to) in
        record {
          k = k;
          inside = inside;
          has = has;
          held = held;
          covers = record {
            found = at_place column k inside from to has.cluster has.is;
            left = left;
            right = right;
            within = omega (arith, unit_within line ordered start has.cluster k held (columns k has held), fits);
            whole = whole_at k has held;
          };
        }

    pub units_tile : UnitsTile kept line start
    units_tile column below = let own : Owns column = owns column below in (unit_of line start own.has.cluster own.k, own.covers)

    pub no_unit : (column : ℕ) → line.columns ≤ column → unit_at kept line start column ≡ None
    no_unit column past = ap (option_and_then (λ p. unit_in kept line start (get_or line.vtol p 0))) (uncovered line column (omega (arith, past, fits)))

    -- each unit that is found covers the column at which it is found
    pub found_covers : (column : ℕ) (unit : CaretUnit) → unit_at kept line start column ≡ Some unit → Covers kept line start column unit
    found_covers column unit is =
        elim (cases_lt column line.columns) [
          | inl below ↦ let own : Owns column = owns column below in same_covers column (unit_of line start own.has.cluster own.k) unit is own.covers
          | inr past ↦ absurd (none-some unit (sym (no_unit column past) ∙ is))
        ]

    -- no boundary is past the line's right end
    pub boundary_within : (c : ℕ) → IsBoundary kept line start c → c ≤ line.columns
    boundary_within c (inl (at, unit, is, inl same)) =
        let covers = found_covers at unit is in omega (arith, same, covers.left, covers.right, covers.within)
    boundary_within c (inl (at, unit, is, inr same)) =
        let covers = found_covers at unit is in omega (arith, same, covers.within)
    boundary_within c (inr none) = omega (arith, none.1)

    -- there is no boundary between the two ends of a unit
    pub none_inside : (column : ℕ) (unit : CaretUnit) → Covers kept line start column unit → (c : ℕ) → IsBoundary kept line start c → left_of unit < c → right_of unit ≤ c
    none_inside column unit covers c (inl (at, other, is, inl same)) after =
        elim (cases_lt c (right_of unit)) [
          | inr fine ↦ fine
          | inl before ↦
              let there = found_covers at other is in
              let one : unit_at kept line start c ≡ Some unit = covers.whole c (omega (arith, after)) before in
              let two : unit_at kept line start (left_of other) ≡ Some other = there.whole (left_of other) (omega arith) (omega (arith, there.left, there.right)) in
              let both : unit ≡ other = same_Some unit other (sym one ∙ ap (unit_at kept line start) (sym same) ∙ two) in
              absurd (omega (arith, after, same, ap left_of both))
        ]
    none_inside column unit covers c (inl (at, other, is, inr same)) after =
        elim (cases_lt c (right_of unit)) [
          | inr fine ↦ fine
          | inl before ↦
              let there = found_covers at other is in
              let one : unit_at kept line start (c - 1) ≡ Some unit = covers.whole (c - 1) (omega (arith, after)) (omega (arith, before)) in
              let two : unit_at kept line start (c - 1) ≡ Some other = there.whole (c - 1) (omega (arith, same, there.left, there.right)) (omega (arith, same, there.right)) in
              let both : unit ≡ other = same_Some unit other (sym one ∙ two) in
              absurd (omega (arith, before, same, ap right_of both))
        ]
    none_inside column unit covers c (inr none) after = absurd (omega (arith, after, none.1))
