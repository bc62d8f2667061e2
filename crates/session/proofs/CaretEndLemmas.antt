-- No caret is past the right end of its line.
use Rattle.std.proofs.Common.{◌≡◌, ℕ, zero, suc, ◌+◌, ◌-◌, ◌<◌, ◌≤◌, ◌==◌, ◌&&◌, nat_le, nat_lt, Bool, true, false, List, length, get_or, Option, Some, None, if◌then◌else◌, refl, sym, ap, subst, ◌∙◌, inl, inr, arith}
use Rattle.std.specs.List.{slice_get}
use Rattle.std.specs.Option.{option_and_then, option_map}
use Rattle.std.proofs.lemmas.Bool.{and_parts, cases_Bool, cond-true, cond-false, leb-false, leb-true, ltb-true}
use Rattle.std.proofs.lemmas.Option.{none-some, same_Some}
use Rattle.bidi.specs.Brackets.{greatest}
use Rattle.lines.specs.Clusters.{after}
use Rattle.lines.specs.Columns.{columns_left}
use Rattle.lines.specs.Layouts.{Layout, Rules}
use Rattle.lines.specs.Visual.{Visual}
use Rattle.reorder.specs.Order.{is_odd}
use Rattle.session.specs.Carets.{caret_at, caret_in, caret_on, leading_edge, end_caret, trailing_edge}
use Rattle.session.specs.Clusters.{cluster_at}
use Rattle.session.specs.Edges.{caret_beside, caret_of, column_on, edge_caret_by}
use Rattle.session.specs.Kept.{lines_in, text_of}
use Rattle.session.specs.Places.{place_at, place_in}
use Rattle.session.specs.Units.{column_before, column_by, holder, is_in_unit, leading_of, shown_begin, takes_columns, unit_end, unit_of, unit_start}
use Rattle.session.specs.declared.carets.Caret.{Caret}
use Rattle.session.specs.declared.clusters.Cluster.{Cluster}
use Rattle.session.specs.declared.edges.Side.{Side}
use Rattle.session.specs.declared.edges.Side.TheVariants.{After, Before}
use Rattle.session.specs.declared.places.Place.{Place}
use Rattle.session.proofs.CaretUnitLemmas.{trailing_within, IsHeld}
use Rattle.session.proofs.CoveringLemmas.{left_most, width_of}
use Rattle.session.proofs.FirstLemmas.{greatest_passes}
use Rattle.session.proofs.UnitEdgeLemmas.{IsLineOf}
use Rattle.session.proofs.UnitTileLemmas.{HasCluster}

pub mapped : {A B : Type 0} (f : A → B) (o : Option A) (y : B) → option_map f o ≡ Some y → (x : A) × (o ≡ Some x) × (f x ≡ y)
mapped f None y is = absurd (none-some y is)
mapped f (Some x) y is = (x, refl, same_Some (f x) y is)

pub chained : {A B : Type 0} (f : A → Option B) (o : Option A) (y : B) → option_and_then f o ≡ Some y → (x : A) × (o ≡ Some x) × (f x ≡ Some y)
chained f None y is = absurd (none-some y is)
chained f (Some x) y is = (x, refl, is)

end_within : (n : ℕ) (line : Visual) → (end_caret n line).column ≤ line.columns
end_within n line = elim (is_odd line.base) as (λ b. (if b then 0 else line.columns) ≤ line.columns) [ true ↦ omega arith | false ↦ omega arith ]

-- a bound on the columns of two carets on a line also holds for a choice between the two
either : (b : Bool) (x y : Caret) (n width : ℕ) → x.line ≡ n → y.line ≡ n → (b ≡ true → x.column ≤ width) → (b ≡ false → y.column ≤ width)
    → let caret : Caret = if b then x else y in (caret.line ≡ n) × (caret.column ≤ width)
either true x y n width one other here there = (one, here refl)
either false x y n width one other here there = (other, there refl)

in_within : (line : Visual) (place : Place) → width_of line ≡ line.columns → ((caret_in line place).line ≡ place.line) × ((caret_in line place).column ≤ line.columns)
in_within line place fits =
    let caret : Caret = record { line = place.line; column = leading_edge line place.offset; level = get_or line.levels place.offset 0 } in
    either (nat_lt place.offset (length line.levels)) caret (end_caret place.line line) place.line line.columns refl refl
    (λ _. omega (arith, fits, left_most line (if is_odd (get_or line.levels place.offset 0) then get_or line.ltov place.offset 0 + 1 else get_or line.ltov place.offset 0))) (λ _. end_within place.line line)

-- a caret on a side of a character is on the line of this character
pub beside_line : (side : Side) (other : Visual) (place : Place) (from : ℕ) (cluster : Cluster) → (caret_beside side place.line other from place.offset cluster).line ≡ place.line
beside_line side other place from cluster =
    elim (nat_lt place.offset (length other.levels)) as (λ b. (if b then (record { line = place.line; column = column_on side other from cluster place.offset; level = get_or other.levels place.offset 0 }) else end_caret place.line other).line ≡ place.line) [
      | true ↦ refl
      | false ↦ refl
    ]

-- each character of a text has a cluster
abbrev pub AllClusters : List Layout → Type 0
AllClusters kept = (pos : ℕ) → pos < length (text_of kept) → HasCluster kept pos

module _ (rules : Rules) (kept : List Layout) (clusters : AllClusters kept) (caret : Caret) (line : Visual) (start : ℕ) (facts : IsLineOf kept caret.line line start) where
  -- a line that was read at the index of the caret's line is `line`
  same_line : (n : ℕ) (other : Visual) → slice_get (lines_in kept) n ≡ Some other → caret.line ≡ n → other ≡ line
  same_line n other read there = same_Some other line (sym read ∙ ap (slice_get (lines_in kept)) (sym there) ∙ facts.read)

  on_within : (place : Place) (o : Option Visual) → slice_get (lines_in kept) place.line ≡ o → caret_on rules o place ≡ caret → caret.column ≤ line.columns
  on_within place None read is = let zero_column : 0 ≡ caret.column = ap (λ (c : Caret). c.column) is in omega arith
  on_within place (Some other) read is =
      let there : caret.line ≡ place.line = ap (λ (c : Caret). c.line) (sym is) ∙ (either_line other place) in
      let same : other ≡ line = same_line place.line other read there in
      subst (λ (c : Caret). c.column ≤ line.columns) (ap (λ l. caret_in l place) (sym same) ∙ is) (in_within line place facts.columns).1
    where
      either_line : (other : Visual) (place : Place) → (caret_in other place).line ≡ place.line
      either_line other place = elim (nat_lt place.offset (length other.levels)) as (λ b. (if b then (record { line = place.line; column = leading_edge other place.offset; level = get_or other.levels place.offset 0 }) else end_caret place.line other).line ≡ place.line) [ true ↦ refl | false ↦ refl ]

  -- ---- the edges of a character
  leading_edge_within : (k : ℕ) → leading_edge line k ≤ line.columns
  leading_edge_within k = omega (arith, facts.columns, left_most line (if is_odd (get_or line.levels k 0) then get_or line.ltov k 0 + 1 else get_or line.ltov k 0))

  trailing_edge_within : (k : ℕ) → trailing_edge line k ≤ line.columns
  trailing_edge_within k = omega (arith, facts.columns, left_most line (if is_odd (get_or line.levels k 0) then get_or line.ltov k 0 else get_or line.ltov k 0 + 1))

  -- the column of the caret after a character that does not end its cluster is at most the line's number of
  -- columns
  by_within : (from k : ℕ) (cluster : Cluster) → k < length line.levels → from + k < cluster.end → (o : Option ℕ) → holder line from cluster k ≡ o → column_by line from cluster k o ≤ line.columns
  by_within from k cluster within inside None is = trailing_edge_within k
  by_within from k cluster within inside (Some j) is =
      let found = greatest_passes (λ i. nat_le (shown_begin line from cluster) i && takes_columns line i) (suc k) j is in
      let below : j < suc k = found.0 in
      let tests = and_parts (nat_le (shown_begin line from cluster) j) (takes_columns line j) found.1 in
      let begin : shown_begin line from cluster ≤ j = leb-true (shown_begin line from cluster) j tests.0 in
      let held : IsHeld line from cluster j = record { begin = begin; end = omega arith; takes = tests.1 } in
      let trailing = trailing_within line facts.ordered from cluster j held facts.adjoin.even in
      elim (unit_end line from cluster j == suc k) as (λ b. (if b then (unit_of line from cluster j).trailing else trailing_edge line k) ≤ line.columns) [
        | true ↦ omega (arith, trailing, facts.columns)
        | false ↦ trailing_edge_within k
      ]

  -- ---- the caret before a character
  leading_within : (level first end : ℕ) → leading_of line level first end ≤ line.columns
  leading_within level first end =
      let place : ℕ = after (greatest (is_in_unit line first end) (length line.vtol)) 0 in
      elim (is_odd level) as (λ b. (if b then columns_left line place else leading_edge line first) ≤ line.columns) [
        | true ↦ omega (arith, facts.columns, left_most line place)
        | false ↦ leading_edge_within first
      ]

  before_within : (from k : ℕ) (cluster : Cluster) → column_before line from cluster k ≤ line.columns
  before_within from k cluster =
      elim (takes_columns line k && unit_start line from cluster k == k) as (λ b. (if b then (unit_of line from cluster k).leading else leading_edge line k) ≤ line.columns) [
        | true ↦ leading_within (get_or line.levels k 0) (unit_start line from cluster k) (unit_end line from cluster k)
        | false ↦ leading_edge_within k
      ]

  on_side_within : (side : Side) (from k : ℕ) (cluster : Cluster) → k < length line.levels → from + k < cluster.end → column_on side line from cluster k ≤ line.columns
  on_side_within Before from k cluster within inside = before_within from k cluster
  on_side_within After from k cluster within inside = by_within from k cluster within inside (holder line from cluster k) refl

  beside_within : (side : Side) (place : Place) (from : ℕ) (cluster : Cluster) → from + place.offset < cluster.end → (caret_beside side place.line line from place.offset cluster).column ≤ line.columns
  beside_within side place from cluster inside =
      let here : Caret = record { line = place.line; column = column_on side line from cluster place.offset; level = get_or line.levels place.offset 0 } in
      (either (nat_lt place.offset (length line.levels)) here (end_caret place.line line) place.line line.columns refl refl
      (λ shown. on_side_within side from place.offset cluster (ltb-true place.offset (length line.levels) shown) inside)
      (λ _. end_within place.line line)).1

  -- the column of the caret on a side of a character of the text is at most the line's number of columns
  of_within : (side : Side) (pos : ℕ) → pos < length (text_of kept) → caret_of kept side pos (place_in kept pos) ≡ Some caret → caret.column ≤ line.columns
  of_within side pos inside drawn =
      let place : Place = place_in kept pos in
      let read = chained (λ (l : Visual). option_map (caret_beside side place.line l (pos - place.offset) place.offset) (cluster_at kept pos)) (slice_get (lines_in kept) place.line) caret drawn in
      let other : Visual = read.0 in
      let held = mapped (caret_beside side place.line other (pos - place.offset) place.offset) (cluster_at kept pos) caret read.2 in
      let cluster : Cluster = held.0 in
      let has : HasCluster kept pos = clusters pos inside in
      let same_cluster : has.cluster ≡ cluster = same_Some has.cluster cluster (sym has.is ∙ held.1) in
      let end : pos < cluster.end = subst (λ (c : Cluster). pos < c.end) same_cluster has.end in
      let there : caret.line ≡ place.line = ap (λ (c : Caret). c.line) (sym held.2) ∙ beside_line side other place (pos - place.offset) cluster in
      let same : other ≡ line = same_line place.line other read.1 there in
      let is : caret_beside side place.line line (pos - place.offset) place.offset cluster ≡ caret =
      ap (λ l. caret_beside side place.line l (pos - place.offset) place.offset cluster) (sym same) ∙ held.2 in
      subst (λ (c : Caret). c.column ≤ line.columns) is (beside_within side place (pos - place.offset) cluster (omega arith))

  -- the column of the caret at any position, including the end of the text, is at most the line's number of
  -- columns
  at_within : (pos : ℕ) → caret_at rules kept pos ≡ Some caret → caret.column ≤ line.columns
  at_within pos drawn =
      let found = mapped (λ (place : Place). caret_on rules (slice_get (lines_in kept) place.line) place) (place_at rules kept pos) caret drawn in
      on_within found.0 (slice_get (lines_in kept) (found.0).line) refl found.2

  pub caret_within_by : (side : Side) (pos : ℕ) → edge_caret_by rules kept side pos ≡ Some caret → caret.column ≤ line.columns
  caret_within_by Before pos drawn =
      let here : Option Caret = caret_of kept Before pos (place_in kept pos) in
      elim (cases_Bool (nat_le (length (text_of kept)) pos)) [
        | inl past ↦ at_within pos (sym (cond-true (nat_le (length (text_of kept)) pos) (caret_at rules kept pos) here past) ∙ drawn)
        | inr inner ↦
            of_within Before pos (leb-false (length (text_of kept)) pos inner)
            (sym (cond-false (nat_le (length (text_of kept)) pos) (caret_at rules kept pos) here inner) ∙ drawn)
      ]
  caret_within_by After zero drawn = absurd (none-some caret drawn)
  caret_within_by After (suc pos) drawn =
      let here : Option Caret = caret_of kept After pos (place_in kept pos) in
      elim (cases_Bool (nat_le (length (text_of kept)) pos)) [
        | inl past ↦ absurd (none-some caret (sym (cond-true (nat_le (length (text_of kept)) pos) None here past) ∙ drawn))
        | inr inner ↦
            of_within After pos (leb-false (length (text_of kept)) pos inner)
            (sym (cond-false (nat_le (length (text_of kept)) pos) None here inner) ∙ drawn)
      ]
