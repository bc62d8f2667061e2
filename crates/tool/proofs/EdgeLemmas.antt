-- Bounds on the columns of edges, so that adding the columns of the padding does not overflow.
use Rattle.std.proofs.Common.{◌≡◌, ℕ, zero, suc, ◌+◌, ◌-◌, ◌<◌, ◌≤◌, ◌==◌, ◌&&◌, nat_le, nat_lt, Bool, true, false, List, [], ◌∷◌, length, drop, get_or, Option, Some, None, option_and_then, option_map, unwrap_or, if◌then◌else◌, refl, sym, subst, ap, ◌∙◌, arith}
use Rattle.std.specs.Prelude.{slice_get, sum, sum_by, All}
use Rattle.std.specs.List.{flat_map}
use Rattle.std.proofs.lemmas.List.{take_all}
use Rattle.std.proofs.lemmas.List.Elements.{All-append, All-head, All-nil, All-tail}
use Rattle.std.proofs.lemmas.List.Sums.{sum_by-take-drop, sum_by-take-le}
use Rattle.std.proofs.lemmas.Bool.{both_ways, lt-leb}
use Rattle.std.proofs.lemmas.Option.{none-some}
use Rattle.bidi.specs.Brackets.{greatest}
use Rattle.bidi.specs.Cuts.{paragraphs}
use Rattle.reorder.specs.Order.{is_odd}
use Rattle.lines.specs.Clusters.{after}
use Rattle.lines.specs.Columns.{columns_between, columns_left, width_at, widths}
use Rattle.lines.specs.Layouts.{Layout, Rules, cut_by, layout_of, visuals, with_advances}
use Rattle.lines.specs.Visual.{Visual}
use Rattle.session.specs.Carets.{caret_at, leading_edge, end_caret, trailing_edge}
use Rattle.session.specs.Clusters.{cluster_at}
use Rattle.session.specs.Edges.{caret_beside, caret_of, column_on, edge_caret_by}
use Rattle.session.specs.Kept.{back_advances, front_advances, layouts_from, layouts_of, lines_in, text_of}
use Rattle.session.specs.Places.{place_in}
use Rattle.session.specs.Units.{column_before, column_by, holder, is_in_unit, leading_of, takes_columns, unit_end, unit_of, unit_start}
use Rattle.session.specs.declared.carets.Caret.{Caret}
use Rattle.session.specs.declared.clusters.Cluster.{Cluster}
use Rattle.session.specs.declared.edges.Side.{Side}
use Rattle.session.specs.declared.edges.Side.TheVariants.{After, Before}
use Rattle.session.specs.declared.places.Place.{Place}

pub same_some : {A : Type 0} (x y : A) → Some x ≡ Some y → x ≡ y
same_some {A = A} x y is = ap (λ (o : Option A). unwrap_or o x) is

-- if all lines in every layout of a paragraph have a property, all lines of a text have the property
in_all : (P : Visual → Type 0) (rules : Rules) (width : ℕ) → ((own : Rules) (text : List ℕ) → All P (visuals (layout_of own width text)))
    → (advances : Option (List ℕ)) (pars : List (List ℕ)) → All P (flat_map visuals (layouts_from rules width advances pars))
in_all P rules width each advances [] = All-nil P
in_all P rules width each advances (par ∷ pars) =
    let own = with_advances rules (front_advances (length par) advances) in
    All-append P (visuals (layout_of own width par)) (flat_map visuals (layouts_from rules width (back_advances (length par) advances) pars)) (each own par)
    (in_all P rules width each (back_advances (length par) advances) pars)

at_place : (P : Visual → Type 0) (lines : List Visual) (n : ℕ) (line : Visual) → All P lines → Some line ≡ slice_get lines n → P line
at_place P [] n line all is = absurd (none-some line (sym is))
at_place P (x ∷ lines) zero line all is = subst P (sym (same_some line x is)) (All-head P x lines all)
at_place P (x ∷ lines) (suc n) line all is = at_place P lines n line (All-tail P x lines all) is

-- the column of an edge of a character is at most twice the number of columns of its line
module _ (line : Visual) where
  abbrev pub whole : ℕ
  whole = columns_left line (length line.vtol)

  left-le : (place : ℕ) → columns_left line place ≤ whole
  left-le place =
      omega (arith, sum_by-take-le (width_at line) line.vtol place, ap (sum_by (width_at line)) (take_all (length line.vtol) line.vtol (omega arith)))

  module _ (total : sum (widths line) ≡ line.columns) where
    between-le : (start end : ℕ) → columns_between line start end ≤ line.columns
    between-le start end =
        omega (
          arith,
          sum_by-take-le (λ x. x) (drop start (widths line)) (end - start),
          sum_by-take-drop (λ x. x) (widths line) start,
          total,
        )

    module _ (start : ℕ) (cluster : Cluster) where
      leading-le : (level first end : ℕ) → leading_of line level first end ≤ whole
      leading-le level first end =
          elim (is_odd level) as (λ b. (if b then columns_left line (after (greatest (is_in_unit line first end) (length line.vtol)) 0) else leading_edge line first) ≤ whole) [
            | true ↦ left-le _
            | false ↦ left-le _
          ]

      unit-le : (j : ℕ) → (unit_of line start cluster j).trailing ≤ whole + line.columns
      unit-le j =
          let first = unit_start line start cluster j in
          let end = unit_end line start cluster j in
          let level = get_or line.levels j 0 in
          let leading = leading-le level first end in
          let width = between-le first end in
          elim (is_odd level) as (λ b. (if b then leading_of line level first end - columns_between line first end else leading_of line level first end + columns_between line first end) ≤ whole + line.columns) [
            | true ↦ omega (arith, leading)
            | false ↦ omega (arith, leading, width)
          ]

      before-le : (k : ℕ) → column_before line start cluster k ≤ whole + line.columns
      before-le k =
          let leading = leading-le (get_or line.levels k 0) (unit_start line start cluster k) (unit_end line start cluster k) in
          let own : leading_edge line k ≤ whole = left-le _ in
          elim (takes_columns line k && unit_start line start cluster k == k) as (λ b. (if b then (unit_of line start cluster k).leading else leading_edge line k) ≤ whole + line.columns) [
            | true ↦ omega (arith, leading)
            | false ↦ omega (arith, own)
          ]

      column-le : (k : ℕ) (o : Option ℕ) → column_by line start cluster k o ≤ whole + line.columns
      column-le k None = let trailing : trailing_edge line k ≤ whole = left-le _ in omega (arith, trailing)
      column-le k (Some j) =
          let trailing : trailing_edge line k ≤ whole = left-le _ in
          elim (unit_end line start cluster j == suc k) as (λ b. (if b then (unit_of line start cluster j).trailing else trailing_edge line k) ≤ whole + line.columns) [
            | true ↦ unit-le j
            | false ↦ omega (arith, trailing)
          ]

      end-le : (n : ℕ) → (end_caret n line).column ≤ whole + line.columns
      end-le n = elim (is_odd line.base) as (λ b. (if b then 0 else line.columns) ≤ whole + line.columns) [ true ↦ omega arith | false ↦ omega arith ]

      on-le : (side : Side) (k : ℕ) → column_on side line start cluster k ≤ whole + line.columns
      on-le Before k = before-le k
      on-le After k = column-le k (holder line start cluster k)

      beside-le : (side : Side) (n k : ℕ) → (caret_beside side n line start k cluster).column ≤ whole + line.columns
      beside-le side n k =
          elim (nat_lt k (length line.levels)) as (λ b. (if b then record { line = n; column = column_on side line start cluster k; level = get_or line.levels k 0 } else end_caret n line).column ≤ whole + line.columns) [
            | true ↦ on-le side k
            | false ↦ end-le n
          ]

  beside-line : (side : Side) (n start k : ℕ) (cluster : Cluster) → (caret_beside side n line start k cluster).line ≡ n
  beside-line side n start k cluster =
      elim (nat_lt k (length line.levels)) as (λ b. (if b then record { line = n; column = column_on side line start cluster k; level = get_or line.levels k 0 } else end_caret n line).line ≡ n) [
        | true ↦ refl
        | false ↦ refl
      ]

-- if all lines in every layout of a paragraph have a property, line n of a laid-out text has the property
pub in_kept : (rules : Rules) (width : ℕ) (kept : List Layout) → kept ≡ layouts_of rules width (text_of kept)
    → (P : Visual → Type 0) → ((own : Rules) (text : List ℕ) → All P (visuals (layout_of own width text)))
    → (n : ℕ) (line : Visual) → Some line ≡ slice_get (lines_in kept) n → P line
in_kept rules width kept laid P each n line is =
    at_place P (lines_in kept) n line
    (subst (λ (k : List Layout). All P (lines_in k)) (sym laid) (in_all P (with_advances rules None) width each rules.advances (paragraphs (cut_by rules) (text_of kept)))) is

module _ (kept : List Layout) where
  -- a caret's line, and an upper bound on the caret's column
  pub record Fits (caret : Caret) : Type 0 where
    pub line : Visual
    pub found : Some line ≡ slice_get (lines_in kept) caret.line
    pub column : sum (widths line) ≡ line.columns → caret.column ≤ whole line + line.columns

  one : (side : Side) (place : Place) (pos : ℕ) (caret : Caret) (found : Option Visual) (cluster : Option Cluster) → found ≡ slice_get (lines_in kept) place.line
      → option_and_then (λ line. option_map (caret_beside side place.line line (pos - place.offset) place.offset) cluster) found ≡ Some caret → Fits caret
  one side place pos caret None cluster found is = absurd (none-some caret is)
  one side place pos caret (Some line) None found is = absurd (none-some caret is)
  one side place pos caret (Some line) (Some cluster) found is =
      let start = pos - place.offset in
      subst Fits (same_some (caret_beside side place.line line start place.offset cluster) caret is) (record {
        line = line;
        found = found ∙ ap (slice_get (lines_in kept)) (sym (beside-line line side place.line start place.offset cluster));
        column = λ total. beside-le line total start cluster side place.line place.offset;
      })

  inside : (side : Side) (pos : ℕ) (caret : Caret) → caret_of kept side pos (place_in kept pos) ≡ Some caret → Fits caret
  inside side pos caret is =
      one side (place_in kept pos) pos caret (slice_get (lines_in kept) (place_in kept pos).line) (cluster_at kept pos) refl is

  after-by : (pos : ℕ) (caret : Caret) (b : Bool) → (if b then None else caret_of kept After pos (place_in kept pos)) ≡ Some caret → Fits caret
  after-by pos caret true is = absurd (none-some caret is)
  after-by pos caret false is = inside After pos caret is

  before-by : (rules : Rules) (pos : ℕ) (caret : Caret) (b : Bool) → b ≡ false
      → (if b then caret_at rules kept pos else caret_of kept Before pos (place_in kept pos)) ≡ Some caret → Fits caret
  before-by rules pos caret true within is = absurd (both_ways true within refl)
  before-by rules pos caret false within is = inside Before pos caret is

  -- `Fits` holds for the caret at an edge of a character
  pub edge-fits : (rules : Rules) (side : Side) (pos : ℕ) (caret : Caret) → (side ≡ Before → pos < length (text_of kept))
      → Some caret ≡ edge_caret_by rules kept side pos → Fits caret
  edge-fits rules Before pos caret within is =
      before-by rules pos caret (nat_le (length (text_of kept)) pos) (lt-leb (length (text_of kept)) pos (within refl)) (sym is)
  edge-fits rules After zero caret within is = absurd (none-some caret (sym is))
  edge-fits rules After (suc pos) caret within is = after-by pos caret (nat_le (length (text_of kept)) pos) (sym is)

abbrev is_before : Side → Bool
is_before Before = true
is_before After = false

-- if the side of a query's edge is `Before`, the query's `is_after` is false
pub side-before : (is_after : Bool) → (if is_after then After else Before) ≡ Before → is_after ≡ false
side-before true is = absurd (both_ways false refl (ap is_before is))
side-before false is = refl
