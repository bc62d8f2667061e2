-- The columns that the selected characters of a line cover, as an iterator traverses them.
use Rattle.std.proofs.Common.{◌≡◌, ℕ, zero, suc, ◌+◌, ◌-◌, ◌*◌, ◌<◌, ◌≤◌, Bool, true, false, not, List, [], ◌∷◌, length, nat_lt}
use Rattle.std.proofs.Common.{Option, Some, refl, sym, ap, ap₂, subst, ◌∙◌, inl, inr, arith, add-one}
use Rattle.std.specs.Option.{option_map_or}
use Rattle.std.proofs.lemmas.Bool.{and_from, both_ways, cases_eq, cases_lt, not_from_false}
use Rattle.ucd.specs.Least.{least}
use Rattle.lines.specs.Columns.{columns_left, covering}
use Rattle.lines.specs.Selections.{columns_on, selected_in, IsFresh, IsReached, Passes}
use Rattle.lines.specs.Spans.{intervals_from, is_covered, is_left_edge, is_selected, spans_from, spans_of, AreMaximal}
use Rattle.lines.specs.Visual.{Visual}
use Rattle.lines.specs.declared.spans.Reached.{Reached}
use Rattle.lines.specs.declared.spans.Selection.{Selection}
use Rattle.lines.specs.declared.spans.Span.{Span}
use Rattle.lines.proofs.ColumnLemmas.{covers, covers_none, covers_not, left_more, IsLeft}
use Rattle.lines.proofs.SpanLemmas.{are_maximal, none_from, one_span, over_gap, starts_fresh}

module _ (line : Visual) where
  next_left : (k : ℕ) → k < length line.vtol → columns_left line (suc k) ≡ columns_left line k + columns_on line k
  next_left k within = ap (columns_left line) (sym (add-one k)) ∙ left_more line k within

  pub left_rises : (i d : ℕ) → i + d ≤ length line.vtol → columns_left line i ≤ columns_left line (i + d)
  left_rises i zero within =
      let e : i ≡ i + 0 = omega arith in
      omega (arith, ap (columns_left line) e)
  left_rises i (suc d) within =
      let e : suc (i + d) ≡ i + suc d = omega arith in
      omega (arith, left_rises i d (omega arith), next_left (i + d) (omega arith), ap (columns_left line) e)

  pub left_most : (i j : ℕ) → i ≤ j → j ≤ length line.vtol → columns_left line i ≤ columns_left line j
  left_most i j forward within =
      let e : i + (j - i) ≡ j = omega arith in
      omega (arith, left_rises i (j - i) (omega arith), ap (columns_left line) e)

  -- the search for a column skips the characters to its left
  searched : (column k : ℕ) → k ≤ length line.vtol → columns_left line k ≤ column → IsLeft line column k
  searched column zero within over =
      let none : length line.vtol ≡ length line.vtol - 0 = omega arith in
      ap (λ n. least (λ place. nat_lt column (columns_left line (place + 1))) 0 n) none
  searched column (suc k) within over =
      let next : k + 1 ≡ suc k = omega arith in
      let before : columns_left line k ≤ columns_left line (suc k) = left_most k (suc k) (omega arith) within in
      let same : columns_left line (k + 1) ≡ columns_left line (suc k) = ap (columns_left line) next in
      subst (λ j. IsLeft line column j) next
      (covers_not line column k (omega arith) (searched column k (omega arith) (omega (arith, before, over))) (omega (arith, same, over)))

  -- a character covers its columns
  pub covering_is : (column k : ℕ) → k < length line.vtol → columns_left line k ≤ column → column < columns_left line (suc k) → covering line column ≡ Some k
  covering_is column k within from to =
      let same : columns_left line (k + 1) ≡ columns_left line (suc k) = ap (columns_left line) (add-one k) in
      sym (covers line column k within (searched column k (omega arith) from) (omega (arith, same, to)))

  -- the character that covers a column between two visual positions
  record Covers (column i j : ℕ) : Type 0 where
    place : ℕ
    from : i ≤ place
    to : place < j
    left : columns_left line place ≤ column
    right : column < columns_left line (suc place)

  place_of : (column i d : ℕ) → i + d ≤ length line.vtol → columns_left line i ≤ column → column < columns_left line (i + d) → Covers column i (i + d)
  place_of column i zero within from to =
      let e : i + 0 ≡ i = omega arith in
      absurd (omega (arith, from, to, ap (columns_left line) e))
  place_of column i (suc d) within from to =
      let e : suc (i + d) ≡ i + suc d = omega arith in
      elim (cases_lt column (columns_left line (i + d))) [
        | inl before ↦
            let w : Covers column i (i + d) = place_of column i d (omega arith) from before in
            let inside : w.place < i + d = w.to in
            record { place = w.place; from = w.from; to = omega (arith, inside); left = w.left; right = w.right }
        | inr here ↦ record {
          place = i + d;
          from = omega arith;
          to = omega arith;
          left = here;
          right = omega (arith, to, ap (columns_left line) e);
        }
      ]

module _ (s : Selection) where
  abbrev line : Visual
  line = selected_in s

  abbrev covered : ℕ → Bool
  covered = is_covered line s.start s.end

  abbrev width : ℕ
  width = columns_left line (length s.vtol.now)

  covered_by : (column k : ℕ) → k < length s.vtol.now → columns_left line k ≤ column → column < columns_left line (suc k)
      → covered column ≡ is_selected line s.start s.end k
  covered_by column k within from to = ap (λ o. option_map_or (is_selected line s.start s.end) o false) (covering_is line column k within from to)

  -- the skipped columns are covered if and only if `inside` holds
  covered_in : (inside : Bool) (i j column : ℕ) → Passes s inside i j → j ≤ length s.vtol.now → columns_left line i ≤ column → column < columns_left line j
      → covered column ≡ inside
  covered_in inside i j column p within from to =
      let forward : i ≤ j = p.forward in
      let e : i + (j - i) ≡ j = omega arith in
      let w : Covers line column i (i + (j - i)) = place_of line column i (j - i) (omega arith) from (omega (arith, to, ap (columns_left line) e)) in
      let before : w.place < i + (j - i) = w.to in
      let left : columns_left line w.place ≤ column = w.left in
      let right : column < columns_left line (suc w.place) = w.right in
      let takes : 0 < columns_on line w.place = omega (arith, left, right, next_left line w.place (omega (arith, before))) in
      covered_by column w.place (omega (arith, before)) left right ∙ p.passed w.place w.from (omega (arith, before)) takes

  -- the column at which skipping stops is covered if and only if `inside` does not hold
  covered_at : (inside : Bool) (i j : ℕ) → Passes s inside i j → j < length s.vtol.now → covered (columns_left line j) ≡ not inside
  covered_at inside i j p within =
      let takes : 0 < columns_on line j = p.takes within in
      covered_by (columns_left line j) j within (omega arith) (omega (arith, takes, next_left line j within)) ∙ p.stops within

  -- the spans that remain to be found from a visual position on
  abbrev rest : ℕ → List Span
  rest place = intervals_from covered width (columns_left line place)

  over_unselected : (i j : ℕ) → Passes s false i j → j ≤ length s.vtol.now → rest i ≡ rest j
  over_unselected i j p within =
      let forward : i ≤ j = p.forward in
      over_gap covered width (columns_left line i) (columns_left line j) (left_most line i j forward within) (left_most line j (length s.vtol.now) within (omega arith))
      (λ c from to. covered_in false i j c p within from to)

  ends : (j : ℕ) → j ≡ length s.vtol.now → rest j ≡ []
  ends j e = ap rest e ∙ none_from covered width

  -- at the first selected character that occupies columns, a span begins
  edge_at : (i j : ℕ) → is_left_edge covered (columns_left line i) ≡ covered (columns_left line i) → Passes s false i j → j < length s.vtol.now
      → is_left_edge covered (columns_left line j) ≡ true
  edge_at i j fresh p within =
      let here : covered (columns_left line j) ≡ true = covered_at false i j p within in
      let forward : i ≤ j = p.forward in
      let rises : columns_left line i ≤ columns_left line j = left_most line i j forward (omega arith) in
      elim (cases_lt (columns_left line i) (columns_left line j)) [
        | inl moved ↦ after (columns_left line j) here (λ k last. covered_in false i j k p (omega arith) (omega (arith, moved, last)) (omega (arith, last)))
        | inr same ↦
            let e : columns_left line i ≡ columns_left line j = omega (arith, rises, same) in
            subst (λ c. is_left_edge covered c ≡ covered c) e fresh ∙ here
      ]
    where
      after : (c : ℕ) → covered c ≡ true → ((k : ℕ) → suc k ≡ c → covered k ≡ false) → is_left_edge covered c ≡ true
      after zero on before = on
      after (suc c) on before = and_from (covered (suc c)) (not (covered c)) on (not_from_false (covered c) (before c refl))

  one_more : (i j k : ℕ) → is_left_edge covered (columns_left line i) ≡ covered (columns_left line i) → Passes s false i j → Passes s true j k → j < length s.vtol.now
      → k ≤ length s.vtol.now → rest j ≡ record { left = columns_left line j; right = columns_left line k } ∷ rest k
  one_more i j k fresh p q within inside =
      let takes : 0 < columns_on line j = p.takes within in
      let forward : j ≤ k = q.forward in
      let selected : is_selected line s.start s.end j ≡ true = p.stops within in
      let moved : columns_left line j < columns_left line k = elim (cases_eq j k) [
        | inl same ↦
            absurd (both_ways (is_selected line s.start s.end j) (ap (is_selected line s.start s.end) same ∙ q.stops (omega (arith, same))) selected)
        | inr other ↦ omega (arith, takes, next_left line j within, left_most line (suc j) k (omega (arith, forward, other)) inside)
      ] in
      one_span covered width (columns_left line j) (columns_left line k) (edge_at i j fresh p within) moved (left_most line k (length s.vtol.now) inside (omega arith))
      (λ c from to. covered_in true j k c q inside from to)
      (λ below. elim (cases_lt k (length s.vtol.now)) [
        | inl short ↦ covered_at true j k q short
        | inr past ↦
            let e : k ≡ length s.vtol.now = omega arith in
            absurd (omega (arith, below, ap (columns_left line) e))
      ])

  -- after a span, the next column is not covered
  fresh_after : (j k : ℕ) → Passes s true j k → k ≤ length s.vtol.now → is_left_edge covered (columns_left line k) ≡ covered (columns_left line k)
  fresh_after j k q inside =
      starts_fresh covered width (columns_left line k)
      (elim (cases_lt k (length s.vtol.now)) [
        | inl short ↦ covered_at true j k q short
        | inr past ↦
            let e : k ≡ length s.vtol.now = omega arith in
            ap (λ o. option_map_or (is_selected line s.start s.end) o false)
            (sym (covers_none line (columns_left line k) k past (searched line (columns_left line k) k inside (omega arith))))
      ])

  -- ---- the iterator

  module _ (place column columns : ℕ) (at : IsReached line (record { place = place; column = column })) (within : place < length s.vtol.now)
      (value : columns ≡ columns_on line place) (few : columns < 4294967296) where
    pub reached_more : IsReached line (record { place = place + 1; column = column + columns })
    reached_more =
        let e : suc place ≡ place + 1 = omega arith in
        let old : column ≡ columns_left line place = at.column in
        let low : column ≤ 4294967295 * place = at.few in
        record {
          within = omega arith;
          column = omega (arith, old, value, next_left line place within, ap (columns_left line) e);
          few = omega (arith, low, few);
          limit = at.limit;
        }

  pub found_none : (at left right : Reached) → IsReached line at → IsReached line left → Passes s false at.place left.place → left.place ≡ length s.vtol.now
      → Passes s true left.place right.place → IsReached line right
      → (spans_from line s.start s.end at.column ≡ []) × (spans_from line s.start s.end right.column ≡ [])
  unfolding spans_from
  found_none at left right a l p end q r =
      let last : right.place ≡ length s.vtol.now = omega (arith, end, q.forward, r.within) in (
        ap (intervals_from covered width) a.column ∙ over_unselected at.place left.place p l.within ∙ ends left.place end,
        ap (intervals_from covered width) r.column ∙ ends right.place last,
      )

  pub found_one : (at left right : Reached) → IsReached line at → IsFresh s at.column → IsReached line left → Passes s false at.place left.place → left.place < length s.vtol.now
      → Passes s true left.place right.place → IsReached line right
      → spans_from line s.start s.end at.column ≡ record { left = left.column; right = right.column } ∷ spans_from line s.start s.end right.column
  unfolding spans_from
  found_one at left right a fresh l p within q r =
      let start : is_left_edge covered (columns_left line at.place) ≡ covered (columns_left line at.place) =
      subst (λ c. is_left_edge covered c ≡ covered c) a.column fresh in
      ap (intervals_from covered width) a.column
      ∙ over_unselected at.place left.place p l.within
      ∙ one_more at.place left.place right.place start p q within r.within
      ∙ ap (λ c. record { left = c; right = columns_left line right.place } ∷ rest right.place) (sym l.column)
      ∙ ap (λ c. record { left = left.column; right = c } ∷ intervals_from covered width c) (sym r.column)

  pub found_fresh : (left right : Reached) → Passes s true left.place right.place → IsReached line right → IsFresh s right.column
  found_fresh left right q r =
      subst (λ c. is_left_edge covered c ≡ covered c) (sym r.column) (fresh_after left.place right.place q r.within)

-- a line with only the data on which its spans depend: its tab width, its text, its advances and its visual
-- order
abbrev pub line_with : ℕ → Option (List ℕ) → List ℕ → List ℕ → Visual
line_with tab_width advances text vtol = record {
  is_first = false;
  base = 0;
  tab_width = tab_width;
  len = 0;
  text = text;
  advances = advances;
  columns = 0;
  levels = [];
  ltov = [];
  vtol = vtol;
  chars = [];
}

pub spans_are : (of : Visual) (tab_width : ℕ) (advances : Option (List ℕ)) (text vtol : List ℕ) (start end : ℕ)
    → tab_width ≡ of.tab_width → advances ≡ of.advances → text ≡ of.text → vtol ≡ of.vtol
    → spans_from (line_with tab_width advances text vtol) start end 0 ≡ spans_of of start end
unfolding spans_from
spans_are of tab_width advances text vtol start end tabs measured same order =
    ap₂ (λ (n : ℕ) (a : Option (List ℕ)). spans_from (line_with n a text vtol) start end 0) tabs measured
    ∙ ap₂ (λ (ts vs : List ℕ). spans_from (line_with of.tab_width of.advances ts vs) start end 0) same order

pub spans_maximal : (of : Visual) (start end : ℕ) → AreMaximal (is_covered of start end) (columns_left of (length of.vtol)) (spans_of of start end)
unfolding spans_from
spans_maximal of start end = are_maximal (is_covered of start end) (columns_left of (length of.vtol))
