-- In lines that are ordered by clusters, the characters of a cluster at one odd level are next to each other from left to right. The same
-- holds for the characters of a level run at an even level.
use Rattle.std.proofs.Common.{◌≡◌, ℕ, zero, suc, ◌+◌, ◌-◌, ◌<◌, ◌≤◌, ◌==◌, Bool, true, false, not, List, [], ◌∷◌, length, get_or, map, drop, Some, None, refl, sym, ap, subst, ◌∙◌, inl, inr, arith}
use Rattle.std.specs.Prelude.{◌||◌, option_map, slice_get, slice_range, Option, if◌then◌else◌}
use Rattle.std.proofs.lemmas.Bool.{and_from, and_parts, both_ways, cases_Bool, cases_eq, cases_lt, eq-eqb, eqb-true}
use Rattle.std.proofs.lemmas.List.{get_or-drop, get_or-take, get_or_past, length-take}
use Rattle.std.proofs.lemmas.Option.{get_or_from_slice_get, none-some, same_Some, slice_get_within}
use Rattle.bidi.specs.Levels.{levels_of}
use Rattle.ucd.specs.Tables.{class_of}
use Rattle.ucd.specs.declared.bidi_class.BidiClass.{BidiClass}
use Rattle.reorder.specs.Clusters.{cluster_classes, is_joined, IsSequence}
use Rattle.reorder.specs.Groups.{StandsTogether}
use Rattle.reorder.specs.Order.{is_odd, ltov_of, order_of, vtol_of, AreInverse}
use Rattle.reorder.specs.Spaces.{line_levels}
use Rattle.reorder.proofs.ClusterLemmas.{sequences, singles_stay}
use Rattle.reorder.proofs.InverseLemmas.{inverse_maps}
use Rattle.reorder.proofs.OrderLemmas.{length-order}
use Rattle.lines.specs.CharInfos.{infos_of}
use Rattle.lines.specs.Clusters.{cluster_ends, ends_at}
use Rattle.lines.specs.Columns.{columns_between, columns_left, widths}
use Rattle.lines.specs.Filling.{line_starts_of}
use Rattle.lines.specs.Layouts.{Rules, base_of, layout_of, lines_of, start_of, visuals}
use Rattle.lines.specs.Ordered.{ClustersAdjoin, IsOrdered}
use Rattle.lines.specs.Reordering.{ends_by}
use Rattle.lines.specs.ShownParts.{margin_of, shown, shown_len}
use Rattle.lines.specs.Tabs.{tab_width_in}
use Rattle.lines.specs.Visual.{Line, Visual, end_of, line_between, lines_from, visual_of}
use Rattle.lines.specs.declared.char_info.CharInfo.{CharInfo}
use Rattle.lines.proofs.AdjoinLemmas.{between_more, between_none}
use Rattle.lines.proofs.BeginningLemmas.{starts_from}
use Rattle.lines.proofs.BesideLemmas.{even_places}
use Rattle.lines.proofs.ColumnLemmas.{left_more}
use Rattle.lines.proofs.OrderedLemmas.{all_ordered}
use Rattle.lines.proofs.PageLemmas.{visual_at}
use Rattle.lines.proofs.ReorderingLemmas.{clusters_ltov}
use Rattle.lines.proofs.WidthLemmas.{length-widths}

-- ---- sequences of one cluster at one odd level

module _ (ends : List Bool) (levels : List ℕ) where
  abbrev level : ℕ → ℕ
  level i = get_or levels i 0

  abbrev joined : ℕ → Bool
  joined i = is_joined ends levels i

  same_level : (i : ℕ) → joined (suc i) ≡ true → level (suc i) ≡ level i
  same_level i on = eqb-true (level (suc i)) (level i) (and_parts (not (get_or ends i false)) (level (suc i) == level i) on).1

  -- the first character of the sequence that a character is in
  record IsBack (i : ℕ) : Type 0 where
    first : ℕ
    to : first ≤ i
    begins : joined first ≡ false
    odd : is_odd (level first) ≡ true
    each : (k : ℕ) → first < k → k ≤ i → joined k ≡ true

  back : (i : ℕ) → is_odd (level i) ≡ true → IsBack i
  back zero odd = record { first = 0; to = omega arith; begins = refl; odd = odd; each = λ k above below. absurd (omega (arith, above, below)) }
  back (suc i) odd =
      elim (cases_Bool (joined (suc i))) [
        | inr off ↦ record { first = suc i; to = omega arith; begins = off; odd = odd; each = λ k above below. absurd (omega (arith, above, below)) }
        | inl on ↦
            let b : IsBack i = back i (ap is_odd (sym (same_level i on)) ∙ odd) in
            record {
              first = b.first;
              to = omega (arith, b.to);
              begins = b.begins;
              odd = b.odd;
              each = λ k above below. elim (cases_eq k (suc i)) [
                | inl e ↦ ap joined e ∙ on
                | inr ne ↦ b.each k above (omega (arith, below, ne))
              ];
            }
      ]

  -- the last character of the sequence that a character is in
  record IsOn (i : ℕ) : Type 0 where
    last : ℕ
    from : i ≤ last
    stops : joined (suc last) ≡ false
    each : (k : ℕ) → i < k → k ≤ last → joined k ≡ true

  forth : (count i : ℕ) → length levels ≤ i + count → is_odd (level i) ≡ true → IsOn i
  forth zero i few odd = absurd (both_ways (is_odd (level i)) (ap is_odd (get_or_past levels i 0 (omega (arith, few)))) odd)
  forth (suc count) i few odd =
      elim (cases_Bool (joined (suc i))) [
        | inr off ↦ record { last = i; from = omega arith; stops = off; each = λ k above below. absurd (omega (arith, above, below)) }
        | inl on ↦
            let o : IsOn (suc i) = forth count (suc i) (omega (arith, few)) (ap is_odd (same_level i on) ∙ odd) in
            record {
              last = o.last;
              from = omega (arith, o.from);
              stops = o.stops;
              each = λ k above below. elim (cases_eq k (suc i)) [
                | inl e ↦ ap joined e ∙ on
                | inr ne ↦ o.each k (omega (arith, above, ne)) below
              ];
            }
      ]

  abbrev classes : List BidiClass
  classes = cluster_classes ends levels

  abbrev by_l2 : List ℕ
  by_l2 = vtol_of false classes levels

  abbrev vtol : List ℕ
  vtol = vtol_of true classes levels

  abbrev ltov : List ℕ
  ltov = ltov_of true classes levels

  inverse : AreInverse (length levels) vtol ltov
  inverse = inverse_maps true classes levels

  -- a character that is joined to the one before it is directly to its right
  odd_next : (i : ℕ) → is_odd (level i) ≡ true → joined (suc i) ≡ true → get_or ltov (suc i) 0 ≡ suc (get_or ltov i 0)
  odd_next i odd on =
      let b : IsBack i = back i odd in
      let o : IsOn (suc i) = forth (length levels) (suc i) (omega arith) (ap is_odd (same_level i on) ∙ odd) in
      let n : ℕ = o.last - b.first in
      let end : b.first + n + 1 ≡ suc o.last = omega (arith, b.to, o.from) in
      let is : IsSequence ends levels b.first n = record {
        odd = b.odd;
        begins = b.begins;
        joined = λ k some below.
            elim (cases_lt i (b.first + k)) [
              | inr low ↦ b.each (b.first + k) (omega (arith, some)) low
              | inl above ↦ elim (cases_eq (b.first + k) (suc i)) [
                | inl e ↦ ap joined e ∙ on
                | inr ne ↦ o.each (b.first + k) (omega (arith, above, ne)) (omega (arith, below, b.to, o.from))
              ]
            ];
        whole = ap joined end ∙ o.stops;
      } in
      let s : StandsTogether classes levels b.first n = sequences ends levels b.first n is in
      let m : ℕ = i - b.first in
      let at : ℕ = s.at + m in
      let here : b.first + m ≡ i = omega (arith, b.to) in
      let next : s.at + suc m ≡ suc at = omega arith in
      let there : b.first + suc m ≡ suc i = omega (arith, b.to) in
      let one : get_or vtol at 0 ≡ i = s.read m (omega (arith, b.to, o.from)) ∙ here in
      let two : get_or vtol (suc at) 0 ≡ suc i = ap (λ p. get_or vtol p 0) (sym next) ∙ s.read (suc m) (omega (arith, b.to, o.from)) ∙ there in
      let inside : suc at < length levels = omega (arith, s.within, b.to, o.from) in
      ap (λ x. get_or ltov x 0) (sym two) ∙ inverse.at_vtol (suc at) inside
      ∙ ap suc (sym (inverse.at_vtol at (omega (arith, inside))) ∙ ap (λ x. get_or ltov x 0) one)

  -- characters at an even level stay where L2 puts them
  even_next : (i : ℕ) → suc i < length levels → level (suc i) ≡ level i → is_odd (level i) ≡ false → get_or ltov (suc i) 0 ≡ suc (get_or ltov i 0)
  unfolding vtol_of
  even_next i within same even =
      let places : List ℕ = ltov_of false classes levels in
      let w : AreInverse (length levels) (order_of levels) places = inverse_maps false classes levels in
      let p : ℕ = get_or places i 0 in
      let next : get_or places (suc i) 0 ≡ suc p = even_places levels places i w (length-order levels) same within even in
      let short : p < length levels = w.ltov_within i (omega (arith, within)) in
      let more : suc p < length levels = omega (arith, w.ltov_within (suc i) within, next) in
      let here : get_or by_l2 p 0 ≡ i = w.at_ltov i (omega (arith, within)) in
      let there : get_or by_l2 (suc p) 0 ≡ suc i = ap (λ x. get_or by_l2 x 0) (sym next) ∙ w.at_ltov (suc i) within in
      let one : get_or vtol p 0 ≡ i = singles_stay ends levels p short (inl (ap (λ x. is_odd (level x)) here ∙ even)) ∙ here in
      let two : get_or vtol (suc p) 0 ≡ suc i = singles_stay ends levels (suc p) more (inl (ap (λ x. is_odd (level x)) there ∙ ap is_odd same ∙ even)) ∙ there in
      ap (λ x. get_or ltov x 0) (sym two) ∙ inverse.at_vtol (suc p) more
      ∙ ap suc (sym (inverse.at_vtol p short) ∙ ap (λ x. get_or ltov x 0) one)

-- ---- the columns between two characters

module _ (line : Visual) (ordered : IsOrdered line) where
  abbrev left_at : ℕ → ℕ
  left_at i = columns_left line (get_or line.ltov i 0)

  steps : (j d : ℕ) → j + d < length line.levels → ((i : ℕ) → j ≤ i → i < j + d → get_or line.ltov (suc i) 0 ≡ suc (get_or line.ltov i 0))
      → left_at (j + d) ≡ left_at j + columns_between line j (j + d)
  steps j zero within each =
      let e : j + 0 ≡ j = omega arith in
      omega (arith, ap left_at e, ap (columns_between line j) e, between_none (widths line) j)
  steps j (suc d) within each =
      let i : ℕ = j + d in
      let p : ℕ = get_or line.ltov i 0 in
      let e : j + suc d ≡ suc i = omega arith in
      let next : get_or line.ltov (suc i) 0 ≡ p + 1 = each i (omega arith) (omega arith) ∙ omega arith in
      let short : i < length line.levels = omega (arith, within) in
      let more : left_at (suc i) ≡ left_at i + get_or (widths line) i 0 =
      ap (columns_left line) next
      ∙ left_more line p (omega (arith, ordered.vtol, ordered.inverse.ltov_within i short))
      ∙ ap (λ x. left_at i + get_or (widths line) x 0) (ordered.inverse.at_ltov i short) in
      let rest = steps j d (omega (arith, within)) (λ k from below. each k from (omega (arith, below))) in
      omega (arith, more, rest, ap left_at e, ap (columns_between line j) e, between_more (widths line) j i (omega arith) (omega (arith, ordered.text, short, length-widths line)))

  to_later : (j k : ℕ) → j ≤ k → k < length line.levels → ((i : ℕ) → j ≤ i → i < k → get_or line.ltov (suc i) 0 ≡ suc (get_or line.ltov i 0))
      → left_at k ≡ left_at j + columns_between line j k
  to_later j k order within each =
      let e : j + (k - j) ≡ k = omega (arith, order) in
      subst (λ n. left_at n ≡ left_at j + columns_between line j n) e
      (steps j (k - j) (omega (arith, e, within)) (λ i from below. each i from (omega (arith, below, e))))

-- ---- the lines of a layout

module _ (rules : Rules) (width : ℕ) (text : List ℕ) (on : rules.options.reorder_clusters ≡ true) where
  abbrev infos : List CharInfo
  infos = infos_of rules.tables rules.options rules.advances text

  abbrev levels : List ℕ
  levels = levels_of rules.tables text rules.options.base

  abbrev margin : Option ℕ
  margin = margin_of rules.options width

  abbrev part : ℕ → ℕ → Line
  part s e = line_between rules.tables rules.options margin (base_of rules text) text levels infos s e

  -- ---- line n of those that start at the given positions
  nth : (starts : List ℕ) (n : ℕ) (it : Line) → slice_get (lines_from rules.tables rules.options margin (base_of rules text) text levels infos starts) n ≡ Some it
      → (n < length starts) × (it ≡ part (get_or starts n 0) (end_of (length text) starts n))
  nth [] n it is = absurd (none-some it is)
  nth (s ∷ []) zero it is = (omega arith, same_Some it (part s (length text)) (sym is))
  nth (s ∷ []) (suc n) it is = absurd (none-some it is)
  nth (s ∷ t ∷ starts) zero it is = (omega arith, same_Some it (part s t) (sym is))
  nth (s ∷ t ∷ starts) (suc n) it is = let found = nth (t ∷ starts) n it is in (omega (arith, found.0), found.1)

  ends_known : ends_by rules.options text ≡ cluster_ends text
  ends_known = ap (λ b. if b then cluster_ends text else []) on

  module _ (line : Visual) (ordered : IsOrdered line) (s e : ℕ) (size : length line.levels ≤ e - s)
      (ltov_is : line.ltov ≡ (part s e).ltov) (levels_are : line.levels ≡ (part s e).levels) where
    abbrev ends : List Bool
    ends = slice_range (ends_by rules.options text) s e

    by_clusters : line.ltov ≡ ltov_of true (cluster_classes ends line.levels) line.levels
    by_clusters =
        ltov_is ∙ ap (λ (ls : List ℕ). ltov_of (rules.options.reorder_clusters || rules.options.reordernsm)
        (if rules.options.reorder_clusters then cluster_classes ends ls else map (class_of rules.tables) (slice_range text s e)) ls) (sym levels_are)
        ∙ sym (clusters_ltov rules.options (map (class_of rules.tables) (slice_range text s e)) ends line.levels on)

    -- a cluster of the line ends after a character if and only if a cluster of the paragraph ends there
    end_at : (i : ℕ) → i < e - s → get_or ends i false ≡ ends_at (cluster_ends text) (s + i)
    end_at i below =
        get_or-take (e - s) (drop s (ends_by rules.options text)) i false below
        ∙ get_or-drop s (ends_by rules.options text) i false
        ∙ ap (λ (es : List Bool). get_or es (s + i) false) ends_known

    adjoins : ClustersAdjoin line (cluster_ends text) s
    adjoins = record {
      even = λ j k are even.
          to_later line ordered j k are.order are.within
          (λ i from below.
          let same : get_or line.levels (suc i) 0 ≡ get_or line.levels i 0 = are.level (suc i) (omega (arith, from)) (omega (arith, below)) ∙ sym (are.level i from (omega (arith, below))) in
          subst (λ (xs : List ℕ). get_or xs (suc i) 0 ≡ suc (get_or xs i 0)) (sym by_clusters)
          (even_next ends line.levels i (omega (arith, below, are.within)) same (ap is_odd (are.level i from (omega (arith, below))) ∙ even)));
      odd = λ j k are odd inside.
          to_later line ordered j k are.order are.within
          (λ i from below.
          let same : get_or line.levels (suc i) 0 ≡ get_or line.levels i 0 = are.level (suc i) (omega (arith, from)) (omega (arith, below)) ∙ sym (are.level i from (omega (arith, below))) in
          let goes_on : get_or ends i false ≡ false = end_at i (omega (arith, below, are.within, size)) ∙ inside i from below in
          subst (λ (xs : List ℕ). get_or xs (suc i) 0 ≡ suc (get_or xs i 0)) (sym by_clusters)
          (odd_next ends line.levels i (ap is_odd (are.level i from (omega (arith, below))) ∙ odd)
          (and_from (not (get_or ends i false)) (get_or line.levels (suc i) 0 == get_or line.levels i 0) (ap not goes_on) (eq-eqb (get_or line.levels (suc i) 0) (get_or line.levels i 0) same))));
    }

  found_line : (n : ℕ) (line : Visual) → slice_get (visuals (layout_of rules width text)) n ≡ Some line
      → (it : Line) → slice_get (lines_of rules width text) n ≡ Some it → visual_of (base_of rules text) (tab_width_in rules.tables rules.options) rules.advances text (lines_of rules width text) n it ≡ line
      → ClustersAdjoin line (cluster_ends text) (get_or (map start_of (lines_of rules width text)) n 0)
  found_line n line is it read seen =
      let starts : List ℕ = line_starts_of rules.options.nobreak width infos in
      let found = nth starts n it read in
      let s : ℕ = get_or starts n 0 in
      let e : ℕ = end_of (length text) starts n in
      let piece : List CharInfo = slice_range infos s e in
      let classes : List BidiClass = map (class_of rules.tables) (slice_range text s e) in
      let begin : get_or (map start_of (lines_of rules width text)) n 0 ≡ s =
      ap (λ (ss : List ℕ). get_or ss n 0) (starts_from rules.tables rules.options margin (base_of rules text) text levels infos starts) in
      let few : length (part s e).levels ≤ e - s =
      omega (
        arith,
        length-take (length (shown margin piece)) (line_levels (base_of rules text) classes (slice_range levels s e)),
        length-take (shown_len margin piece) piece,
        length-take (e - s) (drop s infos),
      ) in
      let levels_are : line.levels ≡ (part s e).levels = ap (λ (v : Visual). v.levels) (sym seen) ∙ ap (λ (l : Line). l.levels) found.1 in
      let ltov_is : line.ltov ≡ (part s e).ltov = ap (λ (v : Visual). v.ltov) (sym seen) ∙ ap (λ (l : Line). l.ltov) found.1 in
      let within : n < length (visuals (layout_of rules width text)) = slice_get_within (visuals (layout_of rules width text)) n line is in
      let ordered : IsOrdered line =
      subst IsOrdered (get_or_from_slice_get (visuals (layout_of rules width text)) n line line is) (all_ordered rules width text n line within) in
      subst (ClustersAdjoin line (cluster_ends text)) (sym begin)
      (adjoins line ordered s e (omega (arith, few, ap length levels_are)) ltov_is levels_are)

read_line : (o : Option Line) (f : Line → Visual) (line : Visual) → option_map f o ≡ Some line → (it : Line) × (o ≡ Some it) × (f it ≡ line)
read_line None f line is = absurd (none-some line is)
read_line (Some it) f line is = (it, refl, same_Some (f it) line is)

pub all_clusters_adjoin : (rules : Rules) (width : ℕ) (text : List ℕ) → rules.options.reorder_clusters ≡ true
    → (n : ℕ) (line : Visual) → slice_get (visuals (layout_of rules width text)) n ≡ Some line
    → ClustersAdjoin line (cluster_ends text) (get_or (map start_of (lines_of rules width text)) n 0)
all_clusters_adjoin rules width text on n line is =
    let found = read_line (slice_get (lines_of rules width text) n) (visual_of (base_of rules text) (tab_width_in rules.tables rules.options) rules.advances text (lines_of rules width text) n) line
    (visual_at (layout_of rules width text) n ∙ is) in
    found_line rules width text on n line is found.0 found.1 found.2
