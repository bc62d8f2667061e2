-- Facts about each line of a laid-out text: its place, its order and its clusters.
use Rattle.std.proofs.Common.{◌≡◌, ℕ, ◌+◌, ◌-◌, ◌<◌, ◌≤◌, Bool, true, false, List, [], ◌∷◌, ◌++◌, length, map, get_or, sum_by, Option, None, Some, refl, sym, ap, subst, ◌∙◌, ◌⊎◌, inl, inr, arith}
use Rattle.std.specs.List.{concat, slice_get, All}
use Rattle.std.specs.Option.{option_map}
use Rattle.std.proofs.lemmas.Bool.{both_ways, cases_Bool, cases_lt}
use Rattle.std.proofs.lemmas.List.{drop_at, length-map, take_at}
use Rattle.std.proofs.lemmas.List.Elements.{All-cons, All-drop, All-head, All-nil, All-tail, All-take}
use Rattle.std.proofs.lemmas.List.Sums.{sum_by-append, sum_by-cons}
use Rattle.std.proofs.lemmas.Option.{get_or_from_slice_get, same_Some, slice_get-map, slice_get_within}
use Rattle.bidi.specs.Cuts.{paragraphs}
use Rattle.bidi.specs.Pieces.{ArePieces, ParagraphsArePieces}
use Rattle.reorder.specs.Runs.{runs_of}
use Rattle.ucd.specs.Classes.{is_nonspacing_mark}
use Rattle.ucd.specs.Tables.{class_of}
use Rattle.lines.proofs.ClusterLemmas.{length-cluster_ends}
use Rattle.lines.proofs.PageLemmas.{visual_at}
use Rattle.lines.proofs.ShowLemmas.{end_next, end_within}
use Rattle.lines.specs.Beginnings.{BeginInOrder}
use Rattle.lines.specs.CharInfos.{columns_of}
use Rattle.lines.specs.Clusters.{after, cluster_begin, cluster_end, cluster_ends, ends_at}
use Rattle.lines.specs.Columns.{run_columns}
use Rattle.lines.specs.Layouts.{Layout, Rules, cut_by, layout_of, lines_of as lines_at, start_of as begins, visuals, with_advances}
use Rattle.lines.specs.Ordered.{ClustersAdjoin, IsOrdered, MarksStay, RunsAdjoin}
use Rattle.lines.specs.Visual.{Line, Visual, end_of, visual_of}
use Rattle.store.specs.Finding.{Finds}
use Rattle.store.specs.declared.found.Found.{Found}
use Rattle.session.specs.Clusters.{cluster_at, cluster_in}
use Rattle.session.specs.Edges.{line_at}
use Rattle.session.specs.Kept.{back_advances, front_advances, layouts_from, layouts_of, lines_in, text_of}
use Rattle.session.specs.Places.{count_to, line_starts, place_in, IsLined}
use Rattle.session.specs.Steps.{StepsAreNearest}
use Rattle.session.specs.declared.clusters.Cluster.{Cluster}
use Rattle.session.specs.declared.places.Place.{Place}
use Rattle.session.proofs.BorderLemmas.{chars_of, lines_of, found_item, length-lines, length-text}
use Rattle.session.proofs.CaretEndLemmas.{chained, mapped, AllClusters}
use Rattle.session.proofs.ClusterLemmas.{cluster-read}
use Rattle.session.proofs.FirstLemmas.{begin_fails, begin_to, ends_by, greatest_back, least_over, EndsBy}
use Rattle.session.proofs.LineLemmas.{line_read}
use Rattle.session.proofs.LineWidthLemmas.{columns_fit}
use Rattle.session.proofs.NearestLemmas.{steps_are_nearest}
use Rattle.session.proofs.PlaceLemmas.{count_point, place-is, start_read, starts_sorted}
use Rattle.session.proofs.UnitEdgeLemmas.{IsLineOf, IsPlaced}
use Rattle.session.proofs.UnitTileLemmas.{OddReads}

-- ---- the paragraph that contains a character or a line

abbrev found_in : List Layout → ℕ → Found
found_in before rest = record {
  index = length before;
  rest = rest;
  chars_before = sum_by chars_of before;
  lines_before = sum_by lines_of before;
  bytes_before = 0;
  utf16_before = 0;
  visits = 0;
}

-- the paragraph that contains unit n of a text, the paragraphs before and after it, and the index of the unit
-- in the paragraph
record IsIn (size : Layout → ℕ) (kept : List Layout) (n : ℕ) : Type 0 where
  before : List Layout
  item : Layout
  behind : List Layout
  place : kept ≡ before ++ item ∷ behind
  rest : ℕ
  sum : sum_by size before + rest ≡ n
  within : rest < size item

is_in : (size : Layout → ℕ) (kept : List Layout) (n : ℕ) → n < sum_by size kept → IsIn size kept n
is_in size [] n below = absurd (omega arith)
is_in size (l ∷ kept) n below =
    elim (cases_lt n (size l)) [
      | inl here ↦ record { before = []; item = l; behind = kept; place = refl; rest = n; sum = omega arith; within = here }
      | inr later ↦
          let found : IsIn size kept (n - size l) = is_in size kept (n - size l) (omega (arith, later, sum_by-cons size l kept)) in
          record {
            before = l ∷ found.before;
            item = found.item;
            behind = found.behind;
            place = ap (λ ls. l ∷ ls) found.place;
            rest = found.rest;
            sum = omega (arith, later, found.sum, sum_by-cons size l found.before);
            within = found.within;
          }
    ]

-- ---- clusters

-- two characters between which no cluster ends are in one cluster
same_cluster_by : (ends : List Bool) (j k : ℕ) → j ≤ k → k ≤ length ends → ((c : ℕ) → j ≤ c → c < k → ends_at ends c ≡ false)
    → (cluster_begin ends k ≡ cluster_begin ends j) × (cluster_end ends k ≡ cluster_end ends j)
same_cluster_by ends j k order within fails = (
  ap (λ o. after o 0) (greatest_back (ends_at ends) j k order fails),
  sym (ap (λ o. after o (length ends)) (least_over (ends_at ends) j k (length ends) order within fails)),
)

module _ (ends : List Bool) (k : ℕ) (within : k < length ends) where
  begin_before : cluster_begin ends k ≤ k
  begin_before = begin_to (ends_at ends) k

  end_after : EndsBy (ends_at ends) k (length ends) (cluster_end ends k)
  end_after = ends_by (ends_at ends) k (length ends - k) (length ends) (omega arith) within

  same_cluster : (j : ℕ) → cluster_begin ends k ≤ j → j < cluster_end ends k → (cluster_begin ends j ≡ cluster_begin ends k) × (cluster_end ends j ≡ cluster_end ends k)
  same_cluster j from to =
      elim (cases_lt j k) [
        | inl early ↦
            let both = same_cluster_by ends j k (omega arith) (omega arith) (λ c above below. begin_fails (ends_at ends) k c (omega arith) below) in
            (sym both.0, sym both.1)
        | inr later ↦ same_cluster_by ends k j later (omega (arith, end_after.to)) (λ c above below. end_after.fails c above (omega arith))
      ]

module _ (kept : List Layout) (lined : All IsLined kept) where
  abbrev chars_found : (pos : ℕ) → (i : IsIn chars_of kept pos) → Finds chars_of chars_of lines_of kept pos (found_in i.before i.rest)
  chars_found pos i = record {
    before = i.before;
    item = i.item;
    after = i.behind;
    place = i.place;
    index = refl;
    rest = i.sum;
    within = i.within;
    chars_before = refl;
    lines_before = refl;
  }

  -- the cluster of a character is its cluster in the paragraph that contains it
  cluster_by : (pos : ℕ) (i : IsIn chars_of kept pos) → pos < length (text_of kept) → cluster_at kept pos ≡ Some (cluster_in (sum_by chars_of i.before) i.item.text pos)
  cluster_by pos i inside =
      let f : Finds chars_of chars_of lines_of kept pos (found_in i.before i.rest) = chars_found pos i in
      let base : pos - i.rest ≡ sum_by chars_of i.before = omega (arith, i.sum) in
      sym (cluster-read kept pos (found_in i.before i.rest) f i.item (found_item chars_of kept pos (found_in i.before i.rest) f) lined inside)
      ∙ ap (λ n. Some (cluster_in n i.item.text pos)) base

  one_cluster : (base begin begin' end end' : ℕ) → begin ≡ begin' → end ≡ end' → let here : Cluster = record { start = base + begin; end = base + end } in here ≡ record { start = base + begin'; end = base + end' }
  one_cluster base begin begin' end end' one other = rw (one, other) refl

  pub all_clusters : AllClusters kept
  all_clusters pos inside =
      let i : IsIn chars_of kept pos = is_in chars_of kept pos (omega (arith, inside, length-text kept)) in
      let base : ℕ = sum_by chars_of i.before in
      let text : List ℕ = i.item.text in
      let ends : List Bool = cluster_ends text in
      let at : pos - base ≡ i.rest = omega (arith, i.sum) in
      let size : length ends ≡ length text = length-cluster_ends text in
      let few : pos - base < length ends = omega (arith, at, size, i.within) in
      let ending : EndsBy (ends_at ends) (pos - base) (length ends) (cluster_end ends (pos - base)) = end_after ends (pos - base) few in
      record {
        cluster = cluster_in base text pos;
        is = cluster_by pos i inside;
        begin = omega (arith, begin_before ends (pos - base) few, i.sum);
        end = omega (arith, ending.above, i.sum);
        same = λ other from to.
            let rest : ℕ = other - base in
            let whole : sum_by chars_of kept ≡ base + (chars_of i.item + sum_by chars_of i.behind) =
            ap (sum_by chars_of) i.place ∙ sum_by-append chars_of i.before (i.item ∷ i.behind) ∙ ap (λ n. base + n) (sum_by-cons chars_of i.item i.behind) in
            let there : IsIn chars_of kept other = record {
              before = i.before;
              item = i.item;
              behind = i.behind;
              place = i.place;
              rest = rest;
              sum = omega (arith, from);
              within = omega (arith, to, ending.to, size);
            } in
            let both = same_cluster ends (pos - base) few rest (omega (arith, from)) (omega (arith, to, from)) in
            cluster_by other there (omega (arith, to, ending.to, size, whole, length-text kept))
            ∙ ap (λ (c : Cluster). Some c) (one_cluster base (cluster_begin ends rest) (cluster_begin ends (pos - base)) (cluster_end ends rest) (cluster_end ends (pos - base)) both.0 both.1);
      }

-- ---- lines

-- whether the characters of each part of a cluster are next to each other from left to right
abbrev ReadsBy : Layout → Type 0
ReadsBy l = (n : ℕ) (line : Visual) → slice_get (visuals l) n ≡ Some line → ClustersAdjoin line (cluster_ends l.text) (get_or (map begins l.lines) n 0)

-- what is known about the layout of a paragraph
pub record IsLaid (l : Layout) : Type 0 where
  pub lined : IsLined l
  pub ordered : All IsOrdered (visuals l)
  pub adjoin : All RunsAdjoin (visuals l) ⊎ ReadsBy l
  pub columns : All (λ (line : Visual). sum_by (run_columns line) (runs_of line.levels) ≡ line.columns) (visuals l)

abbrev starts_in : Layout → List ℕ
starts_in l = map begins l.lines

-- the length of a line of a paragraph is the distance from its start to its end
length_of : (l : Layout) (r : ℕ) (line : Visual) → slice_get (visuals l) r ≡ Some line → line.len ≡ end_of (length l.text) (starts_in l) r - get_or (starts_in l) r 0
length_of l r line is =
    let found = mapped (visual_of l.base l.tab_width l.advances l.text l.lines r) (slice_get l.lines r) line (visual_at l r ∙ is) in
    let it : Line = found.0 in
    let start : get_or (starts_in l) r 0 ≡ it.start = get_or_from_slice_get (starts_in l) r it.start 0 (slice_get-map begins l.lines r ∙ ap (option_map begins) found.1) in
    sym (ap (λ (v : Visual). v.len) found.2) ∙ ap (λ n. end_of (length l.text) (starts_in l) r - n) (sym start)

module _ (kept : List Layout) (laid : All IsLaid kept) where
  all_lined : All IsLined kept
  all_lined = λ k d within. (laid k d within).lined

  abbrev lines_found : (n : ℕ) → (i : IsIn lines_of kept n) → Finds lines_of chars_of lines_of kept n (found_in i.before i.rest)
  lines_found n i = record {
    before = i.before;
    item = i.item;
    after = i.behind;
    place = i.place;
    index = refl;
    rest = i.sum;
    within = i.within;
    chars_before = refl;
    lines_before = refl;
  }

  -- the layout that contains a line is laid out
  laid_item : (n : ℕ) (i : IsIn lines_of kept n) → IsLaid i.item
  laid_item n i =
      let read : slice_get kept (length i.before) ≡ Some i.item = sym (found_item lines_of kept n (found_in i.before i.rest) (lines_found n i)) in
      subst IsLaid (get_or_from_slice_get kept (length i.before) i.item i.item read) (laid (length i.before) i.item (slice_get_within kept (length i.before) i.item read))

  -- a character of a line is at its place
  placed_in : (n : ℕ) (i : IsIn lines_of kept n) (line : Visual) → slice_get (visuals i.item) i.rest ≡ Some line → (start : ℕ)
      → sum_by chars_of i.before + get_or (starts_in i.item) i.rest 0 ≡ start → (k : ℕ) → k < line.len → IsPlaced kept n start k
  placed_in n i line is start starts k short =
      let l : Layout = i.item in
      let r : ℕ = i.rest in
      let ss : List ℕ = starts_in l in
      let e : ℕ = end_of (length l.text) ss r in
      let one : IsLaid l = laid_item n i in
      let few : r < length ss = omega (arith, i.within, length-map l.lines begins) in
      let size : line.len ≡ e - get_or ss r 0 = length_of l r line is in
      let ending = end_within (length l.text) ss r one.lined.lines.starts few in
      let rest : ℕ = get_or ss r 0 + k in
      let inside : rest < e = omega (arith, short, size) in
      let there : IsIn chars_of kept (start + k) = record {
        before = i.before;
        item = l;
        behind = i.behind;
        place = i.place;
        rest = rest;
        sum = omega (arith, starts);
        within = omega (arith, inside, ending.1);
      } in
      let f : Finds chars_of chars_of lines_of kept (start + k) (found_in i.before rest) = chars_found kept all_lined (start + k) there in
      let sorted = starts_sorted (length l.text) ss one.lined.lines.starts in
      let count : count_to rest ss ≡ r + 1 =
      count_point rest ss (r + 1) (omega (arith, few)) (λ j below. omega (arith, sorted j r 0 (omega (arith, below)) few))
      (λ j above under.
      omega (arith, inside, end_next (length l.text) ss r (omega (arith, above, under)), sorted (r + 1) j 0 above under)) in
      let place : Place = place_in kept (start + k) in
      let is_place = place-is kept (start + k) (found_in i.before rest) f l (found_item chars_of kept (start + k) (found_in i.before rest) f) all_lined (r + 1) (sym count) in
      let back : r + 1 - 1 ≡ r = omega arith in
      let whole : sum_by chars_of kept ≡ sum_by chars_of i.before + (chars_of l + sum_by chars_of i.behind) =
      ap (sum_by chars_of) i.place ∙ sum_by-append chars_of i.before (l ∷ i.behind) ∙ ap (λ m. sum_by chars_of i.before + m) (sum_by-cons chars_of l i.behind) in
      record {
        inside = omega (arith, inside, ending.1, starts, whole, length-text kept);
        line = sym (ap (λ (p : Place). p.line) is_place) ∙ omega (arith, i.sum);
        offset = sym (ap (λ (p : Place). p.offset) is_place) ∙ ap (λ m. rest - get_or ss m 0) back ∙ omega arith;
      }

  -- a fact stated with the cluster ends of a paragraph also holds for the clusters of the text
  reads_in : (n : ℕ) (i : IsIn lines_of kept n) (line : Visual) → slice_get (visuals i.item) i.rest ≡ Some line → (start : ℕ)
      → sum_by chars_of i.before + get_or (starts_in i.item) i.rest 0 ≡ start → length line.levels ≤ line.len
      → ClustersAdjoin line (cluster_ends i.item.text) (get_or (starts_in i.item) i.rest 0) → OddReads kept line start
  reads_in n i line is start starts short by j k are odd cluster at before =
      let l : Layout = i.item in
      let s : ℕ = get_or (starts_in l) i.rest 0 in
      let base : ℕ = sum_by chars_of i.before in
      let ends : List Bool = cluster_ends l.text in
      let one : IsLaid l = laid_item n i in
      let few : i.rest < length (starts_in l) = omega (arith, i.within, length-map l.lines begins) in
      let size : line.len ≡ end_of (length l.text) (starts_in l) i.rest - s = length_of l i.rest line is in
      let ending = end_within (length l.text) (starts_in l) i.rest one.lined.lines.starts few in
      let inside : s + j < length l.text = omega (arith, ending.0, ending.1, size, short, are.order, are.within) in
      let there : IsIn chars_of kept (start + j) = record {
        before = i.before;
        item = l;
        behind = i.behind;
        place = i.place;
        rest = s + j;
        sum = omega (arith, starts);
        within = inside;
      } in
      let placed : IsPlaced kept n start j = placed_in n i line is start starts j (omega (arith, short, are.order, are.within)) in
      let known : cluster ≡ cluster_in base l.text (start + j) = same_Some cluster (cluster_in base l.text (start + j)) (sym at ∙ cluster_by kept all_lined (start + j) there placed.inside) in
      let rest : start + j - base ≡ s + j = omega (arith, starts) in
      let end : cluster.end ≡ base + cluster_end ends (s + j) = ap (λ (c : Cluster). c.end) known ∙ ap (λ m. base + cluster_end ends m) rest in
      let goes : EndsBy (ends_at ends) (s + j) (length ends) (cluster_end ends (s + j)) = end_after ends (s + j) (omega (arith, inside, length-cluster_ends l.text)) in
      by.odd j k are odd (λ c from below. goes.fails (s + c) (omega (arith, from)) (omega (arith, below, before, end, starts)))

  filled_in : (n : ℕ) (i : IsIn lines_of kept n) (line : Visual) → slice_get (visuals i.item) i.rest ≡ Some line → 0 < line.len
  filled_in n i line is =
      let l : Layout = i.item in
      let few : i.rest < length (starts_in l) = omega (arith, i.within, length-map l.lines begins) in
      let ending = end_within (length l.text) (starts_in l) i.rest (laid_item n i).lined.lines.starts few in
      omega (arith, length_of l i.rest line is, ending.0)

  line_is : (n : ℕ) (line : Visual) (start : ℕ) → slice_get (lines_in kept) n ≡ Some line → slice_get (line_starts kept) n ≡ Some start → IsIn lines_of kept n
      → IsLineOf kept n line start
  line_is n line start is begun i =
      let found : Found = found_in i.before i.rest in
      let f : Finds lines_of chars_of lines_of kept n found = lines_found n i in
      let item : Some i.item ≡ slice_get kept found.index = found_item lines_of kept n found f in
      let there : slice_get (visuals i.item) i.rest ≡ Some line = sym (line_read kept n found f i.item item) ∙ is in
      let begin : sum_by chars_of i.before + get_or (starts_in i.item) i.rest 0 ≡ start = same_Some _ start (sym (start_read kept n found f i.item item) ∙ begun) in
      let one : IsLaid i.item = laid_item n i in
      let few : i.rest < length (visuals i.item) = slice_get_within (visuals i.item) i.rest line there in
      let got : get_or (visuals i.item) i.rest line ≡ line = get_or_from_slice_get (visuals i.item) i.rest line line there in
      let ordered : IsOrdered line = subst IsOrdered got (one.ordered i.rest line few) in
      let placed : (k : ℕ) → k < line.len → IsPlaced kept n start k = λ k within. placed_in n i line there start begin k within in
      record {
        read = is;
        ordered = ordered;
        adjoin = elim one.adjoin [
          | inl all ↦ let runs : RunsAdjoin line = subst RunsAdjoin got (all i.rest line few) in record { even = runs.even; odd = inl runs.odd }
          | inr reads ↦
              let by = reads i.rest line there in
              record { even = by.even; odd = inr (reads_in n i line there start begin ordered.within by) }
        ];
        clusters = λ k within. all_clusters kept all_lined (start + k) (placed k (omega (arith, within, ordered.within))).inside;
        some = filled_in n i line there;
        placed = placed;
        columns = columns_fit line ordered (subst (λ (v : Visual). sum_by (run_columns v) (runs_of v.levels) ≡ v.columns) got (one.columns i.rest line few));
      }

  pub lines_are : (n : ℕ) (line : Visual) (start : ℕ) → line_at kept n ≡ Some (line, start) → IsLineOf kept n line start
  lines_are n line start at =
      let read = chained (λ (l : Visual). option_map (λ s. (l, s)) (slice_get (line_starts kept) n)) (slice_get (lines_in kept) n) (line, start) at in
      let other = mapped (λ s. (read.0, s)) (slice_get (line_starts kept) n) (line, start) read.2 in
      let is : slice_get (lines_in kept) n ≡ Some line = read.1 ∙ ap (λ (p : Visual × ℕ). Some p.0) other.2 in
      let begun : slice_get (line_starts kept) n ≡ Some start = other.1 ∙ ap (λ (p : Visual × ℕ). Some p.1) other.2 in
      line_is n line start is begun (is_in lines_of kept n (omega (arith, slice_get_within (lines_in kept) n line is, length-lines kept)))

-- ---- the layouts of a text

filled : (is_cut : ℕ → ℕ → Bool) (pieces : List (List ℕ)) → ArePieces is_cut pieces → All (λ p. 0 < length p) pieces
filled is_cut [] are = All-nil (λ (p : List ℕ). 0 < length p)
filled is_cut (p ∷ []) are = All-cons (λ (p : List ℕ). 0 < length p) p [] are.filled (All-nil (λ (p : List ℕ). 0 < length p))
filled is_cut (p ∷ q ∷ pieces) are = All-cons (λ (p : List ℕ). 0 < length p) p (q ∷ pieces) are.0.filled (filled is_cut (q ∷ pieces) are.2)

in_parts : (P : ℕ → Type 0) (pieces : List (List ℕ)) → All P (concat pieces) → All (λ p. All P p) pieces
in_parts P [] all = All-nil (λ (p : List ℕ). All P p)
in_parts P (p ∷ pieces) all =
    All-cons (λ (p : List ℕ). All P p) p pieces
    (subst (All P) (take_at p (concat pieces) (length p) refl) (All-take P (length p) (concat (p ∷ pieces)) all))
    (in_parts P pieces (subst (All P) (drop_at p (concat pieces) (length p) refl) (All-drop P (length p) (concat (p ∷ pieces)) all)))

marks_stay : (rules : Rules) (pieces : List (List ℕ)) → MarksStay rules (concat pieces) → All (MarksStay rules) pieces
marks_stay rules pieces (inl stay) = λ k d within. inl stay
marks_stay rules pieces (inr none) =
    λ k d within. inr (none.0, in_parts (λ c. is_nonspacing_mark (class_of rules.tables c) ≡ true → columns_of c ≡ 0) pieces none.1 k d within)

-- what is known about a paragraph
abbrev IsKnown : Rules → List ℕ → Type 0
IsKnown rules p = (0 < length p) × ((rules.options.reorder_clusters ≡ true) ⊎ MarksStay rules p)

-- if Q for a paragraph implies P for its layout with any advances, and Q holds for all paragraphs of a text,
-- P holds for all layouts of the text
each_layout : (Q : List ℕ → Type 0) (P : Layout → Type 0) (rules : Rules) (width : ℕ) (advances : Option (List ℕ)) (ps : List (List ℕ)) → All Q ps
    → ((own : Option (List ℕ)) (p : List ℕ) → (advances ≡ None → own ≡ None) → Q p → P (layout_of (with_advances rules own) width p))
    → All P (layouts_from (with_advances rules None) width advances ps)
each_layout Q P rules width advances [] all one = All-nil P
each_layout Q P rules width advances (p ∷ ps) all one =
    All-cons P (layout_of (with_advances rules (front_advances (length p) advances)) width p) (layouts_from (with_advances rules None) width (back_advances (length p) advances) ps)
    (one (front_advances (length p) advances) p (λ none. ap (front_advances (length p)) none) (All-head Q p ps all))
    (each_layout Q P rules width (back_advances (length p) advances) ps (All-tail Q p ps all)
    (λ own q same is. one own q (λ none. same (ap (back_advances (length p)) none)) is))

pub steps_lead : ParagraphsArePieces
    → ((rules : Rules) (width : ℕ) (text : List ℕ) → BeginInOrder text (lines_at rules width text))
    → ((rules : Rules) (width : ℕ) (text : List ℕ) → All IsOrdered (visuals (layout_of rules width text)))
    → ((rules : Rules) (width : ℕ) (text : List ℕ) → rules.options.reorder_clusters ≡ false → MarksStay rules text → All RunsAdjoin (visuals (layout_of rules width text)))
    → ((rules : Rules) (width : ℕ) (text : List ℕ) → rules.options.reorder_clusters ≡ true → ReadsBy (layout_of rules width text))
    → ((rules : Rules) (width : ℕ) (text : List ℕ) → All (λ (line : Visual). sum_by (run_columns line) (runs_of line.levels) ≡ line.columns) (visuals (layout_of rules width text)))
    → (rules : Rules) (width : ℕ) (text : List ℕ) → (rules.options.reorder_clusters ≡ true) ⊎ MarksStay rules text
    → StepsAreNearest rules (layouts_of rules width text)
steps_lead pieces begin ordered runs reads columns rules width text stay =
    let pars : List (List ℕ) = paragraphs (cut_by rules) text in
    let kept : List Layout = layouts_of rules width text in
    let some : All (λ p. 0 < length p) pars = filled (cut_by rules) pars (pieces.pieces (cut_by rules) text) in
    let stays : MarksStay rules text → All (MarksStay rules) pars = λ marks. marks_stay rules pars (subst (MarksStay rules) (sym (pieces.whole (cut_by rules) text)) marks) in
    let known : All (IsKnown rules) pars = λ k d within. (
      some k d within,
      elim stay [
        | inl on ↦ inl on
        | inr marks ↦ inr (stays marks k d within)
      ],
    ) in
    let one : (advances : Option (List ℕ)) (p : List ℕ) → (rules.advances ≡ None → advances ≡ None) → IsKnown rules p → IsLaid (layout_of (with_advances rules advances) width p) =
    λ advances p same is.
    let own : Rules = with_advances rules advances in
    record {
      lined = record { some = is.0; lines = begin own width p };
      ordered = ordered own width p;
      adjoin = elim (cases_Bool rules.options.reorder_clusters) [
        | inl on ↦ inr (reads own width p on)
        | inr off ↦ inl (runs own width p off (elim is.1 [
          | inl on ↦ absurd (both_ways rules.options.reorder_clusters off on)
          | inr marks ↦ elim marks [ inl stay ↦ inl stay | inr none ↦ inr (same none.0, none.1) ]
        ]))
      ];
      columns = columns own width p;
    } in
    let laid : All IsLaid kept = each_layout (IsKnown rules) IsLaid rules width rules.advances pars known one in
    steps_are_nearest rules kept (all_clusters kept (λ k d within. (laid k d within).lined)) (lines_are kept laid)
