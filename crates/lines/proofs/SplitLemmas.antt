-- At a split point, a text can be split into two texts with the same clusters. So the clusters between two split points are those
-- of the text between them.
use Rattle.std.proofs.Common.{◌≡◌, ℕ, zero, suc, ◌+◌, ◌-◌, ◌<◌, ◌≤◌, Bool, true, false, not, ◌&&◌, ◌||◌, List, [], ◌∷◌, ◌++◌, append-nil, append_assoc, drop-cons, length, length-drop, map, take, drop, get_or, unwrap_or, Option, Some, None, ◌⊎◌, inl, inr, refl, sym, ap, ap₂, ◌∙◌, arith}
use Rattle.std.proofs.Math.ListN.{drop_of_length-le}
use Rattle.std.proofs.Math.Seq.{take-length, take-suc}
use Rattle.std.proofs.lemmas.Bool.{and_parts, both_ways, cases_eq, cases_lt}
use Rattle.std.proofs.lemmas.List.{get_or-drop, length-take-le, take-append-drop}
use Rattle.std.specs.List.{slice_range}
use Rattle.ucd_table.specs.Rows.{value_in}
use Rattle.ucd_breaks.specs.GraphemeClusterBreak.{grapheme_cluster_break}
use Rattle.ucd_breaks.specs.GraphemeClusterBreakRows.{grapheme_cluster_break_rows}
use Rattle.ucd_breaks.specs.declared.GraphemeClusterBreak.{GraphemeClusterBreak}
use Rattle.ucd_breaks.specs.declared.GraphemeClusterBreak.TheVariants.{Control, Extend, Lf, Other, RegionalIndicator, SpacingMark, Zwj}
use Rattle.ucd_derived.specs.IndicConjunctBreak.{indic_conjunct_break}
use Rattle.ucd_derived.specs.IndicConjunctBreakRows.{indic_conjunct_break_rows}
use Rattle.ucd_derived.specs.declared.IndicConjunctBreak.{IndicConjunctBreak}
use Rattle.ucd_derived.specs.declared.IndicConjunctBreak.TheVariants as InCb
use Rattle.unicode_segmentation.specs.Grapheme.{break_by_pair, ends_in_half_flag, ends_in_linker, ends_in_pictograph, is_consonant, is_extend, is_grapheme_break, is_regional, is_zwj, joins_conjunct, joins_emoji, joins_flag}
use Rattle.lines.proofs.ClusterLemmas.{length-cluster_ends}
use Rattle.lines.proofs.SegmentLemmas.{begin_within, end_within, ends_same, only_end}
use Rattle.lines.specs.Clusters.{can_split, cluster_begin, cluster_end, cluster_ends, ends_after, ends_at, is_split_point, may_end, may_start, no_conjunct, IsSplitPoint}

-- if a text can be split between two characters, they pass all three tests
split_parts : (w x : ℕ) → can_split w x ≡ true
    → (may_end (grapheme_cluster_break w) ≡ true) × (may_start (grapheme_cluster_break x) ≡ true) × (no_conjunct (indic_conjunct_break w) (indic_conjunct_break x) ≡ true)
unfolding can_split
split_parts w x split =
    let outer = and_parts (may_end (grapheme_cluster_break w) && may_start (grapheme_cluster_break x)) _ split in
    let inner = and_parts (may_end (grapheme_cluster_break w)) (may_start (grapheme_cluster_break x)) outer.0 in
    (inner.0, inner.1, outer.1)

by_pair : (g h : GraphemeClusterBreak) → may_end g ≡ true → may_start h ≡ true → unwrap_or (break_by_pair true g h) true ≡ true
by_pair g Extend one other = cc
by_pair g SpacingMark one other = cc
by_pair g Zwj one other = cc
by_pair Control h one other = refl
by_pair Extend h one other = refl
by_pair Lf h one other = refl
by_pair Other h one other = refl
by_pair SpacingMark h one other = refl
by_pair g h one other = cc

no_joiner : (g : GraphemeClusterBreak) → may_end g ≡ true → is_zwj g ≡ false
no_joiner Zwj one = cc
no_joiner g one = refl

no_flag : (g : GraphemeClusterBreak) → may_end g ≡ true → is_regional g ≡ false
no_flag RegionalIndicator one = cc
no_flag g one = refl

starts_no_joiner : (g : GraphemeClusterBreak) → may_start g ≡ true → is_zwj g ≡ false
starts_no_joiner Zwj one = cc
starts_no_joiner g one = refl

starts_no_extend : (g : GraphemeClusterBreak) → may_start g ≡ true → is_extend g ≡ false
starts_no_extend Extend one = cc
starts_no_extend g one = refl

none_joined : (a b : Bool) → b ≡ false → (a && b) ≡ false
none_joined true b none = none
none_joined false b none = refl

none_linked : (v u : IndicConjunctBreak) (before : List IndicConjunctBreak) → no_conjunct v u ≡ true → (ends_in_linker (v ∷ before) && is_consonant u) ≡ false
unfolding ends_in_linker
none_linked v InCb.Extend before one = none_joined _ _ refl
none_linked v InCb.Linker before one = none_joined _ _ refl
none_linked v InCb.None before one = none_joined _ _ refl
none_linked InCb.Consonant InCb.Consonant before one = refl
none_linked InCb.None InCb.Consonant before one = refl
none_linked InCb.Extend InCb.Consonant before one = cc
none_linked InCb.Linker InCb.Consonant before one = cc

linker_only : (v u : IndicConjunctBreak) (far : List IndicConjunctBreak) → no_conjunct v u ≡ true → ends_in_linker (u ∷ far) ≡ ends_in_linker (u ∷ [])
unfolding ends_in_linker
linker_only v InCb.Consonant far one = refl
linker_only InCb.Consonant InCb.Extend far one = cc
linker_only InCb.Extend InCb.Extend far one = cc
linker_only InCb.Linker InCb.Extend far one = cc
linker_only InCb.None InCb.Extend far one = cc
linker_only v InCb.Linker far one = refl
linker_only v InCb.None far one = refl

parts_of : (pair : Option Bool) → unwrap_or pair true ≡ true → unwrap_or pair (not ((true && false) || (false || false))) ≡ true
parts_of (Some b) is = is
parts_of None is = refl

-- a cluster ends between two such characters
pub breaks_at : (w x : ℕ) (before after : List ℕ) → can_split w x ≡ true → is_grapheme_break true (w ∷ before) (x ∷ after) ≡ true
unfolding is_grapheme_break ends_in_half_flag
breaks_at w x before after split =
    let tests = split_parts w x split in
    let conjunct = none_linked (indic_conjunct_break w) (indic_conjunct_break x) (map indic_conjunct_break before) tests.2 in
    rw (conjunct, no_joiner _ tests.0, no_flag _ tests.0) (parts_of (break_by_pair true (grapheme_cluster_break w) (grapheme_cluster_break x)) (by_pair _ _ tests.0 tests.1))

-- a combination of tests keeps its result if one test is replaced by a test with the same result
goes_on : (a b c d : Bool) → c ≡ d → (a || (b && c)) ≡ (a || (b && d))
goes_on a b c d same = ap (λ e. a || (b && e)) same

between : (a b c d : Bool) → c ≡ d → (a && c && b) ≡ (a && d && b)
between a b c d same = ap (λ e. a && e && b) same

-- if a text can be split between w and x, no rule for the characters after x looks back past x
module _ (w x : ℕ) (split : can_split w x ≡ true) (far : List ℕ) where
  tests : (may_end (grapheme_cluster_break w) ≡ true) × (may_start (grapheme_cluster_break x) ≡ true) × (no_conjunct (indic_conjunct_break w) (indic_conjunct_break x) ≡ true)
  tests = split_parts w x split

  same_linker : (v : IndicConjunctBreak) (one other : List IndicConjunctBreak) → ends_in_linker one ≡ ends_in_linker other → ends_in_linker (v ∷ one) ≡ ends_in_linker (v ∷ other)
  unfolding ends_in_linker
  same_linker InCb.Consonant one other same = refl
  same_linker InCb.Extend one other same = same
  same_linker InCb.Linker one other same = refl
  same_linker InCb.None one other same = refl

  linker_by : (ys : List ℕ) → ends_in_linker (map indic_conjunct_break (ys ++ x ∷ w ∷ far)) ≡ ends_in_linker (map indic_conjunct_break (ys ++ x ∷ []))
  linker_by [] = linker_only (indic_conjunct_break w) (indic_conjunct_break x) _ tests.2
  linker_by (y ∷ ys) = same_linker (indic_conjunct_break y) _ _ (linker_by ys)

  pictograph_by : (ys : List ℕ) → ends_in_pictograph (ys ++ x ∷ w ∷ far) ≡ ends_in_pictograph (ys ++ x ∷ [])
  unfolding ends_in_pictograph
  pictograph_by [] = rw (starts_no_extend _ tests.1) refl
  pictograph_by (y ∷ ys) = goes_on _ _ _ _ (pictograph_by ys)

  flag_by : (ys : List ℕ) → ends_in_half_flag (ys ++ x ∷ w ∷ far) ≡ ends_in_half_flag (ys ++ x ∷ [])
  unfolding ends_in_half_flag
  flag_by [] = ap (λ b. is_regional (grapheme_cluster_break x) && not (b && not (ends_in_half_flag far))) (no_flag (grapheme_cluster_break w) tests.0)
  flag_by (y ∷ ys) = ap (λ b. is_regional (grapheme_cluster_break y) && not b) (flag_by ys)

  emoji_by : (ys : List ℕ) (next : ℕ) → joins_emoji (ys ++ x ∷ w ∷ far) next ≡ joins_emoji (ys ++ x ∷ []) next
  emoji_by [] next = rw (starts_no_joiner _ tests.1) refl
  emoji_by (y ∷ ys) next = between _ _ _ _ (pictograph_by ys)

  conjunct_by : (ys : List ℕ) (next : ℕ) → joins_conjunct (ys ++ x ∷ w ∷ far) next ≡ joins_conjunct (ys ++ x ∷ []) next
  conjunct_by ys next = ap (λ b. b && is_consonant (indic_conjunct_break next)) (linker_by ys)

  joins_flag_by : (ys : List ℕ) (next : ℕ) → joins_flag (ys ++ x ∷ w ∷ far) next ≡ joins_flag (ys ++ x ∷ []) next
  joins_flag_by ys next = ap (λ b. b && is_regional (grapheme_cluster_break next)) (flag_by ys)

  break_by : (ys after : List ℕ) → is_grapheme_break true (ys ++ x ∷ w ∷ far) after ≡ is_grapheme_break true (ys ++ x ∷ []) after
  unfolding is_grapheme_break
  break_by [] [] = refl
  break_by (y ∷ ys) [] = refl
  break_by [] (next ∷ after) =
      ap (λ b. unwrap_or (break_by_pair true (grapheme_cluster_break x) (grapheme_cluster_break next)) (not b))
      (ap₂ ◌||◌ (ap₂ ◌||◌ (conjunct_by [] next) (emoji_by [] next)) (joins_flag_by [] next))
  break_by (y ∷ ys) (next ∷ after) =
      ap (λ b. unwrap_or (break_by_pair true (grapheme_cluster_break y) (grapheme_cluster_break next)) (not b))
      (ap₂ ◌||◌ (ap₂ ◌||◌ (conjunct_by (y ∷ ys) next) (emoji_by (y ∷ ys) next)) (joins_flag_by (y ∷ ys) next))

  ends_by : (ys text : List ℕ) → ends_after (is_grapheme_break true) (ys ++ x ∷ w ∷ far) text ≡ ends_after (is_grapheme_break true) (ys ++ x ∷ []) text
  ends_by ys [] = refl
  ends_by ys (c ∷ text) = ap₂ ◌∷◌ (break_by (c ∷ ys) text) (ends_by (c ∷ ys) text)

-- the rules read only the next character
pub next_only : (before : List ℕ) (next : ℕ) (far near : List ℕ) → is_grapheme_break true before (next ∷ far) ≡ is_grapheme_break true before (next ∷ near)
unfolding is_grapheme_break
next_only [] next far near = refl
next_only (c ∷ before) next far near = refl

module _ (w x : ℕ) (rest : List ℕ) (split : can_split w x ≡ true) where
  split_at : (before front : List ℕ) → ends_after (is_grapheme_break true) before (front ++ w ∷ x ∷ rest)
      ≡ ends_after (is_grapheme_break true) before (front ++ w ∷ []) ++ ends_after (is_grapheme_break true) [] (x ∷ rest)
  split_at before [] =
      ap₂ ◌∷◌ (breaks_at w x before rest split ∙ unfold is_grapheme_break in refl)
      (ap₂ ◌∷◌ (break_by w x split before [] rest) (ends_by w x split before [] rest))
  split_at before (c ∷ []) = ap₂ ◌∷◌ (next_only (c ∷ before) w (x ∷ rest) []) (split_at (c ∷ before) [])
  split_at before (c ∷ d ∷ front) = ap₂ ◌∷◌ (next_only (c ∷ before) d (front ++ w ∷ x ∷ rest) (front ++ w ∷ [])) (split_at (c ∷ before) (d ∷ front))

  pub ends_split : (front : List ℕ) → cluster_ends (front ++ w ∷ x ∷ rest) ≡ cluster_ends (front ++ w ∷ []) ++ cluster_ends (x ∷ rest)
  unfolding cluster_ends
  ends_split front = split_at [] front

-- a text is split at a split point
module _ (text : List ℕ) where
  split_between : (n : ℕ) → suc n < length text → is_split_point text (suc n) ≡ true
      → cluster_ends text ≡ cluster_ends (take (suc n) text) ++ cluster_ends (drop (suc n) text)
  split_between n within alone =
      let w = get_or text n 0 in
      let x = get_or text (suc n) 0 in
      let rest = drop (suc (suc n)) text in
      let split : can_split w x ≡ true = ap (λ i. can_split (get_or text i 0) x) (omega arith) ∙ alone in
      let front : take (suc n) text ≡ take n text ++ w ∷ [] = take-suc text n 0 (omega (arith, within)) in
      let back : drop (suc n) text ≡ x ∷ rest = drop-cons text (suc n) 0 within in
      let whole : text ≡ take n text ++ w ∷ x ∷ rest =
      sym (take-append-drop (suc n) text) ∙ ap₂ ◌++◌ front back ∙ append_assoc (take n text) (w ∷ []) (x ∷ rest) in
      ap cluster_ends whole ∙ ends_split w x rest split (take n text)
      ∙ sym (ap₂ (λ (a b : List ℕ). cluster_ends a ++ cluster_ends b) front back)

  pub split_ends : (n : ℕ) → n ≤ length text → IsSplitPoint text n → cluster_ends text ≡ cluster_ends (take n text) ++ cluster_ends (drop n text)
  split_ends zero within split = unfold cluster_ends in refl
  split_ends (suc n) within (inl start) = absurd (omega (arith, start))
  split_ends (suc n) within (inr split) =
      elim (cases_eq (suc n) (length text)) [
        | inl end ↦
            let past : length text ≤ suc n = omega (arith, end) in
            let none : cluster_ends (drop (suc n) text) ≡ [] = ap cluster_ends (drop_of_length-le text past) ∙ unfold cluster_ends in refl in
            let all : take (suc n) text ≡ text = ap (λ i. take i text) end ∙ take-length text in
            sym (ap₂ ◌++◌ (ap cluster_ends all) none ∙ append-nil (cluster_ends text))
        | inr less ↦
            let between : is_split_point text (suc n) ≡ true =
            elim split [
              | inl end ↦ absurd (less end)
              | inr alone ↦ alone
            ] in
            split_between n (omega (arith, within, less)) between
      ]

-- a cluster ends at the end of a text
last_after : (before text : List ℕ) → 0 < length text
    → ends_at (ends_after (is_grapheme_break true) before text) (length (ends_after (is_grapheme_break true) before text) - 1) ≡ true
last_after before [] some = absurd (omega (arith, some))
last_after before (c ∷ []) some = unfold is_grapheme_break in refl
last_after before (c ∷ d ∷ text) some =
    let rest = ends_after (is_grapheme_break true) (c ∷ before) (d ∷ text) in
    let more : suc (length rest) - 1 ≡ suc (length rest - 1) = omega arith in
    ap (ends_at (is_grapheme_break true (c ∷ before) (d ∷ text) ∷ rest)) more ∙ last_after (c ∷ before) (d ∷ text) (omega arith)

last_ends : (text : List ℕ) → 0 < length text → ends_at (cluster_ends text) (length (cluster_ends text) - 1) ≡ true
unfolding cluster_ends
last_ends text some = last_after [] text some

-- the window between two split points around character k: its clusters are those of the text
module _ (text : List ℕ) (from to k : ℕ) (opens : IsSplitPoint text from) (closes : IsSplitPoint text to) (start : from ≤ k) (past : k < to) (within : to ≤ length text) where
  closes_rest : IsSplitPoint (drop from text) (to - from)
  closes_rest =
      elim closes [
        | inl none ↦ absurd (omega (arith, none, past))
        | inr split ↦ elim split [
          | inl end ↦ inr (inl (omega (arith, end, length-drop from text)))
          | inr alone ↦ inr (inr (
              ap₂ can_split
              (get_or-drop from text (to - from - 1) 0 ∙ ap (λ i. get_or text i 0) (omega (arith, start, past)))
              (get_or-drop from text (to - from) 0 ∙ ap (λ i. get_or text i 0) (omega (arith, start, past))) ∙ alone))
        ]
      ]

  length_window : length (cluster_ends (slice_range text from to)) ≡ to - from
  length_window =
      length-cluster_ends (slice_range text from to)
      ∙ length-take-le (to - from) (drop from text) (omega (arith, within, length-drop from text))

  length_front : length (cluster_ends (take from text)) ≡ from
  length_front = length-cluster_ends (take from text) ∙ length-take-le from text (omega (arith, start, past, within))

  parts : cluster_ends text ≡ cluster_ends (take from text) ++ (cluster_ends (slice_range text from to) ++ cluster_ends (drop (to - from) (drop from text)))
  parts =
      split_ends text from (omega (arith, start, past, within)) opens
      ∙ ap (λ es. cluster_ends (take from text) ++ es) (split_ends (drop from text) (to - from) (omega (arith, within, length-drop from text)) closes_rest)

  opens_window : (length (cluster_ends (take from text)) ≡ 0) ⊎ (ends_at (cluster_ends (take from text)) (length (cluster_ends (take from text)) - 1) ≡ true)
  opens_window =
      elim (cases_eq from 0) [
        | inl none ↦ inl (omega (arith, none, length_front))
        | inr some ↦ inr (last_ends (take from text) (omega (arith, some, length_front, length-cluster_ends (take from text))))
      ]

  closes_window : ends_at (cluster_ends (slice_range text from to)) (length (cluster_ends (slice_range text from to)) - 1) ≡ true
  closes_window = last_ends (slice_range text from to) (omega (arith, start, past, length_window, length-cluster_ends (slice_range text from to)))

  place : k ≡ length (cluster_ends (take from text)) + (k - from)
  place = omega (arith, start, length_front)

  pub window_begin : cluster_begin (cluster_ends text) k ≡ from + cluster_begin (cluster_ends (slice_range text from to)) (k - from)
  window_begin =
      let front = cluster_ends (take from text) in
      let ends = cluster_ends (slice_range text from to) in
      let after_it = cluster_ends (drop (to - from) (drop from text)) in
      ap₂ cluster_begin parts place
      ∙ begin_within front ends after_it (k - from) (omega (arith, start, past, length_window)) opens_window
      ∙ ap (λ n. n + cluster_begin ends (k - from)) length_front

  pub window_end : cluster_end (cluster_ends text) k ≡ from + cluster_end (cluster_ends (slice_range text from to)) (k - from)
  window_end =
      let front = cluster_ends (take from text) in
      let ends = cluster_ends (slice_range text from to) in
      let after_it = cluster_ends (drop (to - from) (drop from text)) in
      ap₂ cluster_end parts place
      ∙ end_within front ends after_it (k - from) (omega (arith, start, past, length_window)) closes_window
      ∙ ap (λ n. n + cluster_end ends (k - from)) length_front

  pub window_at : ends_at (cluster_ends text) k ≡ ends_at (cluster_ends (slice_range text from to)) (k - from)
  window_at =
      let front = cluster_ends (take from text) in
      let ends = cluster_ends (slice_range text from to) in
      let after_it = cluster_ends (drop (to - from) (drop from text)) in
      ap₂ ends_at parts place ∙ ends_same front ends after_it (k - from) (omega (arith, start, past, length_window)) (k - from) (omega (arith, start, past, length_window))

  -- a window of one character is a cluster
  pub only_begin : to - from ≡ 1 → cluster_begin (cluster_ends text) k ≡ k
  only_begin one =
      let first : k - from ≡ 0 = omega (arith, one, start, past) in
      window_begin ∙ ap (λ n. from + cluster_begin (cluster_ends (slice_range text from to)) n) first ∙ omega (arith, first, start)

  pub only_past : to - from ≡ 1 → cluster_end (cluster_ends text) k ≡ k + 1
  only_past one =
      let first : k - from ≡ 0 = omega (arith, one, start, past) in
      let end = only_end (cluster_ends (slice_range text from to)) (length_window ∙ one) closes_window in
      window_end ∙ ap (λ n. from + cluster_end (cluster_ends (slice_range text from to)) n) first ∙ omega (arith, end, first, start)

-- if there is a split point directly before or after character k, it is the nearest one on that side
pub splits_before : (text : List ℕ) (start k : ℕ) → k < length text → start ≤ k → ((i : ℕ) → start < i → i ≤ k → is_split_point text i ≡ false)
    → IsSplitPoint text k → start ≡ k
splits_before text start k inside most nearest (inl first) = omega (arith, first)
splits_before text start k inside most nearest (inr (inl last)) = absurd (omega (arith, last))
splits_before text start k inside most nearest (inr (inr splits)) =
    elim (cases_lt start k) [
      | inl before ↦ absurd (both_ways (is_split_point text k) (nearest k before (omega arith)) splits)
      | inr here ↦ omega (arith, here)
    ]

pub splits_after : (text : List ℕ) («end» k : ℕ) → «end» ≤ length text → k < «end» → ((i : ℕ) → k < i → i < «end» → is_split_point text i ≡ false)
    → IsSplitPoint text (k + 1) → «end» ≡ k + 1
splits_after text «end» k most past nearest (inl first) = absurd (omega (arith, first))
splits_after text «end» k most past nearest (inr (inl last)) = omega (arith, last)
splits_after text «end» k most past nearest (inr (inr splits)) =
    elim (cases_lt (k + 1) «end») [
      | inl before ↦ absurd (both_ways (is_split_point text (k + 1)) (nearest (k + 1) (omega arith) before) splits)
      | inr here ↦ omega (arith, here)
    ]

-- Rows worked by hand. A split is possible between letters, between emoji, after an emoji with a modifier, and between a space and
-- a letter of a conjunct; it is not possible next to a joiner, between CR and LF, in a flag, in a conjunct or in a syllable.
splits : can_split 0x61 0x62 && can_split 0x1F469 0x1F469 && can_split 0x1F3FD 0x1F44D && can_split 0x20 0x937 && can_split 0x20 0xD55C ≡ true
unfolding can_split grapheme_cluster_break value_in grapheme_cluster_break_rows indic_conjunct_break indic_conjunct_break_rows
splits = refl

joins : can_split 0x1F468 0x200D || can_split 0x200D 0x1F469 || can_split 0xA9 0x200D || can_split 0xD 0xA || can_split 0x65 0x301 ≡ false
unfolding can_split grapheme_cluster_break value_in grapheme_cluster_break_rows indic_conjunct_break indic_conjunct_break_rows
joins = refl

joins_more : can_split 0x1F1E9 0x1F1EA || can_split 0x94D 0x937 || can_split 0x937 0x94D || can_split 0xD558 0x11AB || can_split 0x1F44D 0x1F3FD ≡ false
unfolding can_split grapheme_cluster_break value_in grapheme_cluster_break_rows indic_conjunct_break indic_conjunct_break_rows
joins_more = refl
