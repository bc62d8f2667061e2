-- Where the clusters of a part of a text end.
use Rattle.std.proofs.Common.{◌≡◌, ℕ, zero, suc, ◌+◌, ◌-◌, ◌<◌, ◌≤◌, ◌==◌, Bool, true, false, ◌||◌, cond, List, [], ◌∷◌, ◌++◌, append-nil, length, refl, sym, ap, ap₂, ◌∙◌, arith}
use Rattle.std.specs.List.{filter, range_with_len, slice_range}
use Rattle.std.proofs.lemmas.List.Elements.{filter-append}
use Rattle.reorder.proofs.OrderLemmas.{range_more}
use Rattle.lines.proofs.SegmentLemmas.{ends_same as same_ends}
use Rattle.lines.proofs.SplitLemmas.{window_at}
use Rattle.lines.specs.Clusters.{cluster_ends, ends_at, ends_in, IsSplitPoint}

-- whether the part or one of its clusters ends at k
abbrev pub is_end : List Bool → ℕ → ℕ → ℕ → Bool
is_end ends start len k = k == len || ends_at ends (start + k - 1)

-- the ends that are at most n
abbrev pub ends_up_to : List Bool → ℕ → ℕ → ℕ → List ℕ
ends_up_to ends start len n = filter (is_end ends start len) (range_with_len 1 n)

-- ---- one more end
module _ (ends : List Bool) (start len k : ℕ) (some : 0 < k) where
  more : ends_up_to ends start len (k + 1 - 1) ≡ ends_up_to ends start len (k - 1) ++ filter (is_end ends start len) (k ∷ [])
  more =
      let next : k + 1 - 1 ≡ k - 1 + 1 = omega (arith, some) in
      let here : 1 + (k - 1) ≡ k = omega (arith, some) in
      ap (ends_up_to ends start len) next
      ∙ ap (filter (is_end ends start len)) (range_more 1 (k - 1))
      ∙ filter-append (is_end ends start len) (range_with_len 1 (k - 1)) ((1 + (k - 1)) ∷ [])
      ∙ ap (λ n. ends_up_to ends start len (k - 1) ++ filter (is_end ends start len) (n ∷ [])) here

  pub ends_more : is_end ends start len k ≡ true → ends_up_to ends start len (k + 1 - 1) ≡ ends_up_to ends start len (k - 1) ++ k ∷ []
  ends_more is = more ∙ ap (λ b. ends_up_to ends start len (k - 1) ++ cond b (k ∷ []) []) is

  pub ends_same : is_end ends start len k ≡ false → ends_up_to ends start len (k + 1 - 1) ≡ ends_up_to ends start len (k - 1)
  ends_same is = more ∙ ap (λ b. ends_up_to ends start len (k - 1) ++ cond b (k ∷ []) []) is ∙ append-nil (ends_up_to ends start len (k - 1))

-- if two tests agree on a range, they select the same numbers from the range
filter_by : (p q : ℕ → Bool) (a n : ℕ) → ((k : ℕ) → a ≤ k → k < a + n → p k ≡ q k) → filter p (range_with_len a n) ≡ filter q (range_with_len a n)
filter_by p q a zero same = refl
filter_by p q a (suc n) same =
    ap₂ (λ b rest. cond b (a ∷ rest) rest) (same a (omega arith) (omega arith))
    (filter_by p q (a + 1) n (λ k from to. same k (omega (arith, from)) (omega (arith, to))))

-- the ends of a part are determined by the clusters between two split points around it
pub ends_in_window : (text : List ℕ) (from to start len : ℕ) → IsSplitPoint text from → IsSplitPoint text to
    → from ≤ start → start + len ≤ to → to ≤ length text
    → ends_in (cluster_ends (slice_range text from to)) (start - from) len ≡ ends_in (cluster_ends text) start len
ends_in_window text from to start len opens closes first past within =
    let near = cluster_ends (slice_range text from to) in
    filter_by (is_end near (start - from) len) (is_end (cluster_ends text) start len) 1 len
    (λ k some most.
    let place : start - from + k - 1 ≡ start + k - 1 - from = omega (arith, some, first) in
    ap (λ b. (k == len) || b)
    (ap (ends_at near) place
    ∙ sym (window_at text from to (start + k - 1) opens closes (omega (arith, some, first)) (omega (arith, some, most, past)) within)))

-- the ends of a part do not change if items are added before and after the list and the part's start is
-- shifted accordingly
pub ends_in_whole : (front ends after_it : List Bool) (start len : ℕ) → start + len ≤ length ends
    → ends_in (front ++ (ends ++ after_it)) (length front + start) len ≡ ends_in ends start len
ends_in_whole front ends after_it start len within =
    filter_by (is_end (front ++ (ends ++ after_it)) (length front + start) len) (is_end ends start len) 1 len
    (λ k some most.
    let place : length front + start + k - 1 ≡ length front + (start + k - 1) = omega (arith, some) in
    let inside : start + k - 1 < length ends = omega (arith, some, most, within) in
    ap (λ b. (k == len) || b) (ap (ends_at (front ++ (ends ++ after_it))) place ∙ same_ends front ends after_it (start + k - 1) inside (start + k - 1) inside))
