-- The search inside the isolate of an initiator. It skips each nested isolate in one step.
use Rattle.std.proofs.Common.{◌≡◌, nat_lt, option_map, zero-add, ℕ, ◌+◌, ◌-◌, ◌<◌, ◌≤◌, true, false, cond, ◌&&◌, ◌==◌, count_by, not, List, length, take, drop, get_or, slice_range, Some, None, is_none, unwrap_or, refl, sym, ap, ◌∙◌, inl, inr, arith}
use Rattle.std.specs.List.{range_with_len}
use Rattle.std.proofs.lemmas.Bool.{cond-true, cond-false, cond_both, cases_Bool, cases_eq, cases_lt, and_from, and_left, and_right, not_from_true, false_from_ne_true, both_ways, lt-ltb}
use Rattle.std.proofs.lemmas.List.{drop-drop, drop-take, take-take, get_or-take, get_or-drop, length-drop, length-take-le}
use Rattle.std.proofs.lemmas.List.Folds.{list_all_at}
use Rattle.std.proofs.lemmas.List.FromFn.{length-range_with_len, get_or-range_with_len, get_or-map-range_with_len}
use Rattle.ucd.specs.declared.bidi_class.BidiClass.{BidiClass}
use Rattle.ucd.specs.declared.bidi_class.BidiClass.TheVariants.{ON}
use Rattle.bidi.specs.Base.{is_balanced, match_of, is_before, is_in_span, is_outside, first_strong_level, strong_level}
use Rattle.ucd.specs.Classes.{class_at, is_initiator, is_pdi, is_strong}
use Rattle.bidi.specs.Isolates.{match_at, matches_of}
use Rattle.bidi.specs.Explicit.{span_of}
use Rattle.bidi.proofs.IsolateLemmas.{Reached, Reached-end, Lowest-fresh, Lowest-here, opened, closed, opened-next, closed-next, opens_shuts_none, strong_opens_none, strong_shuts_none, balanced, level_at_match, returns_to, steps, Reached-start, Reached-next, Reached-strong}
use Rattle.bidi.proofs.LeastLemmas.{least_before, least_passes, least_within, least_is_none, least_misses, least_none}

-- an initiator is not strong
opens_weak : (class : BidiClass) → is_initiator class ≡ true → is_strong class ≡ false
opens_weak class opens =
    elim (cases_Bool (is_strong class)) [
      | inl strong ↦ absurd (both_ways (is_initiator class) (strong_opens_none class strong) opens)
      | inr weak ↦ weak
    ]

-- a range of a range is a range of the whole list
slice_range-span : (xs : List BidiClass) (b e i j : ℕ) → b + j ≤ e → i ≤ j → slice_range (slice_range xs b e) i j ≡ slice_range xs (b + i) (b + j)
slice_range-span xs b e i j within order =
    let whole : e - b ≡ i + (e - b - i) = omega arith in
    let part : j - i ≤ e - b - i = omega arith in
    let size : b + j - (b + i) ≡ j - i = omega arith in
    ap (λ n. take (j - i) (drop i (take n (drop b xs)))) whole
    ∙ ap (take (j - i)) (drop-take i (e - b - i) (drop b xs))
    ∙ take-take (j - i) (e - b - i) (drop i (drop b xs)) part
    ∙ ap (take (j - i)) (drop-drop i b xs)
    ∙ ap (λ n. take n (drop (b + i) xs)) (sym size)

-- whether a range is balanced does not depend on the list around it
balanced-span : (xs : List BidiClass) (b e i j : ℕ) → b + j < e → i ≤ j → is_balanced (slice_range xs b e) i j ≡ is_balanced xs (b + i) (b + j)
balanced-span xs b e i j within order =
    let size : b + j + 1 ≡ b + (j + 1) = omega arith in
    let part = slice_range-span xs b e i (j + 1) (omega arith) (omega arith) in
    ap (λ ys. count_by is_initiator ys == count_by is_pdi ys) (part ∙ ap (slice_range xs (b + i)) (sym size))

pub class_at-span : (xs : List BidiClass) (b e j : ℕ) → b + j < e → class_at (slice_range xs b e) j ≡ class_at xs (b + j)
class_at-span xs b e j within = let lt : j < e - b = omega arith in rw get_or-take (get_or-drop b xs j ON)

pub length-span : (xs : List BidiClass) (b e : ℕ) → b ≤ e → e ≤ length xs → length (slice_range xs b e) ≡ e - b
length-span xs b e order within = length-take-le (e - b) (drop b xs) (omega (arith, length-drop b xs))

-- an initiator has no match if and only if its entry in the list of matches is the length of the list
pub open-match_at : (classes : List BidiClass) (i : ℕ) → i < length classes
    → (is_initiator (class_at classes i) && is_none (match_of classes i)) ≡ (is_initiator (class_at classes i) && (match_at classes i == length classes))
open-match_at classes i within =
    elim (cases_Bool (is_initiator (class_at classes i))) [
      | inr other ↦ rw other refl
      | inl opens ↦
          let e : match_at classes i ≡ unwrap_or (match_of classes i) (length classes) =
          cond-true (is_initiator (class_at classes i)) (unwrap_or (match_of classes i) (length classes)) (length classes) opens in
          ap (λ b. is_initiator (class_at classes i) && b) (least_is_none (is_balanced classes i) (i + 1) (length classes - (i + 1)) (length classes) (omega arith))
          ∙ ap (λ m. is_initiator (class_at classes i) && (m == length classes)) (sym e)
    ]

-- the range from an initiator to its match is balanced, and the range to any index before the match is not
module _ (classes : List BidiClass) (i : ℕ) (within : i < length classes) (opens : is_initiator (class_at classes i) ≡ true) where
  found : match_at classes i ≡ unwrap_or (match_of classes i) (length classes)
  found = cond-true (is_initiator (class_at classes i)) (unwrap_or (match_of classes i) (length classes)) (length classes) opens

  pub unbalanced_before : (m : ℕ) → i < m → m < match_at classes i → is_balanced classes i m ≡ false
  unbalanced_before m after before =
      least_before (is_balanced classes i) (i + 1) (length classes - (i + 1)) (length classes) m (omega arith) (omega arith) (rw found at before)

  pub balanced_at : match_at classes i < length classes → (i < match_at classes i) × (is_balanced classes i (match_at classes i) ≡ true)
  balanced_at inside =
      let at = least_passes (is_balanced classes i) (i + 1) (length classes - (i + 1)) (length classes) (omega arith) (rw found at inside) in
      rw found (omega (arith, at.0), at.1)

  match_at-within : match_at classes i ≤ length classes
  match_at-within = rw found (least_within (is_balanced classes i) (i + 1) (length classes - (i + 1)) (length classes) (omega arith))

-- each entry in the list of matches is at most the length of the list
pub match_at-le : (classes : List BidiClass) (i : ℕ) → i < length classes → match_at classes i ≤ length classes
match_at-le classes i within =
    elim (cases_Bool (is_initiator (class_at classes i))) [
      | inl opens ↦ match_at-within classes i within opens
      | inr other ↦ rw (cond-false (is_initiator (class_at classes i)) (unwrap_or (match_of classes i) (length classes)) (length classes) other) (omega arith)
    ]

pub get_or-matches_of : (classes : List BidiClass) (i d : ℕ) → i < length classes → get_or (matches_of classes) i d ≡ match_at classes i
get_or-matches_of classes i d within = get_or-map-range_with_len (match_at classes) 0 (length classes) i i d within (omega arith)

-- if no strong character is outside all isolates, there is no first strong level
first_strong_level-none : (s : List BidiClass) → ((m : ℕ) → m < length s → (is_strong (class_at s m) && is_outside s m) ≡ false) → first_strong_level s ≡ None
first_strong_level-none s none =
    ap (option_map (λ m. strong_level (class_at s m)))
    (least_none (λ m. is_strong (class_at s m) && is_outside s m) 0 (length s) (λ m above below. none m (omega arith)))

-- if no range from the initiator at j to an index up to k is balanced, k is inside the initiator's isolate
module _ (s : List BidiClass) (j : ℕ) (within : j < length s) (opens : is_initiator (class_at s j) ≡ true) where
  spans : (k : ℕ) → j < k → ((m : ℕ) → j < m → m ≤ k → is_balanced s j m ≡ false) → is_outside s k ≡ false
  spans k after none =
      let unmatched : is_before k (match_of s j) ≡ true = least_misses (is_balanced s j) (j + 1) (length s - (j + 1)) k (λ m from to. none m (omega arith) to) in
      let in_span : is_in_span s k j ≡ true =
      and_from (is_initiator (class_at s j)) (nat_lt j k && is_before k (match_of s j)) opens (and_from (nat_lt j k) (is_before k (match_of s j)) (lt-ltb j k after) unmatched) in
      list_all_at (λ i. not (is_in_span s k i)) (range_with_len 0 k) j 0 (omega (arith, length-range_with_len 0 k))
      (ap (λ i. not (is_in_span s k i)) (get_or-range_with_len 0 k j 0 after ∙ zero-add j) ∙ not_from_true (is_in_span s k j) in_span)

  raised : opened s j + closed s (j + 1) < opened s (j + 1) + closed s j
  raised =
      let shuts : is_pdi (class_at s j) ≡ false = opens_shuts_none (class_at s j) opens in
      omega (arith, rw opens at (opened-next s j within), rw shuts at (closed-next s j within))

  -- the isolate depth at each index after an initiator, up to its match, is greater than the depth at the
  -- initiator
  higher : (k : ℕ) → k ≤ length s → ((m : ℕ) → j < m → m < k → is_balanced s j m ≡ false) → (m : ℕ) → j < m → m ≤ k → opened s j + closed s m < opened s m + closed s j
  higher k inside none m after upto =
      elim (cases_lt (opened s j + closed s m) (opened s m + closed s j)) [
        | inl high ↦ high
        | inr low ↦
            let back = returns_to (opened s) (closed s) j m (λ q l. steps s q (omega arith)) after raised low in
            absurd (both_ways (is_balanced s j back.0) (none back.0 back.1 (omega (arith, back.2))) (balanced s j back.0 (omega (arith, back.1)) back.3))
      ]

  -- no strong character before k is outside all isolates
  none_outside : (k : ℕ) → Reached s j 0 → ((m : ℕ) → j < m → m < k → is_balanced s j m ≡ false)
      → (m : ℕ) → m < k → (is_strong (class_at s m) && is_outside s m) ≡ false
  none_outside k reached none m below =
      elim (cases_lt m j) [
        | inl before ↦ reached.none m before
        | inr from ↦ elim (cases_eq j m) [
          | inl e ↦ rw (← e) (and_left (is_strong (class_at s j)) (is_outside s j) (opens_weak (class_at s j) opens))
          | inr ne ↦ and_right (is_strong (class_at s m)) (is_outside s m) (spans m (omega arith) (λ q after upto. none q after (omega arith)))
        ]
      ]

  -- if no range from the initiator is balanced, no strong character is outside all isolates
  pub none_after : Reached s j 0 → ((m : ℕ) → j < m → m < length s → is_balanced s j m ≡ false) → first_strong_level s ≡ None
  none_after reached none = first_strong_level-none s (none_outside (length s) reached none)

  -- after the match of an initiator at depth 0, the depth is 0 again
  pub Reached-jump : (k : ℕ) → j < k → k < length s → Reached s j 0 → ((m : ℕ) → j < m → m < k → is_balanced s j m ≡ false) → is_balanced s j k ≡ true → Reached s (k + 1) 0
  Reached-jump k after inside reached none here =
      let level : opened s (k + 1) + closed s j ≡ opened s j + closed s (k + 1) = level_at_match s j k (omega arith) here in
      let high = higher k (omega arith) none in
      record {
        bounded = omega arith;
        lowest = Lowest-fresh (opened s) (closed s) k (λ m h. elim (cases_lt j m) [
          | inr before ↦ omega (arith, Lowest-here (opened s) (closed s) j reached.lowest m before)
          | inl after ↦ omega (arith, high m after h)
        ]);
        none = λ m h. elim (cases_eq m k) [
          | inl e ↦ rw e (and_left (is_strong (class_at s k)) (is_outside s k) (false_from_ne_true (is_strong (class_at s k)) (λ strong. omega (
            arith,
            high k after (omega arith),
            rw (strong_opens_none (class_at s k) strong) at (opened-next s k inside),
            rw (strong_shuts_none (class_at s k) strong) at (closed-next s k inside),
          ))))
          | inr ne ↦ none_outside k reached none m (omega arith)
        ];
      }

-- The state of the search inside the isolate of an initiator. Up to the end of the isolate, no strong
-- character before `at` is outside the nested isolates. Past the end, the isolate has no such character.
pub record Walks (classes : List BidiClass) (initiator at : ℕ) : Type 0 where
  pub after : initiator < at
  pub bounded : at ≤ length classes + 1
  pub inside : at ≤ match_at classes initiator → Reached (span_of classes initiator) (at - (initiator + 1)) 0
  pub past : match_at classes initiator < at → first_strong_level (span_of classes initiator) ≡ None

module _ (classes : List BidiClass) (i : ℕ) (within : i < length classes) (opens : is_initiator (class_at classes i) ≡ true) where
  pub end-above : i < match_at classes i
  end-above =
      elim (cases_lt (match_at classes i) (length classes)) [
        | inl inside ↦ (balanced_at classes i within opens inside).0
        | inr past ↦ omega arith
      ]

  span-is : span_of classes i ≡ slice_range classes (i + 1) (match_at classes i)
  span-is = ap (slice_range classes (i + 1)) (sym (found classes i within opens))

  length-is : length (span_of classes i) ≡ match_at classes i - (i + 1)
  length-is = ap length span-is ∙ length-span classes (i + 1) (match_at classes i) (omega (arith, end-above)) (match_at-le classes i within)

  class-is : (at : ℕ) → i < at → at < match_at classes i → class_at (span_of classes i) (at - (i + 1)) ≡ class_at classes at
  class-is at after before =
      let e : i + 1 + (at - (i + 1)) ≡ at = omega arith in
      ap (λ s. class_at s (at - (i + 1))) span-is ∙ class_at-span classes (i + 1) (match_at classes i) (at - (i + 1)) (omega arith) ∙ ap (class_at classes) e

  balance-is : (at m : ℕ) → i < at → at ≤ m → m < match_at classes i → is_balanced (span_of classes i) (at - (i + 1)) (m - (i + 1)) ≡ is_balanced classes at m
  balance-is at m after order before =
      let e : i + 1 + (at - (i + 1)) ≡ at = omega arith in
      let f : i + 1 + (m - (i + 1)) ≡ m = omega arith in
      ap (λ s. is_balanced s (at - (i + 1)) (m - (i + 1))) span-is
      ∙ balanced-span classes (i + 1) (match_at classes i) (at - (i + 1)) (m - (i + 1)) (omega arith) (omega arith)
      ∙ ap (λ n. is_balanced classes n (i + 1 + (m - (i + 1)))) e ∙ ap (is_balanced classes at) f

  pub Walks-start : Walks classes i (i + 1)
  Walks-start = record {
    after = omega arith;
    bounded = omega arith;
    inside = λ h. let e : i + 1 - (i + 1) ≡ 0 = omega arith in rw e (Reached-start (span_of classes i));
    past = λ h. absurd (omega (arith, end-above));
  }

  pub Walks-strong : (at : ℕ) → at < match_at classes i → Walks classes i at → is_strong (class_at classes at) ≡ true
      → first_strong_level (span_of classes i) ≡ Some (strong_level (class_at classes at))
  Walks-strong at before walk strong =
      let here = class-is at walk.after before in
      let after = walk.after in
      Reached-strong (span_of classes i) (at - (i + 1)) (omega (arith, length-is)) (walk.inside (omega arith)) (ap is_strong here ∙ strong) ∙ ap (λ class. Some (strong_level class)) here

  -- the search moves on by one character if the character at `at` is neither strong nor an initiator
  pub Walks-step : (at : ℕ) → at < match_at classes i → Walks classes i at → is_strong (class_at classes at) ≡ false → is_initiator (class_at classes at) ≡ false → Walks classes i (at + 1)
  Walks-step at before walk weak other =
      let after = walk.after in
      let here = class-is at walk.after before in
      let reached = walk.inside (omega arith) in
      let next = Reached-next (span_of classes i) (at - (i + 1)) 0 (omega (arith, length-is)) reached
      (λ strong. absurd (both_ways (is_strong (class_at classes at)) weak (ap is_strong (sym here) ∙ strong))) in
      let flat : cond (is_initiator (class_at (span_of classes i) (at - (i + 1)))) (0 + 1) (cond (is_pdi (class_at (span_of classes i) (at - (i + 1)))) (0 - 1) 0) ≡ 0 =
      cond-false (is_initiator (class_at (span_of classes i) (at - (i + 1)))) (0 + 1) (cond (is_pdi (class_at (span_of classes i) (at - (i + 1)))) (0 - 1) 0) (ap is_initiator here ∙ other)
      ∙ cond_both (is_pdi (class_at (span_of classes i) (at - (i + 1)))) (0 - 1) 0 (λ n. n ≡ 0) (λ e. refl) (λ e. refl) in
      let place : at + 1 - (i + 1) ≡ at - (i + 1) + 1 = omega arith in
      record {
        after = omega arith;
        bounded = omega (arith, match_at-le classes i within);
        inside = λ h. rw place (rw flat at next);
        past = λ h. absurd (omega arith);
      }

  -- the search moves on past the match of a nested initiator
  pub Walks-jump : (at : ℕ) → at < match_at classes i → Walks classes i at → is_initiator (class_at classes at) ≡ true → Walks classes i (match_at classes at + 1)
  Walks-jump at before walk inner =
      let after = walk.after in
      let ends = match_at-le classes i within in
      let inside : at < length classes = omega arith in
      let j = at - (i + 1) in
      let s = span_of classes i in
      let within_span : j < length s = omega (arith, length-is) in
      let opens_there : is_initiator (class_at s j) ≡ true = ap is_initiator (class-is at after before) ∙ inner in
      let reached : Reached s j 0 = walk.inside (omega arith) in
      let none : (m : ℕ) → j < m → m < length s → m + (i + 1) < match_at classes at → is_balanced s j m ≡ false =
      λ m from to below.
      let e : m + (i + 1) - (i + 1) ≡ m = omega arith in
      ap (is_balanced s j) (sym e) ∙ balance-is at (m + (i + 1)) after (omega arith) (omega (arith, length-is)) ∙ unbalanced_before classes at inside inner (m + (i + 1)) (omega arith) below in
      elim (cases_lt (match_at classes at) (match_at classes i)) [
        | inl nested ↦
            let found_there = balanced_at classes at inside inner (omega arith) in
            let above : at < match_at classes at = found_there.0 in
            let k = match_at classes at - (i + 1) in
            let place : match_at classes at + 1 - (i + 1) ≡ k + 1 = omega arith in
            record {
              after = omega arith;
              bounded = omega arith;
              inside = λ h. rw place (Reached-jump s j within_span opens_there k (omega arith) (omega (arith, length-is)) reached
                  (λ m from to. none m from (omega (arith, length-is)) (omega arith)) (balance-is at (match_at classes at) after (omega arith) nested ∙ found_there.1));
              past = λ h. absurd (omega arith);
            }
        | inr past ↦ record {
          after = omega arith;
          bounded = omega (arith, match_at-le classes at inside);
          inside = λ h. absurd (omega arith);
          past = λ h. none_after s j within_span opens_there reached (λ m from to. none m from to (omega (arith, length-is)));
        }
      ]

  pub Walks-end : (at : ℕ) → match_at classes i ≤ at → Walks classes i at → first_strong_level (span_of classes i) ≡ None
  Walks-end at from walk =
      elim (cases_eq at (match_at classes i)) [
        | inl e ↦ Reached-end (span_of classes i) (at - (i + 1)) 0 (omega (arith, length-is)) (walk.inside (omega arith))
        | inr ne ↦ walk.past (omega arith)
      ]
