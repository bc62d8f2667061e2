-- The isolate depth at an index, from the counts of initiators and PDIs before each index.
use Rattle.std.proofs.Common.{◌≡◌, ℕ, zero, suc, ◌+◌, ◌-◌, ◌<◌, ◌≤◌, nat_lt, Bool, true, false, cond, ◌&&◌, not, List, ◌++◌, length, take, drop, count_by, slice_range, Some, None, option_map, refl, sym, ap, ◌∙◌, inl, inr, arith, add-one, zero-add, below_more}
use Rattle.std.specs.List.{list_all, range_with_len}
use Rattle.std.proofs.lemmas.Bool.{cases_Bool, cases_eq, cases_lt, lt-ltb, eq-eqb, eqb-true, ne_eqb, and_from, and_left, and_right, not_from_true, not_from_false, cond_both, true_from_ne_false, true≢false}
use Rattle.std.proofs.lemmas.List.{take-append-drop, take-take, drop-take}
use Rattle.std.proofs.lemmas.List.Sums.{sum_by-append, sum_by_more}
use Rattle.std.proofs.lemmas.List.Folds.{list_all_at}
use Rattle.std.proofs.lemmas.List.FromFn.{length-range_with_len, get_or-range_with_len}
use Rattle.ucd.specs.declared.bidi_class.BidiClass.{BidiClass}
use Rattle.ucd.specs.declared.bidi_class.BidiClass.TheVariants.{LRI, RLI, FSI, PDI, ON}
use Rattle.ucd.specs.Classes.{class_at, is_initiator, is_pdi, is_strong}
use Rattle.bidi.specs.Base.{is_balanced, match_of, is_before, is_in_span, is_outside, strong_level, first_strong_level}
use Rattle.bidi.proofs.LeastLemmas.{least_found, least_none, least_reaches, least_misses}

-- The height of an index m is `o m` minus `s m`, and may be negative. The last lowest index up to k is the
-- last index up to k with the least height. Its height is d less than the height of k.
pub record Lowest (o s : ℕ → ℕ) (k d : ℕ) : Type 0 where
  pub place : ℕ
  pub reached : place ≤ k
  pub depth : o k + s place ≡ o place + s k + d
  pub lowest : (m : ℕ) → m ≤ place → o place + s m ≤ o m + s place
  pub above : (m : ℕ) → place < m → m ≤ k → o place + s m < o m + s place

-- no index up to k is lower than the last lowest index
pub Lowest-all : (o s : ℕ → ℕ) (k d : ℕ) (low : Lowest o s k d) (m : ℕ) → m ≤ k → o low.place + s m ≤ o m + s low.place
Lowest-all o s k d low m h =
    elim (cases_lt low.place m) [ inl up ↦ omega (arith, low.above m up h) | inr down ↦ low.lowest m down ]

-- if no index before k + 1 is lower, k + 1 is the last lowest index
pub Lowest-fresh : (o s : ℕ → ℕ) (k : ℕ) → ((m : ℕ) → m ≤ k → o (k + 1) + s m ≤ o m + s (k + 1)) → Lowest o s (k + 1) 0
Lowest-fresh o s k none = record {
  place = k + 1;
  reached = omega arith;
  depth = omega arith;
  lowest = λ m h. elim (cases_eq m (k + 1)) [ inl e ↦ rw e (omega arith) | inr ne ↦ none m (omega arith) ];
  above = λ m h l. absurd (omega arith);
}

-- if k + 1 is higher than the last lowest index, that index stays the last lowest one
Lowest-kept : (o s : ℕ → ℕ) (k d e : ℕ) (low : Lowest o s k d) → o (k + 1) + s low.place ≡ o low.place + s (k + 1) + e → 0 < e → Lowest o s (k + 1) e
Lowest-kept o s k d e low next some = record {
  place = low.place;
  reached = let r = low.reached in omega arith;
  depth = next;
  lowest = low.lowest;
  above = λ m h l. elim (cases_eq m (k + 1)) [ inl last ↦ rw last (omega arith) | inr ne ↦ low.above m h (omega arith) ];
}

-- if the depth at k is 0, no index up to k is lower than k
pub Lowest-here : (o s : ℕ → ℕ) (k : ℕ) (low : Lowest o s k 0) (m : ℕ) → m ≤ k → o k + s m ≤ o m + s k
Lowest-here o s k low m h = omega (arith, Lowest-all o s k 0 low m h, low.depth)

-- if index i is followed by a step up, and k is not higher than i, some step between them returns to the height of i
pub returns_to : (o s : ℕ → ℕ) (i k : ℕ) (steps : (m : ℕ) → m < k → (o m ≤ o (m + 1)) × (s (m + 1) ≤ s m + 1)) → i < k
    → o i + s (i + 1) < o (i + 1) + s i → o k + s i ≤ o i + s k
    → (j : ℕ) × (i < j) × (j < k) × (o (j + 1) + s i ≡ o i + s (j + 1))
returns_to o s i zero steps before up down = absurd (omega arith)
returns_to o s i (suc k) steps before up down =
    elim (cases_eq i k) [
      | inl e ↦ absurd (omega (arith, rw (e, add-one) at up, rw e at down))
      | inr ne ↦ elim (cases_lt (o i + s k) (o k + s i)) [
        | inl high ↦ (k, omega arith, omega arith, let last : o (k + 1) + s i ≤ o i + s (k + 1) = rw add-one down in omega (arith, steps k (omega arith)))
        | inr low ↦ let rest = returns_to o s i k (λ m h. steps m (omega arith)) (omega arith) up low in (rest.0, rest.1, omega (arith, rest.2), rest.3)
      ]
    ]

-- if the depth at k is above 0, the last lowest index is before k
pub Lowest-below : (o s : ℕ → ℕ) (k d : ℕ) (low : Lowest o s k d) → 0 < d → low.place < k
Lowest-below o s k d low deep =
    elim (cases_eq low.place k) [ inl e ↦ absurd (omega (arith, rw e at low.depth)) | inr ne ↦ omega (arith, low.reached) ]

-- an initiator raises the depth by 1, a PDI lowers it by 1 unless it is 0, and other classes leave it
-- unchanged
Lowest-next : (o s : ℕ → ℕ) (k d : ℕ) (opens shuts : Bool) → (opens && shuts) ≡ false
    → o (k + 1) ≡ o k + cond opens 1 0 → s (k + 1) ≡ s k + cond shuts 1 0 → Lowest o s k d
    → Lowest o s (k + 1) (cond opens (d + 1) (cond shuts (d - 1) d))
Lowest-next o s k d true true one up down low = absurd (true≢false one)
Lowest-next o s k d true false one up down low = Lowest-kept o s k d (d + 1) low (omega (arith, low.depth)) (omega arith)
Lowest-next o s k d false true one up down low =
    elim (cases_lt 1 d) [
      | inl deep ↦ Lowest-kept o s k d (d - 1) low (omega (arith, low.depth)) (omega arith)
      | inr flat ↦ let e : d - 1 ≡ 0 = omega arith in rw e (Lowest-fresh o s k (λ m h. omega (arith, Lowest-all o s k d low m h, low.depth)))
    ]
Lowest-next o s k d false false one up down low =
    elim (cases_lt 0 d) [
      | inl deep ↦ Lowest-kept o s k d d low (omega (arith, low.depth)) deep
      | inr flat ↦ let e : d ≡ 0 = omega arith in rw e (Lowest-fresh o s k (λ m h. omega (arith, Lowest-all o s k d low m h, low.depth)))
    ]

-- the number of initiators before an index, and the number of PDIs before it
pub opened : List BidiClass → ℕ → ℕ
opened classes k = count_by is_initiator (take k classes)

pub closed : List BidiClass → ℕ → ℕ
closed classes k = count_by is_pdi (take k classes)

pub opened-next : (classes : List BidiClass) (k : ℕ) → k < length classes → opened classes (k + 1) ≡ opened classes k + cond (is_initiator (class_at classes k)) 1 0
unfolding opened
opened-next classes k h = sum_by_more (λ x. cond (is_initiator x) 1 0) classes k ON h

pub closed-next : (classes : List BidiClass) (k : ℕ) → k < length classes → closed classes (k + 1) ≡ closed classes k + cond (is_pdi (class_at classes k)) 1 0
unfolding closed
closed-next classes k h = sum_by_more (λ x. cond (is_pdi x) 1 0) classes k ON h

-- an initiator is not a PDI, and neither of them is strong
pub opens_or_shuts : (class : BidiClass) → (is_initiator class && is_pdi class) ≡ false
opens_or_shuts PDI = refl
opens_or_shuts LRI = refl
opens_or_shuts RLI = refl
opens_or_shuts FSI = refl
opens_or_shuts _ = refl

pub opens_shuts_none : (class : BidiClass) → is_initiator class ≡ true → is_pdi class ≡ false
opens_shuts_none PDI h = sym h
opens_shuts_none _ h = refl

pub strong_opens_none : (class : BidiClass) → is_strong class ≡ true → is_initiator class ≡ false
strong_opens_none LRI h = sym h
strong_opens_none RLI h = sym h
strong_opens_none FSI h = sym h
strong_opens_none _ h = refl

pub strong_shuts_none : (class : BidiClass) → is_strong class ≡ true → is_pdi class ≡ false
strong_shuts_none PDI h = sym h
strong_shuts_none _ h = refl

-- the count in a range is the difference between the counts before its end and before its start
pub count-slice_range : (p : BidiClass → Bool) (xs : List BidiClass) (i j : ℕ) → i ≤ j
    → count_by p (take j xs) ≡ count_by p (take i xs) + count_by p (slice_range xs i j)
count-slice_range p xs i j h =
    let e : i + (j - i) ≡ j = omega arith in
    let whole : take i xs ++ take (j - i) (drop i xs) ≡ take j xs =
    ap (λ ys. ys ++ take (j - i) (drop i xs)) (sym (take-take i j xs h))
    ∙ ap (λ ys. take i (take j xs) ++ ys) (sym (drop-take i (j - i) xs) ∙ ap (λ n. drop i (take n xs)) e)
    ∙ take-append-drop i (take j xs) in
    ap (count_by p) (sym whole) ∙ sum_by-append (λ x. cond (p x) 1 0) (take i xs) (take (j - i) (drop i xs))

pub balanced : (classes : List BidiClass) (i j : ℕ) → i ≤ j + 1 → opened classes (j + 1) + closed classes i ≡ opened classes i + closed classes (j + 1) → is_balanced classes i j ≡ true
unfolding opened closed
balanced classes i j h e =
    eq-eqb _ _ (omega (arith, e, count-slice_range is_initiator classes i (j + 1) h, count-slice_range is_pdi classes i (j + 1) h))

pub unbalanced : (classes : List BidiClass) (i j : ℕ) → i ≤ j + 1 → opened classes i + closed classes (j + 1) < opened classes (j + 1) + closed classes i → is_balanced classes i j ≡ false
unfolding opened closed
unbalanced classes i j h l =
    ne_eqb _ _ (λ e. omega (arith, e, l, count-slice_range is_initiator classes i (j + 1) h, count-slice_range is_pdi classes i (j + 1) h))

-- a balanced range begins and ends at the same height
pub level_at_match : (s : List BidiClass) (j k : ℕ) → j ≤ k + 1 → is_balanced s j k ≡ true → opened s (k + 1) + closed s j ≡ opened s j + closed s (k + 1)
unfolding opened closed
level_at_match s j k order here =
    let e : count_by is_initiator (slice_range s j (k + 1)) ≡ count_by is_pdi (slice_range s j (k + 1)) = eqb-true _ _ here in
    omega (arith, e, count-slice_range is_initiator s j (k + 1) order, count-slice_range is_pdi s j (k + 1) order)

-- if each number of a range passes a test, `list_all` is true for the range
list_all-range : (p : ℕ → Bool) (low count : ℕ) → ((i : ℕ) → low ≤ i → i < low + count → p i ≡ true) → list_all p (range_with_len low count) ≡ true
list_all-range p low zero each = refl
list_all-range p low (suc count) each =
    and_from (p low) (list_all p (range_with_len (low + 1) count)) (each low (omega arith) (omega arith))
    (list_all-range p (low + 1) count (λ i above below. each i (omega arith) (omega arith)))

-- from one index to the next, the count of initiators does not decrease, and the count of PDIs increases by at most one
pub steps : (classes : List BidiClass) (k : ℕ) → k < length classes → (opened classes k ≤ opened classes (k + 1)) × (closed classes (k + 1) ≤ closed classes k + 1)
steps classes k h = (
  omega (arith, opened-next classes k h),
  omega (arith, closed-next classes k h, cond_both (is_pdi (class_at classes k)) 1 0 (λ n. n ≤ 1) (λ e. omega arith) (λ e. omega arith)),
)

-- if the depth at k is 0, each initiator before k has its match before k
matched : (classes : List BidiClass) (k : ℕ) → k ≤ length classes → Lowest (opened classes) (closed classes) k 0
    → (i : ℕ) → i < k → is_initiator (class_at classes i) ≡ true → is_before k (match_of classes i) ≡ false
matched classes k within low i below opens =
    let shuts : is_pdi (class_at classes i) ≡ false = opens_shuts_none (class_at classes i) opens in
    let up : opened classes i + closed classes (i + 1) < opened classes (i + 1) + closed classes i =
    omega (arith, rw opens at (opened-next classes i (omega arith)), rw shuts at (closed-next classes i (omega arith))) in
    let found = returns_to (opened classes) (closed classes) i k (λ m h. steps classes m (omega arith)) below up (Lowest-here (opened classes) (closed classes) k low i (omega arith)) in
    least_reaches (is_balanced classes i) (i + 1) (length classes - (i + 1)) found.0 k (omega (arith, found.1)) (omega (arith, found.1, found.2))
    (balanced classes i found.0 (omega (arith, found.1)) found.3) (omega (arith, found.2))

-- an index at depth 0 is outside all isolates
outside_at_none : (classes : List BidiClass) (k : ℕ) → k ≤ length classes → Lowest (opened classes) (closed classes) k 0 → is_outside classes k ≡ true
outside_at_none classes k within low =
    list_all-range (λ i. not (is_in_span classes k i)) 0 k
    (λ i above below. not_from_false (is_in_span classes k i) (
    elim (cases_Bool (is_initiator (class_at classes i))) [
      | inl opens ↦ and_right (is_initiator (class_at classes i)) (nat_lt i k && is_before k (match_of classes i))
          (and_right (nat_lt i k) (is_before k (match_of classes i)) (matched classes k within low i (omega arith) opens))
      | inr other ↦ and_left (is_initiator (class_at classes i)) (nat_lt i k && is_before k (match_of classes i)) other
    ]
    ))

-- a strong character at a depth above 0 is inside the isolate of the initiator at the last lowest index
inside_at_some : (classes : List BidiClass) (k d : ℕ) → k < length classes → Lowest (opened classes) (closed classes) k d → 0 < d
    → is_strong (class_at classes k) ≡ true → is_outside classes k ≡ false
inside_at_some classes k d within low deep strong =
    let i = low.place in
    let below : i < k = Lowest-below (opened classes) (closed classes) k d low deep in
    let opens : is_initiator (class_at classes i) ≡ true =
    true_from_ne_false (is_initiator (class_at classes i)) (λ e. omega (
      arith,
      low.above (i + 1) (omega arith) (omega arith),
      rw e at (opened-next classes i (omega arith)),
      closed-next classes i (omega arith),
    )) in
    let level : opened classes (k + 1) ≡ opened classes k + 0 = rw (strong_opens_none (class_at classes k) strong) at (opened-next classes k within) in
    let flat : closed classes (k + 1) ≡ closed classes k + 0 = rw (strong_shuts_none (class_at classes k) strong) at (closed-next classes k within) in
    let unmatched : is_before k (match_of classes i) ≡ true =
    least_misses (is_balanced classes i) (i + 1) (length classes - (i + 1)) k (λ m from to.
    unbalanced classes i m (omega arith) (elim (cases_lt m k) [
      | inl before ↦ low.above (m + 1) (omega arith) (omega arith)
      | inr last ↦ let e : m ≡ k = omega arith in rw e (omega (arith, level, flat, low.above k below (omega arith)))
    ])) in
    let spans : is_in_span classes k i ≡ true =
    and_from (is_initiator (class_at classes i)) (nat_lt i k && is_before k (match_of classes i)) opens
    (and_from (nat_lt i k) (is_before k (match_of classes i)) (lt-ltb i k below) unmatched) in
    list_all_at (λ j. not (is_in_span classes k j)) (range_with_len 0 k) i 0 (omega (arith, length-range_with_len 0 k))
    (ap (λ j. not (is_in_span classes k j)) (get_or-range_with_len 0 k i 0 below ∙ zero-add i) ∙ not_from_true (is_in_span classes k i) spans)

-- the state of the search at index k and depth d: no strong character before k is outside all isolates
pub record Reached (classes : List BidiClass) (k d : ℕ) : Type 0 where
  pub bounded : d ≤ k
  pub lowest : Lowest (opened classes) (closed classes) k d
  pub none : (m : ℕ) → m < k → (is_strong (class_at classes m) && is_outside classes m) ≡ false

pub Reached-start : (classes : List BidiClass) → Reached classes 0 0
Reached-start classes = record {
  bounded = omega arith;
  lowest = record {
    place = 0;
    reached = omega arith;
    depth = omega arith;
    lowest = λ m h. let e : m ≡ 0 = omega arith in rw e (omega arith);
    above = λ m h l. absurd (omega arith);
  };
  none = λ m h. absurd (omega arith);
}

-- the search moves on to k + 1 if the character at k is not strong or is inside an isolate
pub Reached-next : (classes : List BidiClass) (k d : ℕ) → k < length classes → Reached classes k d → (is_strong (class_at classes k) ≡ true → 0 < d)
    → Reached classes (k + 1) (cond (is_initiator (class_at classes k)) (d + 1) (cond (is_pdi (class_at classes k)) (d - 1) d))
Reached-next classes k d within reached deep = record {
  bounded = cond_both (is_initiator (class_at classes k)) (d + 1) (cond (is_pdi (class_at classes k)) (d - 1) d) (λ e. e ≤ k + 1)
      (λ e. omega (arith, reached.bounded))
      (λ e. cond_both (is_pdi (class_at classes k)) (d - 1) d (λ e. e ≤ k + 1) (λ e. omega (arith, reached.bounded)) (λ e. omega (arith, reached.bounded)));
  lowest = Lowest-next (opened classes) (closed classes) k d (is_initiator (class_at classes k)) (is_pdi (class_at classes k)) (opens_or_shuts (class_at classes k))
      (opened-next classes k within) (closed-next classes k within) reached.lowest;
  none = below_more (λ m. (is_strong (class_at classes m) && is_outside classes m) ≡ false) k reached.none (
      elim (cases_Bool (is_strong (class_at classes k))) [
        | inl strong ↦ and_right (is_strong (class_at classes k)) (is_outside classes k) (inside_at_some classes k d within reached.lowest (deep strong) strong)
        | inr weak ↦ and_left (is_strong (class_at classes k)) (is_outside classes k) weak
      ]);
}

-- a strong character at depth 0 is the first one outside all isolates
pub Reached-strong : (classes : List BidiClass) (k : ℕ) → k < length classes → Reached classes k 0 → is_strong (class_at classes k) ≡ true
    → first_strong_level classes ≡ Some (strong_level (class_at classes k))
Reached-strong classes k within reached strong =
    ap (option_map (λ m. strong_level (class_at classes m)))
    (least_found (λ m. is_strong (class_at classes m) && is_outside classes m) 0 (length classes) k (omega arith) (omega arith)
    (and_from (is_strong (class_at classes k)) (is_outside classes k) strong (outside_at_none classes k (omega arith) reached.lowest))
    (λ m above below. reached.none m below))

-- if the search reaches the end, no strong character is outside all isolates
pub Reached-end : (classes : List BidiClass) (k d : ℕ) → length classes ≤ k → Reached classes k d → first_strong_level classes ≡ None
Reached-end classes k d end reached =
    ap (option_map (λ m. strong_level (class_at classes m)))
    (least_none (λ m. is_strong (class_at classes m) && is_outside classes m) 0 (length classes) (λ m above below. reached.none m (omega arith)))
