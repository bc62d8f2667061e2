-- The pass that finds bracket pairs. It keeps a list of the live openers, the newest last.
use Rattle.std.proofs.Common.{◌≡◌, ◌≢◌, ℕ, zero, suc, ◌+◌, ◌<◌, ◌≤◌, ◌⊎◌, ◌==◌, nat_lt, nat_le, Bool, true, false, ◌&&◌, ◌||◌, not, List, ◌++◌, ◌∷◌, [], map, length, take, get_or, fold, Option, Some, None, unwrap_or, if◌then◌else◌, count_by, refl, sym, ap, subst, ◌∙◌, inl, inr, arith}
use Rattle.std.specs.List.{list_any, range_with_len}
use Rattle.std.proofs.lemmas.Bool.{cond-true, cond-false, false≢true, cases_Bool, cases_eq, cases_lt, and_left, and_right, and_from, and_parts, both_ways, eq-eqb, ne_eqb, le-leb, lt-leb, le-ltb, or_left, or_right, or_from, not-true, not_from_true, not_from_false, false_from_ne_true}
use Rattle.std.proofs.lemmas.List.{append-nil, get_or_append_left, get_or_push, length_push, get_or-take, take-append-le}
use Rattle.std.proofs.lemmas.List.Sums.{sum_by-append}
use Rattle.std.proofs.Math.Seq.{take-append_seam}
use Rattle.std.proofs.lemmas.Bool.{eqb-true, lt-ltb}
use Rattle.std.proofs.lemmas.List.{length-map, map-append, take-map, get_or-set_same, get_or-set_other, length-set, length-take-le}
use Rattle.std.proofs.lemmas.List.Folds.{list_any-append}
use Rattle.std.proofs.lemmas.List.FromFn.{fill_by_all, length-map-range_with_len, get_or-map-range_with_len}
use Rattle.std.proofs.Math.ListN.{set}
use Rattle.ucd.specs.declared.bidi_class.BidiClass.{BidiClass}
use Rattle.ucd.specs.declared.bidi_class.BidiClass.TheVariants.{ON}
use Rattle.ucd.specs.declared.bracket.Bracket.{Bracket}
use Rattle.bidi.specs.declared.brackets.Opener.{Opener}
use Rattle.bidi.specs.Brackets.{Pair, canonical, closer_of, fits, greatest, is_closer, is_closing, is_full, is_live, is_opener, is_opening, is_other, is_pair_of, paired_with, pairs_before, pairs_of}
use Rattle.ucd.specs.Classes.{class_at}
use Rattle.ucd.specs.Least.{least}
use Rattle.bidi.specs.Closers.{AreNested, closer_in, closers_of, left_by, newest, pair_of}
use Rattle.bidi.proofs.LeastLemmas.{least_found, least_none, least_within}

-- `greatest` finds the greatest number below n that passes the test
pub greatest_here : (test : ℕ → Bool) (k n : ℕ) → n ≡ k + 1 → test k ≡ true → greatest test n ≡ Some k
greatest_here test k n e here =
    let f : n ≡ suc k = omega arith in
    ap (greatest test) f ∙ cond-true (test k) (Some k) (greatest test k) here

pub greatest_next : (test : ℕ → Bool) (k n : ℕ) → n ≡ k + 1 → test k ≡ false → greatest test n ≡ greatest test k
greatest_next test k n e here =
    let f : n ≡ suc k = omega arith in
    ap (greatest test) f ∙ cond-false (test k) (Some k) (greatest test k) here

pub greatest_found : (test : ℕ → Bool) (k m : ℕ) → greatest test k ≡ Some m → (m < k) × (test m ≡ true)
greatest_found test zero m e = absurd (cc)
greatest_found test (suc k) m e =
    elim (cases_Bool (test k)) [
      | inl passed ↦
          let f : Some k ≡ Some m = sym (cond-true (test k) (Some k) (greatest test k) passed) ∙ e in
          let same : k ≡ m = cc in
          (omega arith, rw (← same) passed)
      | inr failed ↦
          let rest = greatest_found test k m (sym (cond-false (test k) (Some k) (greatest test k) failed) ∙ e) in
          (omega (arith, rest.0), rest.1)
    ]

-- the numbers below k that pass a test, in ascending order
abbrev pub lives : (ℕ → Bool) → ℕ → List ℕ
lives live zero = []
lives live (suc k) = lives live k ++ (if live k then k ∷ [] else [])

pub lives-yes : (live : ℕ → Bool) (k : ℕ) → live k ≡ true → lives live (suc k) ≡ lives live k ++ k ∷ []
lives-yes live k e = ap (λ l. lives live k ++ l) (cond-true (live k) (k ∷ []) [] e)

pub lives-no : (live : ℕ → Bool) (k : ℕ) → live k ≡ false → lives live (suc k) ≡ lives live k
lives-no live k e = ap (λ l. lives live k ++ l) (cond-false (live k) (k ∷ []) [] e) ∙ append-nil (lives live k)

pub lives-same : (live other : ℕ → Bool) (k : ℕ) → ((i : ℕ) → i < k → live i ≡ other i) → lives live k ≡ lives other k
lives-same live other zero same = refl
lives-same live other (suc k) same =
    ap (λ l. l ++ (if live k then k ∷ [] else [])) (lives-same live other k (λ i h. same i (omega arith)))
    ∙ ap (λ b. lives other k ++ (if b then k ∷ [] else [])) (same k (omega arith))

pub lives-item : (live : ℕ → Bool) (k m : ℕ) → m < length (lives live k) → (get_or (lives live k) m 0 < k) × (live (get_or (lives live k) m 0) ≡ true)
lives-item live zero m h = absurd (omega arith)
lives-item live (suc k) m h =
    elim (cases_Bool (live k)) [
      | inl passed ↦
          let e = lives-yes live k passed in
          elim (cases_eq m (length (lives live k))) [
            | inl last ↦ let top : get_or (lives live k ++ k ∷ []) m 0 ≡ k = get_or_push (lives live k) k 0 m (sym last) in rw (e, top) (omega arith, passed)
            | inr ne ↦
                let lt : m < length (lives live k) = omega (arith, ap length e, length_push (lives live k) k) in
                let rest = lives-item live k m lt in
                rw (e, get_or_append_left) (omega (arith, rest.0), rest.1)
          ]
      | inr failed ↦
          let e = lives-no live k failed in
          let rest = lives-item live k m (rw e at h) in
          rw e (omega (arith, rest.0), rest.1)
    ]

pub range-more : (a n : ℕ) → range_with_len a (suc n) ≡ range_with_len a n ++ (a + n) ∷ []
range-more a zero = let e : a ≡ a + 0 = omega arith in ap (λ i. i ∷ []) e
range-more a (suc n) =
    let e : a + 1 + n ≡ a + suc n = omega arith in
    ap (λ (l : List ℕ). a ∷ l) (range-more (a + 1) n ∙ ap (λ i. range_with_len (a + 1) n ++ i ∷ []) e)

pub length-lives : (live : ℕ → Bool) (k : ℕ) → count_by live (range_with_len 0 k) ≡ length (lives live k)
length-lives live zero = refl
length-lives live (suc k) =
    let low : 0 + k ≡ k = omega arith in
    let step : count_by live (range_with_len 0 (suc k)) ≡ count_by live (range_with_len 0 k) + (if live k then 1 else 0) =
    ap (count_by live) (range-more 0 k ∙ ap (λ i. range_with_len 0 k ++ i ∷ []) low)
    ∙ sum_by-append (λ x. if live x then 1 else 0) (range_with_len 0 k) (k ∷ []) ∙ omega arith in
    elim (cases_Bool (live k)) [
      | inl passed ↦ omega (arith, step, cond-true {A = ℕ} (live k) 1 0 passed, length-lives live k, ap length (lives-yes live k passed), length_push (lives live k) k)
      | inr failed ↦ omega (arith, step, cond-false {A = ℕ} (live k) 1 0 failed, length-lives live k, ap length (lives-no live k failed))
    ]

-- the item at the given index, if an index is given
abbrev pub item_of : List ℕ → Option ℕ → Option ℕ
item_of items (Some m) = Some (get_or items m 0)
item_of items None = None

item_of-push : (items : List ℕ) (k : ℕ) (found : Option ℕ) → ((m : ℕ) → found ≡ Some m → m < length items) → item_of (items ++ k ∷ []) found ≡ item_of items found
item_of-push items k None within = refl
item_of-push items k (Some m) within = let h : m < length items = within m refl in ap Some (get_or_append_left items (k ∷ []) 0 m h)

-- the greatest number below k that passes both tests can be found by searching the list of the numbers that
-- pass the first one
pub lives-greatest : (live fit test : ℕ → Bool) (k : ℕ) → ((m : ℕ) → m < length (lives live k) → fit (get_or (lives live k) m 0) ≡ test m)
    → greatest (λ i. live i && fit i) k ≡ item_of (lives live k) (greatest test (length (lives live k)))
lives-greatest live fit test zero same = refl
lives-greatest live fit test (suc k) same =
    let both = λ (i : ℕ). live i && fit i in
    elim (cases_Bool (live k)) [
      | inl passed ↦
          let e = lives-yes live k passed in
          let size : length (lives live (suc k)) ≡ length (lives live k) + 1 = ap length e ∙ length_push (lives live k) k in
          let top : get_or (lives live (suc k)) (length (lives live k)) 0
          ≡ k = ap (λ (l : List ℕ). get_or l (length (lives live k)) 0) e
          ∙ get_or_push (lives live k) k 0 (length (lives live k)) refl in
          let last : fit k ≡ test (length (lives live k)) = ap fit (sym top) ∙ same (length (lives live k)) (omega arith) in
          elim (cases_Bool (fit k)) [
            | inl fits ↦
                greatest_here both k (suc k) (omega arith) (and_from (live k) (fit k) passed fits)
                ∙ sym (ap (item_of (lives live (suc k))) (greatest_here test (length (lives live k)) (length (lives live (suc k))) size (sym last ∙ fits)) ∙ ap Some top)
            | inr misses ↦
                let below = λ (m : ℕ) (h : m < length (lives live k)).
                sym (ap fit (ap (λ (l : List ℕ). get_or l m 0) e ∙ get_or_append_left (lives live k) (k ∷ []) 0 m h)) ∙ same m (omega arith) in
                greatest_next both k (suc k) (omega arith) (and_right (live k) (fit k) misses)
                ∙ lives-greatest live fit test k below
                ∙ sym (ap (item_of (lives live (suc k))) (greatest_next test (length (lives live k)) (length (lives live (suc k))) size (sym last ∙ misses))
                ∙ ap (λ (l : List ℕ). item_of l (greatest test (length (lives live k)))) e
                ∙ item_of-push (lives live k) k (greatest test (length (lives live k))) (λ m found. (greatest_found test (length (lives live k)) m found).0))
          ]
      | inr failed ↦
          let e = lives-no live k failed in
          greatest_next both k (suc k) (omega arith) (and_left (live k) (fit k) failed)
          ∙ lives-greatest live fit test k (λ m h. sym (ap (λ (l : List ℕ). fit (get_or l m 0)) e) ∙ same m (omega (arith, ap length e)))
          ∙ ap (λ (l : List ℕ). item_of l (greatest test (length l))) (sym e)
    ]

-- Let x be item m of the list of `live`. If `other` agrees with `live` below x and fails for each number from
-- x on, the list of `other` is the first m items of the list of `live`.
pub lives-cut : (live other : ℕ → Bool) (k m : ℕ) → m < length (lives live k)
    → ((i : ℕ) → i < get_or (lives live k) m 0 → other i ≡ live i) → ((i : ℕ) → get_or (lives live k) m 0 ≤ i → i < k → other i ≡ false)
    → lives other k ≡ take m (lives live k)
lives-cut live other zero m h below after = absurd (omega arith)
lives-cut live other (suc k) m h below after =
    elim (cases_Bool (live k)) [
      | inl passed ↦
          let e = lives-yes live k passed in
          elim (cases_eq m (length (lives live k))) [
            | inl last ↦
                let top : get_or (lives live (suc k)) m 0 ≡ k = ap (λ (l : List ℕ). get_or l m 0) e ∙ get_or_push (lives live k) k 0 m (sym last) in
                lives-no other k (after k (omega arith) (omega arith))
                ∙ lives-same other live k (λ i lt. below i (omega arith))
                ∙ sym (ap (take m) e ∙ ap (λ n. take n (lives live k ++ k ∷ [])) last ∙ take-append_seam (lives live k) (k ∷ []))
            | inr ne ↦
                let lt : m < length (lives live k) = omega (arith, ap length e, length_push (lives live k) k) in
                let same : get_or (lives live (suc k)) m 0 ≡ get_or (lives live k) m 0 = ap (λ (l : List ℕ). get_or l m 0) e ∙ get_or_append_left (lives live k) (k ∷ []) 0 m lt in
                let inside = (lives-item live k m lt).0 in
                lives-no other k (after k (omega (arith, inside)) (omega arith))
                ∙ lives-cut live other k m lt (λ i b. below i (omega arith)) (λ i a b. after i (omega arith) (omega arith))
                ∙ sym (ap (take m) e ∙ take-append-le m (lives live k) (k ∷ []) (omega arith))
          ]
      | inr failed ↦
          let e = lives-no live k failed in
          let lt : m < length (lives live k) = omega (arith, ap length e) in
          let same : get_or (lives live (suc k)) m 0 ≡ get_or (lives live k) m 0 = ap (λ (l : List ℕ). get_or l m 0) e in
          let inside = (lives-item live k m lt).0 in
          lives-no other k (after k (omega (arith, inside)) (omega arith))
          ∙ lives-cut live other k m lt (λ i b. below i (omega arith)) (λ i a b. after i (omega arith) (omega arith))
          ∙ sym (ap (take m) e)
    ]

pub cases_Option : (o : Option ℕ) → (o ≡ None) ⊎ ((x : ℕ) × (o ≡ Some x))
cases_Option None = inl refl
cases_Option (Some x) = inr (x, refl)

pub or-no : (x y : Bool) → y ≡ false → (x || y) ≡ x
or-no true y e = refl
or-no false y e = e

-- whether a pair in the list covers the index i: it opens at or before i, and closes after i
abbrev pub covers : List Pair → ℕ → Bool
covers pairs i = list_any (λ (pair : Pair). nat_le pair.opener i && nat_lt i pair.closer) pairs

abbrev pub with_pair : List Pair → ℕ → ℕ → List Pair
with_pair pairs i j = pairs ++ record { opener = i; closer = j } ∷ []

-- after a pair has been added, its opener has its closer, and other openers keep theirs
pub closer_of-at : (pairs : List Pair) (i j : ℕ) → closer_of pairs i ≡ None → closer_of (with_pair pairs i j) i ≡ Some j
closer_of-at [] i j none = cond-true (i == i) (Some j) None (eq-eqb i i refl)
closer_of-at (p ∷ pairs) i j none =
    elim (cases_Bool (p.opener == i)) [
      | inl same ↦ let e = sym (cond-true (p.opener == i) (Some p.closer) (closer_of pairs i) same) ∙ none in absurd (cc)
      | inr other ↦
          cond-false (p.opener == i) (Some p.closer) (closer_of (with_pair pairs i j) i) other
          ∙ closer_of-at pairs i j (sym (cond-false (p.opener == i) (Some p.closer) (closer_of pairs i) other) ∙ none)
    ]

pub closer_of-past : (pairs : List Pair) (i j x : ℕ) → i ≢ x → closer_of (with_pair pairs i j) x ≡ closer_of pairs x
closer_of-past [] i j x ne = cond-false (i == x) (Some j) None (ne_eqb i x ne)
closer_of-past (p ∷ pairs) i j x ne = ap (λ o. if p.opener == x then Some p.closer else o) (closer_of-past pairs i j x ne)

pub covers-from : (pairs : List Pair) (a j i : ℕ) → closer_of pairs a ≡ Some j → a ≤ i → i < j → covers pairs i ≡ true
covers-from [] a j i e from to = absurd (cc)
covers-from (p ∷ pairs) a j i e from to =
    elim (cases_Bool (p.opener == a)) [
      | inl same ↦
          let f : Some p.closer ≡ Some j = sym (cond-true (p.opener == a) (Some p.closer) (closer_of pairs a) same) ∙ e in
          let g : p.closer ≡ j = cc in
          let h : p.opener ≡ a = eqb-true p.opener a same in
          or_left (nat_le p.opener i && nat_lt i p.closer) (covers pairs i)
          (and_from (nat_le p.opener i) (nat_lt i p.closer) (le-leb p.opener i (omega arith)) (lt-ltb i p.closer (omega arith)))
      | inr other ↦
          or_right (nat_le p.opener i && nat_lt i p.closer) (covers pairs i)
          (covers-from pairs a j i (sym (cond-false (p.opener == a) (Some p.closer) (closer_of pairs a) other) ∙ e) from to)
    ]

-- after a pair has been added, an index is covered if and only if it was covered before or the new pair
-- covers it
covers-with : (pairs : List Pair) (i j x : ℕ) → covers (with_pair pairs i j) x ≡ (covers pairs x || ((nat_le i x && nat_lt x j) || false))
covers-with pairs i j x = list_any-append (λ (pair : Pair). nat_le pair.opener x && nat_lt x pair.closer) pairs (record { opener = i; closer = j } ∷ [])

covers-inside : (pairs : List Pair) (i j x : ℕ) → i ≤ x → x < j → covers (with_pair pairs i j) x ≡ true
covers-inside pairs i j x from to =
    covers-with pairs i j x
    ∙ or_right (covers pairs x) ((nat_le i x && nat_lt x j) || false)
    (or_left (nat_le i x && nat_lt x j) false (and_from (nat_le i x) (nat_lt x j) (le-leb i x from) (lt-ltb x j to)))

covers-before : (pairs : List Pair) (i j x : ℕ) → x < i → covers (with_pair pairs i j) x ≡ covers pairs x
covers-before pairs i j x before =
    covers-with pairs i j x
    ∙ or-no (covers pairs x) ((nat_le i x && nat_lt x j) || false) (or_from (nat_le i x && nat_lt x j) false (and_left (nat_le i x) (nat_lt x j) (lt-leb i x before)) refl)

covers-after : (pairs : List Pair) (i j x : ℕ) → j ≤ x → covers (with_pair pairs i j) x ≡ covers pairs x
covers-after pairs i j x after =
    covers-with pairs i j x
    ∙ or-no (covers pairs x) ((nat_le i x && nat_lt x j) || false) (or_from (nat_le i x && nat_lt x j) false (and_right (nat_le i x) (nat_lt x j) (le-ltb x j after)) refl)

opening_closes_none : (o : Option Bracket) → is_opening o ≡ true → is_closing o ≡ false
opening_closes_none (Some bracket) e = not_from_true bracket.opens e
opening_closes_none None e = refl

other_is_on : (type : BidiClass) → is_other type ≡ true → type ≡ ON
other_is_on ON e = refl
other_is_on type e = absurd (false≢true e)

-- the list of closers holds the index of the closer of each opener, and the length of the list at other indices
pub closers_of-at : (pairs : List Pair) (len i d : ℕ) → i < len → get_or (closers_of pairs len) i d ≡ unwrap_or (closer_of pairs i) len
closers_of-at pairs len i d within = get_or-map-range_with_len (λ i. unwrap_or (closer_of pairs i) len) 0 len i i d within (omega arith)

pub length-closers_of : (pairs : List Pair) (len : ℕ) → length (closers_of pairs len) ≡ len
length-closers_of pairs len = length-map-range_with_len (λ i. unwrap_or (closer_of pairs i) len) 0 len

closers_of-with : (pairs : List Pair) (len i j : ℕ) → i < len → closer_of pairs i ≡ None → closers_of (with_pair pairs i j) len ≡ set (closers_of pairs len) i j
closers_of-with pairs len i j within none =
    sym (fill_by_all (λ x. unwrap_or (closer_of (with_pair pairs i j) x) len) (set (closers_of pairs len) i j) len 0
    (length-set (closers_of pairs len) i j ∙ length-closers_of pairs len)
    (λ x below. elim (cases_eq x i) [
      | inl e ↦
          let lt : i < length (closers_of pairs len) = omega (arith, length-closers_of pairs len) in
          rw e (get_or-set_same (closers_of pairs len) i j 0 lt ∙ sym (ap (λ o. unwrap_or o len) (closer_of-at pairs i j none)))
      | inr ne ↦
          rw get_or-set_other (closers_of-at pairs len x 0 below ∙ sym (ap (λ o. unwrap_or o len) (closer_of-past pairs i j x (λ same. ne (sym same)))))
    ]))

-- the list of closers, updated for the closing bracket at k if it matches the opener at an index of `places`
abbrev pub closed_at : Option ℕ → List ℕ → List ℕ → ℕ → List ℕ
closed_at (Some m) places closers k = set closers (get_or places m 0) k
closed_at None places closers k = closers

module _ (bracket_of : ℕ → Option Bracket) (characters : List ℕ) (types : List BidiClass) where
  abbrev pub before : ℕ → List Pair
  before k = pairs_before bracket_of characters types k

  abbrev pub opens : ℕ → Bool
  opens k = is_opener bracket_of characters types k

  abbrev pub closes : ℕ → Bool
  closes k = is_closer bracket_of characters types k

  abbrev pub live : List Pair → ℕ → Bool
  live pairs i = is_live bracket_of characters types pairs i

  abbrev pub match_for : ℕ → Option ℕ
  match_for k = greatest (λ i. live (before k) i && fits bracket_of characters types i k) k

  pub opens_closes_none : (k : ℕ) → opens k ≡ true → closes k ≡ false
  opens_closes_none k e =
      and_right (is_other (class_at types k)) (is_closing (bracket_of (get_or characters k 0)))
      (opening_closes_none (bracket_of (get_or characters k 0)) (and_parts (is_other (class_at types k)) (is_opening (bracket_of (get_or characters k 0))) e).1)

  pub live_parts : (pairs : List Pair) (i : ℕ) → live pairs i ≡ true → (opens i ≡ true) × (covers pairs i ≡ false)
  live_parts pairs i e = let parts = and_parts (opens i) (not (covers pairs i)) e in (parts.0, not-true (covers pairs i) parts.1)

  -- a character adds no pair if it is not a closing bracket or matches no opener
  pub pairs-no : (k : ℕ) → closes k ≡ false → before (suc k) ≡ before k
  pairs-no k e = ap (λ l. before k ++ l) (cond-false (closes k) (paired_with bracket_of characters types (match_for k) k) [] e) ∙ append-nil (before k)

  pub pairs-some : (k i : ℕ) → closes k ≡ true → match_for k ≡ Some i → before (suc k) ≡ with_pair (before k) i k
  pairs-some k i e found =
      ap (λ l. before k ++ l) (cond-true (closes k) (paired_with bracket_of characters types (match_for k) k) [] e ∙ ap (λ o. paired_with bracket_of characters types o k) found)

  pub pairs-none : (k : ℕ) → closes k ≡ true → match_for k ≡ None → before (suc k) ≡ before k
  pairs-none k e found =
      ap (λ l. before k ++ l) (cond-true (closes k) (paired_with bracket_of characters types (match_for k) k) [] e ∙ ap (λ o. paired_with bracket_of characters types o k) found)
      ∙ append-nil (before k)

  -- each character adds either no pair or a pair with the opener that it matches
  pub cases_step : (k : ℕ) → (before (suc k) ≡ before k) ⊎ ((i : ℕ) × (closes k ≡ true) × (match_for k ≡ Some i))
  cases_step k =
      elim (cases_Bool (closes k)) [
        | inr other ↦ inl (pairs-no k other)
        | inl closing ↦ elim (cases_Option (match_for k)) [
          | inl none ↦ inl (pairs-none k closing none)
          | inr w ↦ inr (w.0, closing, w.1)
        ]
      ]

  pub match_parts : (k i : ℕ) → match_for k ≡ Some i → (i < k) × (live (before k) i ≡ true)
  match_parts k i e =
      let found = greatest_found (λ i. live (before k) i && fits bracket_of characters types i k) k i e in
      (found.0, (and_parts (live (before k) i) (fits bracket_of characters types i k) found.1).0)

  pub covers_none : (k x : ℕ) → k ≤ x → covers (before k) x ≡ false
  covers_none zero x h = refl
  covers_none (suc k) x h =
      elim (cases_step k) [
        | inl same ↦ ap (λ l. covers l x) same ∙ covers_none k x (omega arith)
        | inr w ↦ ap (λ l. covers l x) (pairs-some k w.0 w.1 w.2) ∙ covers-after (before k) w.0 k x (omega arith) ∙ covers_none k x (omega arith)
      ]

  pub record ArePaired (pairs : List Pair) (k : ℕ) : Type 0 where
    pub made : (i j : ℕ) → closer_of pairs i ≡ Some j → (i < j) × (j < k) × (opens i ≡ true) × (closes j ≡ true)
    pub apart : (a b i j : ℕ) → a < b → closer_of pairs a ≡ Some i → closer_of pairs b ≡ Some j → (i < b) ⊎ (j < i)

  unpaired : (pairs : List Pair) (k i : ℕ) → ArePaired pairs k → covers pairs i ≡ false → closer_of pairs i ≡ None
  unpaired pairs k i now free =
      elim (cases_Option (closer_of pairs i)) [
        | inl none ↦ none
        | inr w ↦ absurd (both_ways (covers pairs i) free (covers-from pairs i w.0 i w.1 (omega arith) (now.made i w.0 w.1).0))
      ]

  ArePaired-with : (pairs : List Pair) (k i : ℕ) → ArePaired pairs k → live pairs i ≡ true → i < k → closes k ≡ true → ArePaired (with_pair pairs i k) (suc k)
  ArePaired-with pairs k i now alive below closing =
      let parts = live_parts pairs i alive in
      let at_i = closer_of-at pairs i k (unpaired pairs k i now parts.1) in
      record {
        made = λ a j e. elim (cases_eq i a) [
          | inl same ↦
              let f : Some k ≡ Some j = sym at_i ∙ ap (closer_of (with_pair pairs i k)) same ∙ e in
              let g : k ≡ j = cc in
              (omega arith, omega arith, rw (← same) parts.0, rw (← g) closing)
          | inr ne ↦
              let old = now.made a j (sym (closer_of-past pairs i k a ne) ∙ e) in
              (old.0, omega (arith, old.1), old.2, old.3)
        ];
        apart = λ a b x y lt e f. elim (cases_eq i a) [
          | inl same ↦
              let g : Some k ≡ Some x = sym at_i ∙ ap (closer_of (with_pair pairs i k)) same ∙ e in
              let h : k ≡ x = cc in
              let ne : i ≢ b = omega arith in
              let old = (now.made b y (sym (closer_of-past pairs i k b ne) ∙ f)).1 in
              inr (omega (arith, old))
          | inr ne ↦
              let e' = sym (closer_of-past pairs i k a ne) ∙ e in
              elim (cases_eq i b) [
                | inl same ↦
                    let old = now.made a x e' in
                    elim (cases_lt x b) [
                      | inl h ↦ inl h
                      | inr h ↦ elim (cases_eq x i) [
                        | inl meets ↦ absurd (both_ways (closes i) (opens_closes_none i parts.0) (rw (← meets) old.3))
                        | inr misses ↦ absurd (both_ways (covers pairs i) parts.1 (covers-from pairs a x i e' (omega arith) (omega arith)))
                      ]
                    ]
                | inr other ↦ now.apart a b x y lt e' (sym (closer_of-past pairs i k b other) ∙ f)
              ]
        ];
      }

  pub ArePaired-before : (k : ℕ) → ArePaired (before k) k
  ArePaired-before zero = record { made = λ i j e. absurd (cc); apart = λ a b i j lt e f. absurd (cc) }
  ArePaired-before (suc k) =
      let now = ArePaired-before k in
      elim (cases_step k) [
        | inl same ↦ rw same (record {
          made = λ i j e. let old = now.made i j e in (old.0, omega (arith, old.1), old.2, old.3);
          apart = now.apart;
        })
        | inr w ↦ let parts = match_parts k w.0 w.2 in rw (pairs-some k w.0 w.1 w.2) (ArePaired-with (before k) k w.0 now parts.1 parts.0 w.1)
      ]

  -- the pairs in the list of closers are properly nested
  pub nested : (k : ℕ) → k ≤ length types → AreNested types (closers_of (before k) (length types))
  nested k within =
      let len = length types in
      let now = ArePaired-before k in
      let size = length-closers_of (before k) len in
      let closer = λ (a : ℕ) (h : a < len). closers_of-at (before k) len a 0 h in
      let one : (a : ℕ) → a < len → get_or (closers_of (before k) len) a 0 < len → (j : ℕ) × (closer_of (before k) a ≡ Some j) × (get_or (closers_of (before k) len) a 0 ≡ j) =
      λ a h inside. elim (cases_Option (closer_of (before k) a)) [
        | inl none ↦ let e = closer a h ∙ ap (λ o. unwrap_or o len) none in absurd (omega arith)
        | inr w ↦ (w.0, w.1, closer a h ∙ ap (λ o. unwrap_or o len) w.1)
      ] in
      record {
        other = λ a h inside.
            let w = one a (omega arith) (omega arith) in
            let opener = (now.made a w.0 w.1).2 in
            other_is_on (class_at types a) (and_parts (is_other (class_at types a)) (is_opening (bracket_of (get_or characters a 0))) opener).0;
        after = λ a h. elim (cases_Option (closer_of (before k) a)) [
          | inl none ↦ let e = closer a (omega arith) ∙ ap (λ o. unwrap_or o len) none in omega arith
          | inr w ↦ let e = closer a (omega arith) ∙ ap (λ o. unwrap_or o len) w.1 in let f = (now.made a w.0 w.1).0 in omega arith
        ];
        apart = λ a b lt h inside_a inside_b.
            let v = one a (omega arith) (omega arith) in
            let w = one b (omega arith) (omega arith) in
            rw (v.2, w.2) (now.apart a b v.0 w.0 lt v.1 w.1);
      }

  -- The state of the pass after k characters. `openers` holds the live openers, in order, and `places` holds their
  -- indices in the text. `closers` holds the closers of the pairs found so far.
  pub record Walks (k : ℕ) (places : List ℕ) (openers : List Opener) (closers : List ℕ) : Type 0 where
    pub size : length places ≡ length openers
    pub held : places ≡ lives (live (before k)) k
    pub fit : (m : ℕ) → m < length openers → (c : ℕ) → is_pair_of (bracket_of (get_or characters (get_or places m 0) 0)) c ≡ (canonical (pair_of openers m) == canonical c)
    pub found : closers ≡ closers_of (before k) (length types)
    pub room : (j : ℕ) → j < k → is_full bracket_of characters types j ≡ false

  length-held : (k : ℕ) (places : List ℕ) (openers : List Opener) (closers : List ℕ) → Walks k places openers closers → length (lives (live (before k)) k) ≡ length openers
  length-held k places openers closers now = sym (ap length now.held) ∙ now.size

  pub place-below : (k : ℕ) (places : List ℕ) (openers : List Opener) (closers : List ℕ) → Walks k places openers closers → (m : ℕ)
      → m < length openers → (get_or places m 0 < k) × (live (before k) (get_or places m 0) ≡ true)
  place-below k places openers closers now m h =
      let lt : m < length (lives (live (before k)) k) = omega (arith, length-held k places openers closers now) in
      rw now.held (lives-item (live (before k)) k m lt)

  pub Walks-start : Walks 0 [] [] (closers_of [] (length types))
  Walks-start = record {
    size = refl;
    held = refl;
    fit = λ m h. absurd (omega arith);
    found = refl;
    room = λ j h. absurd (omega arith);
  }

  pub full : (k : ℕ) (places : List ℕ) (openers : List Opener) (closers : List ℕ) → Walks k places openers closers → is_full bracket_of characters types k ≡ (opens k && nat_le 63 (length openers))
  full k places openers closers now = ap (λ n. opens k && nat_le 63 n) (length-lives (live (before k)) k ∙ length-held k places openers closers now)

  room-next : (k : ℕ) → ((j : ℕ) → j < k → is_full bracket_of characters types j ≡ false)
      → is_full bracket_of characters types k ≡ false → (j : ℕ) → j < suc k → is_full bracket_of characters types j
      ≡ false
  room-next k room here j h =
      elim (cases_eq j k) [
        | inl e ↦ rw e here
        | inr ne ↦ room j (omega arith)
      ]

  -- a character that adds no pair and is not an opening bracket leaves the lists unchanged
  Walks-stay : (k : ℕ) (places : List ℕ) (openers : List Opener) (closers : List ℕ) → before (suc k) ≡ before k → opens k ≡ false
      → Walks k places openers closers → Walks (suc k) places openers closers
  Walks-stay k places openers closers same other now =
      record {
        size = now.size;
        held = now.held ∙ sym (ap (λ l. lives (live l) (suc k)) same ∙ lives-no (live (before k)) k (and_left (opens k) (not (covers (before k) k)) other));
        fit = now.fit;
        found = now.found ∙ ap (λ l. closers_of l (length types)) (sym same);
        room = room-next k now.room (full k places openers closers now ∙ and_left (opens k) (nat_le 63 (length openers)) other);
      }

  pub Walks-other : (k : ℕ) (places : List ℕ) (openers : List Opener) (closers : List ℕ) → opens k ≡ false → closes k ≡ false
      → Walks k places openers closers → Walks (suc k) places openers closers
  Walks-other k places openers closers other none now = Walks-stay k places openers closers (pairs-no k none) other now

  -- several characters that are not brackets leave the lists unchanged
  pub Walks-skip : (n k j : ℕ) (places : List ℕ) (openers : List Opener) (closers : List ℕ) → j ≡ n + k → ((m : ℕ) → k ≤ m → m < j → opens m ≡ false)
      → ((m : ℕ) → k ≤ m → m < j → closes m ≡ false) → Walks k places openers closers → Walks j places openers closers
  Walks-skip zero k j places openers closers e other none now = let same : k ≡ j = omega arith in subst (λ x. Walks x places openers closers) same now
  Walks-skip (suc n) k j places openers closers e other none now =
      Walks-skip n (suc k) j places openers closers (omega arith) (λ m above below. other m (omega arith) below) (λ m above below. none m (omega arith) below)
      (Walks-other k places openers closers (other k (omega arith) (omega arith)) (none k (omega arith) (omega arith)) now)

  -- the pass appends an opening bracket to the list of openers
  pub Walks-open : (k : ℕ) (places : List ℕ) (openers : List Opener) (closers : List ℕ) (bracket : Bracket) (opener : Opener)
      → opens k ≡ true → bracket_of (get_or characters k 0) ≡ Some bracket → bracket.pair ≡ opener.pair → length openers < 63
      → Walks k places openers closers → Walks (suc k) (places ++ k ∷ []) (openers ++ opener ∷ []) closers
  Walks-open k places openers closers bracket opener opening is number room now =
      let same = pairs-no k (opens_closes_none k opening) in
      let alive = and_from (opens k) (not (covers (before k) k)) opening (not_from_false (covers (before k) k) (covers_none k k (omega arith))) in
      let pairs : map (λ (o : Opener). o.pair) (openers ++ opener ∷ []) ≡ map (λ (o : Opener). o.pair) openers ++ opener.pair ∷ [] = map-append (λ (o : Opener). o.pair) openers (opener ∷ []) in
      let size_a = now.size in
      let size_b = length-map openers (λ (o : Opener). o.pair) in
      record {
        size = omega (arith, length_push places k, length_push openers opener);
        held = ap (λ l. l ++ k ∷ []) now.held ∙ sym (ap (λ l. lives (live l) (suc k)) same ∙ lives-yes (live (before k)) k alive);
        fit = λ m h c. elim (cases_eq m (length openers)) [
          | inl last ↦
              let a : get_or (places ++ k ∷ []) m 0 ≡ k = get_or_push places k 0 m (omega arith) in
              let b : pair_of (openers ++ opener ∷ []) m ≡ opener.pair = ap (λ l. get_or l m 0) pairs ∙ get_or_push (map (λ (o : Opener). o.pair) openers) opener.pair 0 m (omega arith) in
              ap (λ i. is_pair_of (bracket_of (get_or characters i 0)) c) a ∙ ap (λ o. is_pair_of o c) is ∙ ap (λ p. canonical p == canonical c) (number ∙ sym b)
          | inr ne ↦
              let lt : m < length openers = omega (arith, length_push openers opener) in
              let a : get_or (places ++ k ∷ []) m 0 ≡ get_or places m 0 = get_or_append_left places (k ∷ []) 0 m (omega arith) in
              let b : pair_of (openers ++ opener ∷ []) m ≡ pair_of openers m = ap (λ l. get_or l m 0) pairs
              ∙ get_or_append_left (map (λ (o : Opener). o.pair) openers) (opener.pair ∷ []) 0 m (omega arith) in
              ap (λ i. is_pair_of (bracket_of (get_or characters i 0)) c) a ∙ now.fit m lt c ∙ ap (λ p. canonical p == canonical c) (sym b)
        ];
        found = now.found ∙ ap (λ l. closers_of l (length types)) (sym same);
        room = room-next k now.room (full k places openers closers now ∙ and_right (opens k) (nat_le 63 (length openers)) (lt-leb 63 (length openers) room));
      }

  -- the last live opener that a closing bracket matches is the newest such opener on the list
  pub match_held : (k : ℕ) (places : List ℕ) (openers : List Opener) (closers : List ℕ) → Walks k places openers closers
      → match_for k ≡ item_of places (newest openers (get_or characters k 0))
  match_held k places openers closers now =
      let c = get_or characters k 0 in
      let test = λ (m : ℕ). canonical (pair_of openers m) == canonical c in
      let size = length-held k places openers closers now in
      lives-greatest (live (before k)) (λ i. fits bracket_of characters types i k) test k
      (λ m h. ap (λ (l : List ℕ). is_pair_of (bracket_of (get_or characters (get_or l m 0) 0)) c) (sym now.held) ∙ now.fit m (omega arith) c)
      ∙ ap (λ n. item_of (lives (live (before k)) k) (greatest test n)) size
      ∙ ap (λ (l : List ℕ). item_of l (newest openers c)) (sym now.held)

  pub closes_opens_none : (k : ℕ) → closes k ≡ true → opens k ≡ false
  closes_opens_none k e = false_from_ne_true (opens k) (λ o. both_ways (closes k) (opens_closes_none k o) e)

  Walks-close_by : (k : ℕ) (places : List ℕ) (openers : List Opener) (closers : List ℕ) (found : Option ℕ) → newest openers (get_or characters k 0) ≡ found → k < length types → closes k ≡ true
      → Walks k places openers closers → Walks (suc k) (left_by found places) (left_by found openers) (closed_at found places closers k)
  Walks-close_by k places openers closers None e within closing now =
      Walks-stay k places openers closers (pairs-none k closing (match_held k places openers closers now ∙ ap (item_of places) e)) (closes_opens_none k closing) now
  Walks-close_by k places openers closers (Some m) e within closing now =
      let i = get_or places m 0 in
      let h : m < length openers = (greatest_found (λ m. canonical (pair_of openers m) == canonical (get_or characters k 0)) (length openers) m e).0 in
      let step : before (suc k) ≡ with_pair (before k) i k = pairs-some k i closing (match_held k places openers closers now ∙ ap (item_of places) e) in
      let at_i = place-below k places openers closers now m h in
      let below = at_i.0 in
      let parts = live_parts (before k) i at_i.1 in
      let other = closes_opens_none k closing in
      let size = length-held k places openers closers now in
      let same_size = now.size in
      let item : get_or (lives (live (before k)) k) m 0 ≡ i = ap (λ (l : List ℕ). get_or l m 0) (sym now.held) in
      let cut : lives (live (with_pair (before k) i k)) k ≡ take m (lives (live (before k)) k) =
      lives-cut (live (before k)) (live (with_pair (before k) i k)) k m (omega arith)
      (λ x lt. ap (λ b. opens x && not b) (covers-before (before k) i k x (omega arith)))
      (λ x from to. and_right (opens x) (not (covers (with_pair (before k) i k) x)) (not_from_true (covers (with_pair (before k) i k) x) (covers-inside (before k) i k x (omega arith) to))) in
      record {
        size = omega (arith, length-take-le m places (omega arith), length-take-le m openers (omega arith));
        held =
            ap (take m) now.held ∙ sym cut
            ∙ sym (ap (λ l. lives (live l) (suc k)) step ∙ lives-no (live (with_pair (before k) i k)) k (and_left (opens k) (not (covers (with_pair (before k) i k) k)) other));
        fit = λ x lt c.
            let short : x < m = omega (arith, length-take-le m openers (omega arith)) in
            let a : get_or (take m places) x 0 ≡ get_or places x 0 = get_or-take m places x 0 short in
            let b : pair_of (take m openers) x
            ≡ pair_of openers x = ap (λ l. get_or l x 0) (sym (take-map (λ (o : Opener). o.pair) m openers))
            ∙ get_or-take m (map (λ (o : Opener). o.pair) openers) x 0 short in
            ap (λ j. is_pair_of (bracket_of (get_or characters j 0)) c) a ∙ now.fit x (omega arith) c ∙ ap (λ p. canonical p == canonical c) (sym b);
        found =
            ap (λ l. set l i k) now.found
            ∙ sym (ap (λ l. closers_of l (length types)) step ∙ closers_of-with (before k) (length types) i k (omega arith) (unpaired (before k) k i (ArePaired-before k) parts.1));
        room = room-next k now.room (full k places openers closers now ∙ and_left (opens k) (nat_le 63 (length openers)) other);
      }

  -- at a closing bracket, the pass records the closer of the opener that it matches, and removes that opener
  -- and the newer ones
  pub Walks-close : (k : ℕ) (places : List ℕ) (openers : List Opener) (closers : List ℕ) (c : ℕ) → get_or characters k 0 ≡ c → k < length types → closes k ≡ true
      → Walks k places openers closers
      → Walks (suc k) (left_by (newest openers c) places) (left_by (newest openers c) openers) (closed_at (newest openers c) places closers k)
  Walks-close k places openers closers c is within closing now =
      Walks-close_by k places openers closers (newest openers c) (ap (newest openers) is) within closing now

  -- pairing stops at an opening bracket if 63 openers are on the list
  pub all-full : (k : ℕ) (places : List ℕ) (openers : List Opener) (closers : List ℕ) → k < length types → opens k ≡ true → 63 ≤ length openers → Walks k places openers closers
      → pairs_of bracket_of characters types ≡ before k
  all-full k places openers closers within opening whole now =
      ap (λ o. before (unwrap_or o (length types)))
      (least_found (is_full bracket_of characters types) 0 (length types) k (omega arith) (omega arith)
      (full k places openers closers now ∙ and_from (opens k) (nat_le 63 (length openers)) opening (le-leb 63 (length openers) whole))
      (λ j from to. now.room j to))

  -- if the pass reaches the end, it has found all pairs
  pub all-end : (k : ℕ) (places : List ℕ) (openers : List Opener) (closers : List ℕ) → k ≡ length types → Walks k places openers closers
      → pairs_of bracket_of characters types ≡ before k
  all-end k places openers closers whole now =
      ap (λ o. before (unwrap_or o (length types)))
      (least_none (is_full bracket_of characters types) 0 (length types) (λ j from to. now.room j (omega arith)))
      ∙ ap before (sym whole)

  -- the list of closers holds the closer of each opener
  closer_in-before : (k a : ℕ) → k ≤ length types → a < length types → closer_in (closers_of (before k) (length types)) a ≡ closer_of (before k) a
  closer_in-before k a within below =
      let len = length types in
      let size = length-closers_of (before k) len in
      let at = closers_of-at (before k) len a 0 below in
      ap (λ n. if nat_lt (get_or (closers_of (before k) len) a 0) n then Some (get_or (closers_of (before k) len) a 0) else None) size
      ∙ ap (λ c. if nat_lt c len then Some c else None) at
      ∙ elim (cases_Option (closer_of (before k) a)) [
        | inl none ↦ ap (λ o. if nat_lt (unwrap_or o len) len then Some (unwrap_or o len) else None) none
            ∙ cond-false (nat_lt len len) (Some len) None (le-ltb len len (omega arith)) ∙ sym none
        | inr w ↦ ap (λ o. if nat_lt (unwrap_or o len) len then Some (unwrap_or o len) else None) w.1
            ∙ cond-true (nat_lt w.0 len) (Some w.0) None (lt-ltb w.0 len (omega (arith, ((ArePaired-before k).made a w.0 w.1).1))) ∙ sym w.1
      ]

  pub closer_in-pairs_of : (a : ℕ) → a < length types → closer_in (closers_of (pairs_of bracket_of characters types) (length types)) a ≡ closer_of (pairs_of bracket_of characters types) a
  closer_in-pairs_of a below =
      closer_in-before (unwrap_or (least (is_full bracket_of characters types) 0 (length types)) (length types)) a
      (least_within (is_full bracket_of characters types) 0 (length types) (length types) (omega arith)) below

-- folding two functions over consecutive numbers yields the same result if the functions agree on these numbers
pub fold-same : (f g : List BidiClass → ℕ → List BidiClass) (a n : ℕ) (types : List BidiClass) → ((k : ℕ) (current : List BidiClass) → a ≤ k → k < a + n → f current k ≡ g current k)
    → fold f types (range_with_len a n) ≡ fold g types (range_with_len a n)
fold-same f g a zero types same = refl
fold-same f g a (suc n) types same =
    ap (λ current. fold f current (range_with_len (a + 1) n)) (same a types (omega arith) (omega arith))
    ∙ fold-same f g (a + 1) n (g types a) (λ k current from to. same k current (omega arith) (omega arith))
