-- Bracket pairs in a sequence with a repeated character that is not a bracket.
use Rattle.std.proofs.Common.{◌≡◌, ◌≢◌, ℕ, zero, suc, ◌+◌, ◌<◌, ◌==◌, nat_lt, nat_le, Bool, true, false, cond, ◌&&◌, ◌||◌, not, if◌then◌else◌, List, [], ◌∷◌, ◌++◌, length, map, slice_index, count_by, Option, Some, None, option_map, unwrap_or, refl, sym, ap, subst, ◌∙◌, inl, inr, arith, append-nil, zero-add}
use Rattle.std.specs.List.{list_any, range_with_len}
use Rattle.std.proofs.lemmas.Bool.{cond-true, cond-false, cases_Bool, cases_eq, eq-eqb, ne_eqb, and_left, and_parts, and_right, both_ways}
use Rattle.std.proofs.lemmas.List.{map-append}
use Rattle.std.proofs.lemmas.List.Sums.{sum_by_push}
use Rattle.ucd.specs.declared.bidi_class.BidiClass.{BidiClass}
use Rattle.ucd.specs.declared.bidi_class.BidiClass.TheVariants.{ON}
use Rattle.ucd.specs.declared.bracket.Bracket.{Bracket}
use Rattle.ucd.specs.Classes.{class_at}
use Rattle.ucd.specs.Least.{least}
use Rattle.bidi.specs.Brackets.{Pair, closer_of, fits, greatest, is_closer, is_closing, is_full, is_live, is_opener, is_opening, is_other, is_pair_of, paired_with, pairs_before, pairs_of}
use Rattle.bidi.specs.Doubling.{double}
use Rattle.bidi.proofs.DoublingLists.{collapse, collapse-more, collapse-next, collapse-same, collapse-shift, get_or-double, least-double, length-double, range-last, shift, shift-collapse, shift-eq, shift-low, shift-nat_le, shift-nat_lt, unwrap-shift}

-- the pair with its indices in the new list
abbrev pub shift_pair : ℕ → Pair → Pair
shift_pair k pair = record { opener = shift k pair.opener; closer = shift k pair.closer }

-- the item at k is in no pair
abbrev pub AreApart : ℕ → List Pair → Type 0
AreApart k [] = Unit {0}
AreApart k (pair ∷ pairs) = (pair.opener ≢ k) × (pair.closer ≢ k) × AreApart k pairs

apart-append : (k : ℕ) (xs ys : List Pair) → AreApart k xs → AreApart k ys → AreApart k (xs ++ ys)
apart-append k [] ys one two = two
apart-append k (x ∷ xs) ys one two = (one.0, one.1, apart-append k xs ys one.2 two)

pub apart-closer : (k : ℕ) (pairs : List Pair) → AreApart k pairs → (a b : ℕ) → closer_of pairs a ≡ Some b → (a ≢ k) × (b ≢ k)
apart-closer k [] apart a b e = absurd (cc)
apart-closer k (pair ∷ pairs) apart a b e =
    elim (cases_eq pair.opener a) [
      | inl same ↦
          let f : Some pair.closer ≡ Some b = sym (cond-true (pair.opener == a) (Some pair.closer) (closer_of pairs a) (eq-eqb pair.opener a same)) ∙ e in
          let g : pair.closer ≡ b = cc in
          (λ h. apart.0 (same ∙ h), λ h. apart.1 (g ∙ h))
      | inr other ↦ apart-closer k pairs apart.2 a b (sym (cond-false (pair.opener == a) (Some pair.closer) (closer_of pairs a) (ne_eqb pair.opener a other)) ∙ e)
    ]

pub apart-none : (k : ℕ) (pairs : List Pair) → AreApart k pairs → closer_of pairs k ≡ None
apart-none k [] apart = refl
apart-none k (pair ∷ pairs) apart =
    cond-false (pair.opener == k) (Some pair.closer) (closer_of pairs k) (ne_eqb pair.opener k apart.0) ∙ apart-none k pairs apart.2

map-if : (k : ℕ) (b : Bool) (closer : ℕ) (rest : Option ℕ) → (if b then Some (shift k closer) else option_map (shift k) rest) ≡ option_map (shift k) (if b then Some closer else rest)
map-if k true closer rest = refl
map-if k false closer rest = refl

pub closer-double : (k : ℕ) (pairs : List Pair) (a : ℕ) → closer_of (map (shift_pair k) pairs) (shift k a) ≡ option_map (shift k) (closer_of pairs a)
closer-double k [] a = refl
closer-double k (pair ∷ pairs) a =
    ap (λ b. if b then Some (shift k pair.closer) else closer_of (map (shift_pair k) pairs) (shift k a)) (shift-eq k pair.opener a)
    ∙ ap (λ rest. if pair.opener == a then Some (shift k pair.closer) else rest) (closer-double k pairs a)
    ∙ map-if k (pair.opener == a) pair.closer (closer_of pairs a)

-- the second of the two equal items is not the first new index of any old item
pub shift-other : (k i : ℕ) → shift k i ≢ suc k
shift-other k i e = let back : i ≡ k = sym (collapse-shift k i) ∙ ap (collapse k) e ∙ collapse-next k in omega (arith, e, back, shift-low k i (omega (arith, back)))

pub closer-second : (k : ℕ) (pairs : List Pair) → closer_of (map (shift_pair k) pairs) (suc k) ≡ None
closer-second k [] = refl
closer-second k (pair ∷ pairs) =
    cond-false (shift k pair.opener == suc k) (Some (shift k pair.closer)) (closer_of (map (shift_pair k) pairs) (suc k)) (ne_eqb (shift k pair.opener) (suc k) (shift-other k pair.opener))
    ∙ closer-second k pairs

count-last : (p : ℕ → Bool) (n : ℕ) → count_by p (range_with_len 0 (suc n)) ≡ count_by p (range_with_len 0 n) + cond (p n) 1 0
count-last p n =
    ap (count_by p) (range-last 0 n) ∙ sum_by_push (λ i. cond (p i) 1 0) (range_with_len 0 n) (0 + n)
    ∙ ap (λ i. count_by p (range_with_len 0 n) + cond (p i) 1 0) (zero-add n)

-- ---- tests that agree, and that the repeated item fails
module _ (k : ℕ) (p q : ℕ → Bool) (same : (i : ℕ) → q i ≡ p (collapse k i)) (fails : p k ≡ false) where
  fails-here : (j : ℕ) → j ≡ k → q j ≡ false
  fails-here j e = same j ∙ ap (λ i. p (collapse k i)) e ∙ ap p (collapse-same k) ∙ fails

  stays-here : (j : ℕ) → j ≡ k → collapse k (suc j) ≡ collapse k j
  stays-here j e = ap (λ i. collapse k (suc i)) e ∙ collapse-next k ∙ sym (ap (collapse k) e ∙ collapse-same k)

  greatest-double : (j : ℕ) → greatest q j ≡ option_map (shift k) (greatest p (collapse k j))
  greatest-double zero = refl
  greatest-double (suc j) =
      elim (cases_eq j k) [
        | inl e ↦
            cond-false (q j) (Some j) (greatest q j) (fails-here j e) ∙ greatest-double j
            ∙ ap (λ i. option_map (shift k) (greatest p i)) (sym (stays-here j e))
        | inr ne ↦
            let m = collapse k j in
            let more : option_map (shift k) (greatest p (suc m)) ≡ option_map (shift k) (greatest p (collapse k (suc j))) = ap (λ i. option_map (shift k) (greatest p i)) (sym (collapse-more k j ne)) in
            elim (cases_Bool (p m)) [
              | inl passed ↦
                  let there : shift k m ≡ j = shift-collapse k j (λ e. both_ways (p k) fails (ap p (sym e) ∙ passed)) in
                  cond-true (q j) (Some j) (greatest q j) (same j ∙ passed) ∙ ap Some (sym there)
                  ∙ ap (option_map (shift k)) (sym (cond-true (p m) (Some m) (greatest p m) passed)) ∙ more
              | inr failed ↦
                  cond-false (q j) (Some j) (greatest q j) (same j ∙ failed) ∙ greatest-double j
                  ∙ ap (option_map (shift k)) (sym (cond-false (p m) (Some m) (greatest p m) failed)) ∙ more
            ]
      ]

  count-double : (j : ℕ) → count_by q (range_with_len 0 j) ≡ count_by p (range_with_len 0 (collapse k j))
  count-double zero = refl
  count-double (suc j) =
      count-last q j
      ∙ elim (cases_eq j k) [
        | inl e ↦
            ap (λ b. count_by q (range_with_len 0 j) + cond b 1 0) (fails-here j e) ∙ omega arith ∙ count-double j
            ∙ ap (λ i. count_by p (range_with_len 0 i)) (sym (stays-here j e))
        | inr ne ↦
            ap (λ n. n + cond (q j) 1 0) (count-double j)
            ∙ ap (λ b. count_by p (range_with_len 0 (collapse k j)) + cond b 1 0) (same j)
            ∙ sym (count-last p (collapse k j))
            ∙ ap (λ i. count_by p (range_with_len 0 i)) (sym (collapse-more k j ne))
      ]

-- the number that `greatest` returns passes the test
greatest-passes : (test : ℕ → Bool) (n m : ℕ) → greatest test n ≡ Some m → test m ≡ true
greatest-passes test zero m e = absurd (cc)
greatest-passes test (suc n) m e =
    elim (cases_Bool (test n)) [
      | inl passed ↦ let f : Some n ≡ Some m = sym (cond-true (test n) (Some n) (greatest test n) passed) ∙ e in let g : n ≡ m = cc in ap test (sym g) ∙ passed
      | inr failed ↦ greatest-passes test n m (sym (cond-false (test n) (Some n) (greatest test n) failed) ∙ e)
    ]

covers-double : (k m : ℕ) (pairs : List Pair)
    → list_any (λ pair. nat_le pair.opener (shift k m) && nat_lt (shift k m) pair.closer) (map (shift_pair k) pairs) ≡ list_any (λ pair. nat_le pair.opener m && nat_lt m pair.closer) pairs
covers-double k m [] = refl
covers-double k m (pair ∷ pairs) =
    let rest = list_any (λ pair. nat_le pair.opener (shift k m) && nat_lt (shift k m) pair.closer) (map (shift_pair k) pairs) in
    ap (λ b. (b && nat_lt (shift k m) (shift k pair.closer)) || rest) (shift-nat_le k pair.opener m)
    ∙ ap (λ b. (nat_le pair.opener m && b) || rest) (shift-nat_lt k m pair.closer)
    ∙ ap (λ b. (nat_le pair.opener m && nat_lt m pair.closer) || b) (covers-double k m pairs)

module _ (look : ℕ → Option Bracket) (characters : List ℕ) (types : List BidiClass) (k : ℕ) (none : look (slice_index characters k) ≡ None) where
  abbrev opens : ℕ → Bool
  opens = is_opener look characters types

  abbrev closes : ℕ → Bool
  closes = is_closer look characters types

  abbrev before : ℕ → List Pair
  before = pairs_before look characters types

  abbrev new_opens : ℕ → Bool
  new_opens = is_opener look (double k characters) (double k types)

  abbrev new_closes : ℕ → Bool
  new_closes = is_closer look (double k characters) (double k types)

  abbrev new_before : ℕ → List Pair
  new_before = pairs_before look (double k characters) (double k types)

  opens-none : opens k ≡ false
  opens-none = and_right (is_other (class_at types k)) (is_opening (look (slice_index characters k))) (ap is_opening none)

  closes-none : closes k ≡ false
  closes-none = and_right (is_other (class_at types k)) (is_closing (look (slice_index characters k))) (ap is_closing none)

  opens-double : (j : ℕ) → new_opens j ≡ opens (collapse k j)
  opens-double j =
      ap (λ t. is_other t && is_opening (look (slice_index (double k characters) j))) (get_or-double k types j ON)
      ∙ ap (λ c. is_other (class_at types (collapse k j)) && is_opening (look c)) (get_or-double k characters j 0)

  closes-double : (j : ℕ) → new_closes j ≡ closes (collapse k j)
  closes-double j =
      ap (λ t. is_other t && is_closing (look (slice_index (double k characters) j))) (get_or-double k types j ON)
      ∙ ap (λ c. is_other (class_at types (collapse k j)) && is_closing (look c)) (get_or-double k characters j 0)

  fits-double : (i j : ℕ) → fits look (double k characters) (double k types) i j ≡ fits look characters types (collapse k i) (collapse k j)
  fits-double i j =
      ap (λ c. is_pair_of (look c) (slice_index (double k characters) j)) (get_or-double k characters i 0)
      ∙ ap (is_pair_of (look (slice_index characters (collapse k i)))) (get_or-double k characters j 0)

  live-double : (pairs : List Pair) (i : ℕ)
      → is_live look (double k characters) (double k types) (map (shift_pair k) pairs) i ≡ is_live look characters types pairs (collapse k i)
  live-double pairs i =
      let m = collapse k i in
      let old = list_any (λ pair. nat_le pair.opener m && nat_lt m pair.closer) pairs in
      let new = list_any (λ pair. nat_le pair.opener i && nat_lt i pair.closer) (map (shift_pair k) pairs) in
      elim (cases_Bool (opens m)) [
        | inl begins ↦
            let there : shift k m ≡ i = shift-collapse k i (λ e. both_ways (opens k) opens-none (ap opens (sym e) ∙ begins)) in
            ap (λ b. b && not new) (opens-double i)
            ∙ ap (λ b. opens m && not b) (ap (λ n. list_any (λ pair. nat_le pair.opener n && nat_lt n pair.closer) (map (shift_pair k) pairs)) (sym there) ∙ covers-double k m pairs)
        | inr shut ↦ and_left (new_opens i) (not new) (opens-double i ∙ shut) ∙ sym (and_left (opens m) (not old) shut)
      ]

  abbrev matched : List Pair → ℕ → Option ℕ
  matched pairs j = greatest (λ i. is_live look characters types pairs i && fits look characters types i j) j

  abbrev new_matched : List Pair → ℕ → Option ℕ
  new_matched pairs j = greatest (λ i. is_live look (double k characters) (double k types) pairs i && fits look (double k characters) (double k types) i j) j

  matched-double : (pairs : List Pair) (j : ℕ) → new_matched (map (shift_pair k) pairs) j ≡ option_map (shift k) (matched pairs (collapse k j))
  matched-double pairs j =
      let m = collapse k j in
      greatest-double k (λ i. is_live look characters types pairs i && fits look characters types i m)
      (λ i. is_live look (double k characters) (double k types) (map (shift_pair k) pairs) i && fits look (double k characters) (double k types) i j)
      (λ i. ap (λ b. b && fits look (double k characters) (double k types) i j) (live-double pairs i)
      ∙ ap (λ b. is_live look characters types pairs (collapse k i) && b) (fits-double i j))
      (and_left (is_live look characters types pairs k) (fits look characters types k m) (and_left (opens k) (not (list_any (λ pair. nat_le pair.opener k && nat_lt k pair.closer) pairs)) opens-none))
      j

  paired-double : (o : Option ℕ) (j m : ℕ) → shift k m ≡ j
      → paired_with look (double k characters) (double k types) (option_map (shift k) o) j ≡ map (shift_pair k) (paired_with look characters types o m)
  paired-double None j m there = refl
  paired-double (Some i) j m there = ap (λ c. record { opener = shift k i; closer = c } ∷ []) (sym there)

  -- the pairs of the new list are those of the old one, with new indices
  pub before-double : (j : ℕ) → new_before j ≡ map (shift_pair k) (before (collapse k j))
  before-double zero = refl
  before-double (suc j) =
      let m = collapse k j in
      let made = paired_with look (double k characters) (double k types) (new_matched (new_before j) j) j in
      elim (cases_eq j k) [
        | inl e ↦
            let shut : new_closes j ≡ false = closes-double j ∙ ap (λ i. closes (collapse k i)) e ∙ ap closes (collapse-same k) ∙ closes-none in
            let stays : collapse k j ≡ collapse k (suc j) = ap (collapse k) e ∙ collapse-same k ∙ sym (ap (λ i. collapse k (suc i)) e ∙ collapse-next k) in
            ap (λ xs. new_before j ++ xs) (cond-false (new_closes j) made [] shut)
            ∙ append-nil (new_before j) ∙ before-double j ∙ ap (λ i. map (shift_pair k) (before i)) stays
        | inr ne ↦
            let old = paired_with look characters types (matched (before m) m) m in
            let last : (if new_closes j then made else []) ≡ map (shift_pair k) (if closes m then old else []) =
            elim (cases_Bool (closes m)) [
              | inl shut ↦
                  let there : shift k m ≡ j = shift-collapse k j (λ f. both_ways (closes k) closes-none (ap closes (sym f) ∙ shut)) in
                  cond-true (new_closes j) made [] (closes-double j ∙ shut)
                  ∙ ap (λ pairs. paired_with look (double k characters) (double k types) (new_matched pairs j) j) (before-double j)
                  ∙ ap (λ o. paired_with look (double k characters) (double k types) o j) (matched-double (before m) j)
                  ∙ paired-double (matched (before m) m) j m there
                  ∙ ap (map (shift_pair k)) (sym (cond-true (closes m) old [] shut))
              | inr other ↦
                  cond-false (new_closes j) made [] (closes-double j ∙ other)
                  ∙ ap (map (shift_pair k)) (sym (cond-false (closes m) old [] other))
            ] in
            ap (λ xs. xs ++ (if new_closes j then made else [])) (before-double j)
            ∙ ap (λ xs. map (shift_pair k) (before m) ++ xs) last
            ∙ sym (map-append (shift_pair k) (before m) (if closes m then old else []))
            ∙ ap (λ i. map (shift_pair k) (before i)) (sym (collapse-more k j ne))
      ]

  full-double : (j : ℕ) → is_full look (double k characters) (double k types) j ≡ is_full look characters types (collapse k j)
  full-double j =
      let m = collapse k j in
      ap (λ b. b && nat_le 63 (count_by (is_live look (double k characters) (double k types) (new_before j)) (range_with_len 0 j))) (opens-double j)
      ∙ ap (λ pairs. opens m && nat_le 63 (count_by (is_live look (double k characters) (double k types) pairs) (range_with_len 0 j))) (before-double j)
      ∙ ap (λ n. opens m && nat_le 63 n) (count-double k (is_live look characters types (before m)) (is_live look (double k characters) (double k types) (map (shift_pair k) (before m)))
      (live-double (before m)) (and_left (opens k) (not (list_any (λ pair. nat_le pair.opener k && nat_lt k pair.closer) (before m))) opens-none) j)

  pub pairs-double : k < length types → pairs_of look (double k characters) (double k types) ≡ map (shift_pair k) (pairs_of look characters types)
  pairs-double within =
      let n = length types in
      let found = least (is_full look characters types) 0 n in
      ap (λ m. new_before (unwrap_or (least (is_full look (double k characters) (double k types)) 0 m) m)) (length-double k types within)
      ∙ ap (λ o. new_before (unwrap_or o (suc n)))
      (least-double k (is_full look characters types) (is_full look (double k characters) (double k types)) full-double 0 n (omega arith) (omega (arith, within)))
      ∙ ap new_before (unwrap-shift k n found within)
      ∙ before-double (shift k (unwrap_or found n))
      ∙ ap (λ i. map (shift_pair k) (before i)) (collapse-shift k (unwrap_or found n))

  -- the repeated item is in no pair
  apart-paired : (o : Option ℕ) (j : ℕ) → ((m : ℕ) → o ≡ Some m → opens m ≡ true) → closes j ≡ true → AreApart k (paired_with look characters types o j)
  apart-paired None j found shut = tt
  apart-paired (Some m) j found shut = (λ e. both_ways (opens k) opens-none (ap opens (sym e) ∙ found m refl), λ e. both_ways (closes k) closes-none (ap closes (sym e) ∙ shut), tt)

  apart-before : (j : ℕ) → AreApart k (before j)
  apart-before zero = tt
  apart-before (suc j) =
      let test : ℕ → Bool = λ i. is_live look characters types (before j) i && fits look characters types i j in
      let found : (m : ℕ) → greatest test j ≡ Some m → opens m ≡ true =
      λ m e. (and_parts (opens m) (not (list_any (λ pair. nat_le pair.opener m && nat_lt m pair.closer) (before j)))
      (and_parts (is_live look characters types (before j) m) (fits look characters types m j) (greatest-passes test j m e)).0).0 in
      let made = paired_with look characters types (greatest test j) j in
      apart-append k (before j) (if closes j then made else []) (apart-before j)
      (elim (cases_Bool (closes j)) [
        | inl shut ↦ subst (AreApart k) (sym (cond-true (closes j) made [] shut)) (apart-paired (greatest test j) j found shut)
        | inr other ↦ subst (AreApart k) (sym (cond-false (closes j) made [] other)) tt
      ])

  pub apart-pairs : AreApart k (pairs_of look characters types)
  apart-pairs = apart-before (unwrap_or (least (is_full look characters types) 0 (length types)) (length types))
