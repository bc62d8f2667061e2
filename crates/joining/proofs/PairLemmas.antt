-- Two characters that join, and those between them.
use Rattle.std.proofs.Common.{◌≡◌, ℕ, zero, suc, ◌+◌, ◌-◌, ◌<◌, ◌≤◌, Bool, true, false, ◌&&◌, ◌||◌, cond, List, [], ◌∷◌, length, take, drop, get_or, nat_lt, Some, None, refl, sym, ap, ◌∙◌, inl, inr, arith, length-drop}
use Rattle.std.proofs.lemmas.Bool.{both_ways, cases_Bool, cases_lt, cond-false, cond-true, ltb-true}
use Rattle.std.proofs.lemmas.List.{get_or-drop, get_or-take, length-take}
use Rattle.std.specs.List.{list_all, slice_range}
use Rattle.ucd.specs.Least.{least}
use Rattle.ucd_bidi.specs.declared.JoiningType.{JoiningType}
use Rattle.ucd_bidi.specs.declared.JoiningType.TheVariants.{DualJoining, JoinCausing, LeftJoining, NonJoining, RightJoining, Transparent}
use Rattle.joining.specs.Joiners.{is_rtl, is_transparent, joiner_at, joins_after, joins_before, joins_left, joins_right, transparent}
use Rattle.joining.specs.Joins.{agree, joins, next_joined}
use Rattle.joining.specs.Pairs.{JoinsAreMutual, OnlyJoiningTypesJoin}
use Rattle.joining.specs.declared.joiner.Agreement.{Agreement}
use Rattle.joining.specs.declared.joiner.Joiner.{Joiner}

pub and_parts : (a b : Bool) → (a && b) ≡ true → (a ≡ true) × (b ≡ true)
and_parts true true is = (refl, refl)
and_parts true false is = absurd (cc)
and_parts false b is = absurd (cc)

all_at : (p : Joiner → Bool) (xs : List Joiner) (i : ℕ) (d : Joiner) → list_all p xs ≡ true → i < length xs → p (get_or xs i d) ≡ true
all_at p [] i d all within = absurd (omega arith)
all_at p (x ∷ xs) zero d all within = (and_parts (p x) (list_all p xs) all).0
all_at p (x ∷ xs) (suc i) d all within = all_at p xs i d (and_parts (p x) (list_all p xs) all).1 (omega arith)

-- ---- transparent characters join nothing

pub none_joins : (rtl : Bool) (t : JoiningType) → transparent t ≡ true → (cond rtl (joins_right t) (joins_left t) ≡ false) × (cond rtl (joins_left t) (joins_right t) ≡ false)
none_joins true Transparent is = (refl, refl)
none_joins false Transparent is = (refl, refl)
none_joins rtl DualJoining is = absurd (cc)
none_joins rtl JoinCausing is = absurd (cc)
none_joins rtl LeftJoining is = absurd (cc)
none_joins rtl RightJoining is = absurd (cc)
none_joins rtl NonJoining is = absurd (cc)

pub not_before : (c : Joiner) → is_transparent c ≡ true → joins_before c ≡ true → ⊥
not_before c clear joins = both_ways (joins_before c) (none_joins (is_rtl c.level) c.joining clear).0 joins

pub not_after : (c : Joiner) → is_transparent c ≡ true → joins_after c ≡ true → ⊥
not_after c clear joins = both_ways (joins_after c) (none_joins (is_rtl c.level) c.joining clear).1 joins

one_side : (rtl left right : Bool) → cond rtl left right ≡ true → (left || right) ≡ true
one_side true true right is = refl
one_side true false right is = absurd (cc)
one_side false true true is = refl
one_side false false true is = refl
one_side false left false is = absurd (cc)

-- ---- what a join says

pub record Facts (by : Agreement) (text : List Joiner) (a b : ℕ) : Type 0 where
  pub order : a < b
  pub within : b < length text
  pub after : joins_after (joiner_at text a) ≡ true
  pub before : joins_before (joiner_at text b) ≡ true
  pub clear : list_all is_transparent (slice_range text (a + 1) b) ≡ true

pub facts : (by : Agreement) (text : List Joiner) (a b : ℕ) → joins by text a b ≡ true → Facts by text a b
unfolding joins
facts by text a b is =
    let clear = list_all is_transparent (slice_range text (a + 1) b) in
    let all = and_parts (nat_lt a b && nat_lt b (length text) && joins_after (joiner_at text a) && joins_before (joiner_at text b) && clear)
    (agree by (slice_range text a (b + 1))) is in
    let four = and_parts (nat_lt a b && nat_lt b (length text) && joins_after (joiner_at text a) && joins_before (joiner_at text b)) clear all.0 in
    let three = and_parts (nat_lt a b && nat_lt b (length text) && joins_after (joiner_at text a)) (joins_before (joiner_at text b)) four.0 in
    let two = and_parts (nat_lt a b && nat_lt b (length text)) (joins_after (joiner_at text a)) three.0 in
    let one = and_parts (nat_lt a b) (nat_lt b (length text)) two.0 in
    record { order = ltb-true a b one.0; within = ltb-true b (length text) one.1; after = two.1; before = three.1; clear = four.1 }

pub between : (by : Agreement) (text : List Joiner) (a b m : ℕ) → Facts by text a b → a < m → m < b → is_transparent (joiner_at text m) ≡ true
between by text a b m f from to =
    let n : ℕ = b - (a + 1) in
    let i : ℕ = m - (a + 1) in
    let d : Joiner = record { joining = NonJoining; level = None } in
    let past : a + 1 + i ≡ m = omega arith in
    let order : a < b = f.order in
    let within : b < length text = f.within in
    let size : i < length (take n (drop (a + 1) text)) = omega (arith, length-take n (drop (a + 1) text), length-drop (a + 1) text) in
    ap is_transparent (sym (get_or-take n (drop (a + 1) text) i d (omega arith) ∙ get_or-drop (a + 1) text i d ∙ ap (λ j. get_or text j d) past))
    ∙ all_at is_transparent (take n (drop (a + 1) text)) i d f.clear size

pub least_found : (p : ℕ → Bool) (low count k : ℕ) → low ≤ k → k < low + count → p k ≡ true → ((m : ℕ) → low ≤ m → m < k → p m ≡ false) → least p low count ≡ Some k
least_found p low zero k from to here before = absurd (omega arith)
least_found p low (suc count) k from to here before =
    elim (cases_lt low k) [
      | inl less ↦ cond-false (p low) (Some low) (least p (suc low) count) (before low (omega arith) less)
          ∙ least_found p (suc low) count k less (omega arith) here (λ m above below. before m (omega arith) below)
      | inr more ↦ let same : low ≡ k = omega arith in cond-true (p low) (Some low) (least p (suc low) count) (ap p same ∙ here) ∙ ap Some same
    ]

pub least_holds : (p : ℕ → Bool) (low count k : ℕ) → least p low count ≡ Some k → p k ≡ true
least_holds p low zero k is = absurd (cc)
least_holds p low (suc count) k is =
    elim (cases_Bool (p low)) [
      | inl passed ↦
          let same : Some low ≡ Some k = sym (cond-true (p low) (Some low) (least p (suc low) count) passed) ∙ is in
          let at : low ≡ k = cc in ap p (sym at) ∙ passed
      | inr failed ↦ least_holds p (suc low) count k (sym (cond-false (p low) (Some low) (least p (suc low) count) failed) ∙ is)
    ]

pub mutual_joins : JoinsAreMutual
unfolding next_joined
mutual_joins = record {
  found = λ by text a b is. least_holds (joins by text a) (a + 1) (length text - (a + 1)) b is;
  after = λ by text a b is.
      let f : Facts by text a b = facts by text a b is in
      let order : a < b = f.order in
      let within : b < length text = f.within in
      least_found (joins by text a) (a + 1) (length text - (a + 1)) b (omega arith) (omega arith) is
      (λ m from to. elim (cases_Bool (joins by text a m)) [
        | inl other ↦ absurd (not_before (joiner_at text m) (between by text a b m f (omega arith) to) (facts by text a m other).before)
        | inr none ↦ none
      ]);
  before = λ by text a b other is also.
      let f : Facts by text a b = facts by text a b is in
      let g : Facts by text other b = facts by text other b also in
      let order : a < b = f.order in
      let less : other < b = g.order in
      elim (cases_lt other a) [
        | inl under ↦ absurd (not_after (joiner_at text a) (between by text other b a g under order) f.after)
        | inr above ↦ elim (cases_lt a other) [
          | inl over ↦ absurd (not_after (joiner_at text other) (between by text a b other f over less) g.after)
          | inr same ↦ omega arith
        ]
      ];
}

pub joining_types : OnlyJoiningTypesJoin
joining_types = record {
  first = λ by text a b is.
      let c : Joiner = joiner_at text a in one_side (is_rtl c.level) (joins_left c.joining) (joins_right c.joining) (facts by text a b is).after;
  second = λ by text a b is.
      let c : Joiner = joiner_at text b in
      or_swap (joins_right c.joining) (joins_left c.joining) (one_side (is_rtl c.level) (joins_right c.joining) (joins_left c.joining) (facts by text a b is).before);
}
  where
    or_swap : (a b : Bool) → (a || b) ≡ true → (b || a) ≡ true
    or_swap true true is = refl
    or_swap true false is = refl
    or_swap false true is = refl
    or_swap false false is = is
