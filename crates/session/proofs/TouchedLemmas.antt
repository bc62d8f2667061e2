-- Where paragraphs start, and which ones an edit touches. The touched paragraphs are adjacent, and two
-- searches find them.
use Rattle.std.proofs.Common.{◌≡◌, ℕ, zero, suc, ◌+◌, ◌-◌, ◌<◌, ◌≤◌, max, Bool, true, false, cond, List, [], ◌∷◌, ◌++◌, length, take, get_or, Some, unwrap_or, count_by, nat_le, sym, ap, ◌∙◌, inl, inr, arith}
use Rattle.std.specs.List.{concat, range_with_len}
use Rattle.std.proofs.lemmas.List.{append-nil, length-append, take_more, take_all}
use Rattle.std.proofs.lemmas.List.Folds.{concat-append}
use Rattle.std.proofs.lemmas.List.Sums.{sum_by-cons}
use Rattle.std.proofs.lemmas.Bool.{cond-true, cond-false, cases_eq, cases_lt, le-leb, lt-leb, and_left, and_right, and_from}
use Rattle.ucd.specs.Least.{least}
use Rattle.session.specs.Edits.{Replacement}
use Rattle.session.specs.Touched.{AreTouched, region_edit}
use Rattle.session.specs.Touched.{start_of, is_touched, first_touched, touched_count}

-- `least` finds the first number of a range that passes a test
least_found : (p : ℕ → Bool) (low count k : ℕ) → low ≤ k → k < low + count → p k ≡ true → ((m : ℕ) → low ≤ m → m < k → p m ≡ false) → least p low count ≡ Some k
least_found p low zero k from to here before = absurd (omega arith)
least_found p low (suc count) k from to here before =
    elim (cases_eq low k) [
      | inl e ↦ cond-true (p low) (Some low) (least p (suc low) count) (ap p e ∙ here) ∙ ap Some e
      | inr ne ↦ cond-false (p low) (Some low) (least p (suc low) count) (before low (omega arith) (omega arith))
          ∙ least_found p (suc low) count k (omega arith) (omega arith) here (λ m above below. before m (omega arith) below)
    ]

-- if exactly the numbers of an interval pass a test, the count of passing numbers in a range is the size of
-- its overlap with the interval
count_of_interval : (p : ℕ → Bool) (low count first end : ℕ) → first ≤ end → end ≤ low + count
    → ((k : ℕ) → low ≤ k → first ≤ k → k < end → p k ≡ true) → ((k : ℕ) → low ≤ k → k < first → p k ≡ false) → ((k : ℕ) → low ≤ k → end ≤ k → k < low + count → p k ≡ false)
    → count_by p (range_with_len low count) ≡ end - max first low
count_of_interval p low zero first end order within inside before after = omega arith
count_of_interval p low (suc count) first end order within inside before after =
    let step : count_by p (range_with_len low (suc count)) ≡ cond (p low) 1 0 + count_by p (range_with_len (low + 1) count) =
    sum_by-cons (λ k. cond (p k) 1 0) low (range_with_len (low + 1) count) in
    let rest : count_by p (range_with_len (low + 1) count) ≡ end - max first (low + 1) =
    count_of_interval p (low + 1) count first end order (omega arith)
    (λ k above. inside k (omega arith)) (λ k above. before k (omega arith)) (λ k above past under. after k (omega arith) past (omega arith)) in
    elim (cases_lt low first) [
      | inl lower ↦ omega (arith, cond-false {A = ℕ} (p low) 1 0 (before low (omega arith) lower))
      | inr from ↦ elim (cases_lt low end) [
        | inl under ↦ omega (arith, cond-true {A = ℕ} (p low) 1 0 (inside low (omega arith) from under))
        | inr past ↦ omega (arith, cond-false {A = ℕ} (p low) 1 0 (after low (omega arith) past (omega arith)))
      ]
    ]

-- paragraph i ends where paragraph i + 1 starts
pub start_of-more : (pars : List (List ℕ)) (i : ℕ) (d : List ℕ) → i < length pars → start_of pars (i + 1) ≡ start_of pars i + length (get_or pars i d)
start_of-more pars i d within =
    let e : concat (take (i + 1) pars) ≡ concat (take i pars) ++ get_or pars i d =
    ap concat (take_more pars i d within) ∙ concat-append (take i pars) (get_or pars i d ∷ []) ∙ ap (λ t. concat (take i pars) ++ t) (append-nil (get_or pars i d)) in
    ap length e ∙ length-append (concat (take i pars)) (get_or pars i d)

pub start_of-le : (pars : List (List ℕ)) (i j : ℕ) → i ≤ j → start_of pars i ≤ start_of pars j
start_of-le pars zero j order = omega arith
start_of-le pars (suc i) zero order = absurd (omega arith)
start_of-le [] (suc i) (suc j) order = omega arith
start_of-le (p ∷ pars) (suc i) (suc j) order =
    rw (length-append p (concat (take i pars)), length-append p (concat (take j pars))) (omega (arith, start_of-le pars i j (omega arith)))

pub start_of-end : (pars : List (List ℕ)) (i : ℕ) → length pars ≤ i → start_of pars i ≡ length (concat pars)
start_of-end pars i past = ap (λ ps. length (concat ps)) (take_all i pars past)

pub start_of-le-length : (pars : List (List ℕ)) (i : ℕ) → start_of pars i ≤ length (concat pars)
start_of-le-length pars i =
    let last = start_of-le pars i (i + length pars) (omega arith) in
    let all = start_of-end pars (i + length pars) (omega arith) in omega arith

-- if `first` and `last` are the results of the two searches, the paragraphs from `first` up to `last` are
-- the touched ones
pub AreTouched-from_walks : (pars : List (List ℕ)) (pos end first last start stop : ℕ) → pos ≤ end → end ≤ length (concat pars)
    → start ≡ start_of pars first → stop ≡ start_of pars last → first ≤ last → last ≤ length pars
    → (0 < first → start < pos) → (first < length pars → pos ≤ start_of pars (first + 1))
    → ((i : ℕ) → first ≤ i → i < last → start_of pars i ≤ end) → (last < length pars → end < stop)
    → AreTouched pars pos end (record { first = first; end = last; start = start; stop = stop })
AreTouched-from_walks pars pos end first last start stop order within at_first at_last rise few before next inside after =
    let edit : Replacement = region_edit pos end [] in
    let reach : pos + (end - pos) ≡ end = omega arith in
    let earlier : (k : ℕ) → k < first → is_touched pars edit k ≡ false = λ k below.
    let le = start_of-le pars (k + 1) first (omega arith) in
    and_right (nat_le (start_of pars k) (pos + (end - pos))) (nat_le pos (start_of pars (k + 1))) (lt-leb pos (start_of pars (k + 1)) (omega (arith, before (omega arith)))) in
    let later : (k : ℕ) → last ≤ k → k < length pars → is_touched pars edit k ≡ false = λ k above under.
    let le = start_of-le pars last k above in
    and_left (nat_le (start_of pars k) (pos + (end - pos))) (nat_le pos (start_of pars (k + 1))) (lt-leb (start_of pars k) (pos + (end - pos)) (omega (arith, after (omega arith)))) in
    let between : (k : ℕ) → first ≤ k → k < last → is_touched pars edit k ≡ true = λ k above under.
    let le = start_of-le pars (first + 1) (k + 1) (omega arith) in
    and_from (nat_le (start_of pars k) (pos + (end - pos))) (nat_le pos (start_of pars (k + 1)))
    (le-leb (start_of pars k) (pos + (end - pos)) (omega (arith, inside k above under)))
    (le-leb pos (start_of pars (k + 1)) (omega (arith, next (omega arith)))) in
    let low : start ≤ pos = elim (cases_eq first 0) [
      | inl e ↦ let zero_start : start_of pars first ≡ 0 = ap (start_of pars) e in omega arith
      | inr ne ↦ omega (arith, before (omega arith))
    ] in
    let high : end ≤ stop = elim (cases_lt last (length pars)) [
      | inl more ↦ omega (arith, after more)
      | inr all ↦ omega (arith, start_of-end pars last all)
    ] in
    let counted : touched_count pars edit ≡ last - first =
    count_of_interval (is_touched pars edit) 0 (length pars) first last rise (omega arith)
    (λ k _ above under. between k above under) (λ k _ below. earlier k below) (λ k _ above under. later k above (omega arith)) ∙ omega arith in
    let touched_at_first : first < length pars → is_touched pars edit first ≡ true = λ some.
    and_from (nat_le (start_of pars first) (pos + (end - pos))) (nat_le pos (start_of pars (first + 1)))
    (le-leb (start_of pars first) (pos + (end - pos)) (omega arith))
    (le-leb pos (start_of pars (first + 1)) (next some)) in
    let found : first_touched pars edit ≡ first =
    elim (cases_lt first (length pars)) [
      | inl some ↦ ap (λ o. unwrap_or o 0) (least_found (is_touched pars edit) 0 (length pars) first (omega arith) (omega arith) (touched_at_first some) (λ k _ below. earlier k below))
      | inr none ↦ let whole : start_of pars first ≡ length (concat pars) = start_of-end pars first none in
          let nothing : first ≡ 0 = elim (cases_eq first 0) [ inl e ↦ e | inr ne ↦ absurd (omega (arith, before (omega arith))) ] in
          let empty : length pars ≡ 0 = omega arith in
          ap (λ n. unwrap_or (least (is_touched pars edit) 0 n) 0) empty ∙ sym nothing
    ] in
    record {
      first = sym found;
      count = omega arith;
      within = few;
      start = at_first;
      stop = at_last;
      before = low;
      after = high;
      before_strictly = λ some. elim (cases_eq first 0) [
        | inl e ↦ let zero_start : start_of pars first ≡ 0 = ap (start_of pars) e in absurd (omega arith)
        | inr ne ↦ before (omega arith)
      ];
      after_strictly = λ more. elim (cases_lt last (length pars)) [
        | inl under ↦ after under
        | inr all ↦ absurd (omega (arith, start_of-end pars last all))
      ];
    }
