-- What a scan of a line's characters finds: sums of columns, and the positions at which the line may end.
use Rattle.std.proofs.Common.{take-take, length-append, get_or, subst, ◌≡◌, ℕ, zero, suc, ◌+◌, ◌-◌, ◌*◌, ◌<◌, ◌≤◌, Bool, true, false, ◌&&◌, ◌||◌}
use Rattle.std.proofs.Common.{Some, unwrap_or, List, [], ◌∷◌, ◌++◌, length, take, drop, if◌then◌else◌, refl, sym, ap, ◌∙◌, inl, inr, arith}
use Rattle.std.proofs.Math.ListN.{get_or-append}
use Rattle.std.proofs.Math.Seq.{get_or-append_seam, take-add}
use Rattle.std.proofs.lemmas.Bool.{and_right, cond-true, cond-false, cases_Bool, cases_eq, cases_lt, lt-leb, le-leb, leb-false, leb-true, both_ways}
use Rattle.std.proofs.lemmas.List.{get_or-drop, get_or-take, get_or_past, length-take-le}
use Rattle.std.proofs.lemmas.List.Folds.{list_any_at}
use Rattle.std.proofs.lemmas.List.Sums.{fold-append, fold_more, suffix_len-take_no, suffix_len-take_yes}
use Rattle.std.specs.List.{list_any, suffix_len}
use Rattle.std.specs.Prelude.{fold, slice_range}
use Rattle.bidi.specs.Brackets.{greatest}
use Rattle.ucd.specs.Least.{least}
use Rattle.bidi.proofs.LeastLemmas.{least_found, least_none}
use Rattle.lines.specs.CharInfos.{advance}
use Rattle.lines.specs.Filling.{before_tail, cluster_ends_at, columns, first_end, fits_to, is_must, may_end, must_end, nothing, place_at, line_end, line_len, starts, stop, trails}
use Rattle.lines.specs.Kept.{AreStarts}
use Rattle.lines.specs.FitsUpTo.{FitsUpTo}
use Rattle.lines.specs.declared.char_info.CharInfo.{CharInfo}
use Rattle.lines.proofs.WidthLemmas.{columns_take}

-- ---- the greatest number that passes a test

-- if no number from k on passes the test, the greatest number that passes is below k
pub greatest_skips : (p : ℕ → Bool) (k n : ℕ) → k ≤ n → ((j : ℕ) → k ≤ j → j < n → p j ≡ false) → greatest p n ≡ greatest p k
greatest_skips p k zero below fails = let e : k ≡ 0 = omega (arith, below) in rw e refl
greatest_skips p k (suc n) below fails =
    elim (cases_eq k (suc n)) [
      | inl e ↦ rw e refl
      | inr ne ↦ cond-false (p n) (Some n) (greatest p n) (fails n (omega arith) (omega arith))
          ∙ greatest_skips p k n (omega arith) (λ j from to. fails j from (omega arith))
    ]

-- ---- sums

-- the first n characters without their tail are a prefix, whose length is n minus the length of the tail
shown_to : (rest : List CharInfo) (n : ℕ) → n ≤ length rest → before_tail (take n rest) ≡ take (n - suffix_len trails (take n rest)) rest
shown_to rest n within =
    ap (λ m. take (m - suffix_len trails (take n rest)) (take n rest)) (length-take-le n rest within)
    ∙ take-take (n - suffix_len trails (take n rest)) n rest (omega arith)

trailing_more : (rest : List CharInfo) (k : ℕ) → k < length rest → trails (place_at rest k) ≡ true → suffix_len trails (take (suc k) rest) ≡ 1 + suffix_len trails (take k rest)
trailing_more rest k within trailing =
    let e : suc k - 1 ≡ k = omega arith in
    suffix_len-take_yes trails rest (suc k) nothing (omega arith) (omega (arith, within)) (subst (λ j. trails (place_at rest j) ≡ true) (sym e) trailing)
    ∙ ap (λ j. 1 + suffix_len trails (take j rest)) e

trailing_none : (rest : List CharInfo) (k : ℕ) → k < length rest → trails (place_at rest k) ≡ false → suffix_len trails (take (suc k) rest) ≡ 0
trailing_none rest k within counts =
    let e : suc k - 1 ≡ k = omega arith in
    suffix_len-take_no trails rest (suc k) nothing (omega arith) (omega (arith, within)) (subst (λ j. trails (place_at rest j) ≡ false) (sym e) counts)

-- If the last character may be in a tail, it adds no columns before the tail. Otherwise there is no tail.
pub shown_after : (rest : List CharInfo) (k : ℕ) → k < length rest
    → columns (before_tail (take (suc k) rest)) ≡ (if trails (place_at rest k) then columns (before_tail (take k rest)) else columns (take (suc k) rest))
shown_after rest k within =
    let s : ℕ = suffix_len trails (take k rest) in
    elim (cases_Bool (trails (place_at rest k))) [
      | inl trailing ↦
          let e : suc k - (1 + s) ≡ k - s = omega arith in
          ap columns (shown_to rest (suc k) (omega (arith, within)))
          ∙ ap (λ n. columns (take (suc k - n) rest)) (trailing_more rest k within trailing)
          ∙ ap (λ n. columns (take n rest)) e
          ∙ ap columns (sym (shown_to rest k (omega (arith, within))))
          ∙ sym (cond-true (trails (place_at rest k)) (columns (before_tail (take k rest))) (columns (take (suc k) rest)) trailing)
      | inr counts ↦
          let e : suc k - 0 ≡ suc k = omega arith in
          ap columns (shown_to rest (suc k) (omega (arith, within)))
          ∙ ap (λ n. columns (take (suc k - n) rest)) (trailing_none rest k within counts)
          ∙ ap (λ n. columns (take n rest)) e
          ∙ sym (cond-false (trails (place_at rest k)) (columns (before_tail (take k rest))) (columns (take (suc k) rest)) counts)
    ]

pub columns_after : (rest : List CharInfo) (k : ℕ) → k < length rest → columns (take (suc k) rest) ≡ advance (columns (take k rest)) (place_at rest k)
columns_after rest k within =
    let e : suc k ≡ k + 1 = omega arith in
    ap (λ n. columns (take n rest)) e ∙ fold_more advance 0 rest k nothing within

-- the characters before a tail are no wider than all characters
shown_most : (rest : List CharInfo) (n : ℕ) → n ≤ length rest → columns (before_tail (take n rest)) ≤ columns (take n rest)
shown_most rest n within = columns_take (length (take n rest) - suffix_len trails (take n rest)) (take n rest)

-- appending a character does not make the part before the tail narrower
shown_grows : (rest : List CharInfo) (k : ℕ) → k < length rest → columns (before_tail (take k rest)) ≤ columns (before_tail (take (suc k) rest))
shown_grows rest k within =
    elim (cases_Bool (trails (place_at rest k))) [
      | inl trailing ↦ omega (arith, shown_after rest k within, cond-true (trails (place_at rest k)) (columns (before_tail (take k rest))) (columns (take (suc k) rest)) trailing)
      | inr counts ↦ omega (
        arith,
        shown_after rest k within,
        cond-false (trails (place_at rest k)) (columns (before_tail (take k rest))) (columns (take (suc k) rest)) counts,
        shown_most rest k (omega (arith, within)),
        columns_after rest k within,
      )
    ]

-- if a line does not fit up to a position, it does not fit up to any later position
pub misfits : (width : ℕ) (rest : List CharInfo) (k j : ℕ) → k ≤ j → j < length rest → fits_to width rest k ≡ false → fits_to width rest j ≡ false
misfits width rest k zero above within here = let e : k ≡ 0 = omega (arith, above) in subst (λ j. fits_to width rest j ≡ false) e here
misfits width rest k (suc j) above within here =
    elim (cases_eq k (suc j)) [
      | inl e ↦ subst (λ j. fits_to width rest j ≡ false) e here
      | inr ne ↦ lt-leb (columns (before_tail (take (suc (suc j)) rest))) width
          (omega (arith, shown_grows rest (suc j) within, leb-false (columns (before_tail (take (suc j) rest))) width (misfits width rest k j (omega arith) (omega (arith, within)) here)))
    ]

-- ---- where a line must end

pub stop_at : (rest : List CharInfo) (k : ℕ) → k < length rest → ((j : ℕ) → j < k → must_end rest j ≡ false) → must_end rest k ≡ true → stop rest ≡ k
stop_at rest k within before here =
    ap (λ o. unwrap_or o (length rest - 1)) (least_found (must_end rest) 0 (length rest) k (omega arith) (omega (arith, within)) here (λ m from below. before m below))

pub stop_none : (rest : List CharInfo) → ((j : ℕ) → j < length rest → must_end rest j ≡ false) → stop rest ≡ length rest - 1
stop_none rest fails = ap (λ o. unwrap_or o (length rest - 1)) (least_none (must_end rest) 0 (length rest) (λ m from below. fails m (omega (arith, below))))

pub first_end_at : (rest : List CharInfo) (k : ℕ) → k < length rest → ((j : ℕ) → j < k → (may_end rest j || cluster_ends_at rest j) ≡ false)
    → (may_end rest k || cluster_ends_at rest k) ≡ true → first_end rest ≡ k
first_end_at rest k within before here =
    ap (λ o. unwrap_or o (length rest - 1)) (least_found (λ j. may_end rest j || cluster_ends_at rest j) 0 (length rest) k (omega arith) (omega (arith, within)) here (λ m from below. before m below))

pub first_end_none : (rest : List CharInfo) → ((j : ℕ) → j < length rest → (may_end rest j || cluster_ends_at rest j) ≡ false) → first_end rest ≡ length rest - 1
first_end_none rest fails =
    ap (λ o. unwrap_or o (length rest - 1)) (least_none (λ j. may_end rest j || cluster_ends_at rest j) 0 (length rest) (λ m from below. fails m (omega (arith, below))))

-- if no number from `low` to k - 1 passes, and the default is at least k and below n, the result of the
-- search is at least k and below n
pub least_within : (p : ℕ → Bool) (low count n d k : ℕ) → low + count ≡ n → k ≤ d → d < n → ((m : ℕ) → low ≤ m → m < k → p m ≡ false)
    → (k ≤ unwrap_or (least p low count) d) × (unwrap_or (least p low count) d < n)
least_within p low zero n d k e above below fails = (above, below)
least_within p low (suc count) n d k e above below fails =
    elim (cases_Bool (p low)) [
      | inl passed ↦ elim (cases_lt low k) [
        | inl before ↦ absurd (both_ways (p low) (fails low (omega arith) before) passed)
        | inr after ↦
            let found : unwrap_or (least p low (suc count)) d ≡ low = ap (λ o. unwrap_or o d) (cond-true (p low) (Some low) (least p (suc low) count) passed) in
            (omega (arith, found, after), omega (arith, found, e))
      ]
      | inr failed ↦
          let skipped : unwrap_or (least p low (suc count)) d ≡ unwrap_or (least p (suc low) count) d = ap (λ o. unwrap_or o d) (cond-false (p low) (Some low) (least p (suc low) count) failed) in
          let rest = least_within p (suc low) count n d k (omega (arith, e)) above below (λ m from to. fails m (omega (arith, from)) to) in
          (omega (arith, skipped, rest.0), omega (arith, skipped, rest.1))
    ]

-- if there is no mandatory break before k, the first position at which the line must end is k or later
pub stop_from : (rest : List CharInfo) (k : ℕ) → k < length rest → ((j : ℕ) → j < k → must_end rest j ≡ false) → (k ≤ stop rest) × (stop rest < length rest)
stop_from rest k within fails =
    least_within (must_end rest) 0 (length rest) (length rest) (length rest - 1) k (omega arith) (omega (arith, within)) (omega (arith, within)) (λ m from below. fails m below)

-- ---- reading characters that fit

-- if all numbers below n pass `fit`, the greatest number that passes both tests is the greatest that passes `test`
greatest_fits : (test fit : ℕ → Bool) (n : ℕ) → ((k : ℕ) → k < n → fit k ≡ true) → greatest (λ k. test k && fit k) n ≡ greatest test n
greatest_fits test fit zero fits = refl
greatest_fits test fit (suc n) fits =
    elim (cases_Bool (test n)) [
      | inl t ↦ cond-true (test n && fit n) (Some n) (greatest (λ k. test k && fit k) n) (ap (λ b. b && fit n) t ∙ fits n (omega arith))
          ∙ sym (cond-true (test n) (Some n) (greatest test n) t)
      | inr f ↦ cond-false (test n && fit n) (Some n) (greatest (λ k. test k && fit k) n) (ap (λ b. b && fit n) f)
          ∙ greatest_fits test fit n (λ k below. fits k (omega (arith, below)))
          ∙ sym (cond-false (test n) (Some n) (greatest test n) f)
    ]

pub fits_none : (width : ℕ) (rest : List CharInfo) → FitsUpTo width rest 0 0
fits_none width rest = record {
  within = omega arith;
  sum_is = refl;
  most = omega arith;
  fits = λ k below. absurd (omega (arith, below));
  no_must = λ k below. absurd (omega (arith, below));
}

-- the characters before the tail of the characters read are no wider than the width
shown_fits : (width : ℕ) (rest : List CharInfo) (n : ℕ) → ((k : ℕ) → k < n → fits_to width rest k ≡ true) → columns (before_tail (take n rest)) ≤ width
shown_fits width rest zero fits = omega arith
shown_fits width rest (suc n) fits = leb-true (columns (before_tail (take (suc n) rest))) width (fits n (omega arith))

-- the next character fits if it may be in a tail, or if all columns up to its end fit
pub fits_here : (width : ℕ) (rest : List CharInfo) (n sum next : ℕ) → n < length rest → FitsUpTo width rest n sum → next ≡ advance sum (place_at rest n)
    → (trails (place_at rest n) ≡ false → next ≤ width) → fits_to width rest n ≡ true
fits_here width rest n sum next within read e narrow =
    le-leb (columns (before_tail (take (suc n) rest))) width
    (elim (cases_Bool (trails (place_at rest n))) [
      | inl trailing ↦ omega (
        arith,
        shown_after rest n within,
        cond-true (trails (place_at rest n)) (columns (before_tail (take n rest))) (columns (take (suc n) rest)) trailing,
        shown_fits width rest n read.fits,
      )
      | inr counts ↦ omega (
        arith,
        shown_after rest n within,
        cond-false (trails (place_at rest n)) (columns (before_tail (take n rest))) (columns (take (suc n) rest)) counts,
        columns_after rest n within,
        ap (λ m. advance m (place_at rest n)) read.sum_is,
        e,
        narrow counts,
      )
    ])

-- the next character does not fit if it is never in a tail and the columns up to its end exceed the width
misfits_here : (width : ℕ) (rest : List CharInfo) (n sum next : ℕ) → n < length rest → FitsUpTo width rest n sum → next ≡ advance sum (place_at rest n)
    → trails (place_at rest n) ≡ false → width < next → fits_to width rest n ≡ false
misfits_here width rest n sum next within read e counts wide =
    lt-leb (columns (before_tail (take (suc n) rest))) width (omega (
      arith,
      shown_after rest n within,
      cond-false (trails (place_at rest n)) (columns (before_tail (take n rest))) (columns (take (suc n) rest)) counts,
      columns_after rest n within,
      ap (λ m. advance m (place_at rest n)) read.sum_is,
      e,
      wide,
    ))

-- `FitsUpTo` still holds after one more character that fits and has no mandatory break after it
pub fits_more : (width : ℕ) (rest : List CharInfo) (n sum next : ℕ) → n < length rest → FitsUpTo width rest n sum → next ≡ advance sum (place_at rest n)
    → next ≤ sum + 4294967295 → fits_to width rest n ≡ true → must_end rest n ≡ false → FitsUpTo width rest (n + 1) next
fits_more width rest n sum next within read e most fit must =
    let more : suc n ≡ n + 1 = omega arith in
    subst (λ m. FitsUpTo width rest m next) more (record {
      within = omega (arith, within);
      sum_is = e ∙ ap (λ m. advance m (place_at rest n)) read.sum_is ∙ sym (columns_after rest n within);
      most = omega (arith, most, read.most);
      fits = λ k below. elim (cases_eq k n) [
        | inl same ↦ ap (fits_to width rest) same ∙ fit
        | inr ne ↦ read.fits k (omega (arith, below, ne))
      ];
      no_must = λ k below. elim (cases_eq k n) [
        | inl same ↦ ap (must_end rest) same ∙ must
        | inr ne ↦ read.no_must k (omega (arith, below, ne))
      ];
    })

-- if the first m characters, including their tail, are no wider than the width, a line fits up to each of
-- them
fits_before : (width : ℕ) (rest : List CharInfo) (k m : ℕ) → k < m → m ≤ length rest → columns (take m rest) ≤ width → fits_to width rest k ≡ true
fits_before width rest k m below within narrow =
    let part : take (suc k) (take m rest) ≡ take (suc k) rest = take-take (suc k) m rest (omega (arith, below)) in
    let less : columns (take (suc k) rest) ≤ columns (take m rest) = subst (λ (xs : List CharInfo). columns xs ≤ columns (take m rest)) part (columns_take (suc k) (take m rest)) in
    le-leb (columns (before_tail (take (suc k) rest))) width (omega (arith, shown_most rest (suc k) (omega (arith, below, within)), less, narrow))

none_at : {X : Type 0} (p : X → Bool) (xs : List X) (k : ℕ) (d : X) → list_any p xs ≡ false → p d ≡ false → p (get_or xs k d) ≡ false
none_at p xs k d none past =
    elim (cases_lt k (length xs)) [
      | inl within ↦ elim (cases_Bool (p (get_or xs k d))) [
        | inl passed ↦ absurd (both_ways (list_any p xs) none (list_any_at p xs k d within passed))
        | inr failed ↦ failed
      ]
      | inr after ↦ ap p (get_or_past xs k d after) ∙ past
    ]

-- the columns before a group of characters plus the columns of the group are the columns up to the group's
-- end
pub columns_group : (rest : List CharInfo) (n m sum more : ℕ) (piece : List CharInfo) → n ≤ m → piece ≡ slice_range rest n m → sum ≡ columns (take n rest)
    → fold advance sum piece ≡ sum + more → sum + more ≡ columns (take m rest)
columns_group rest n m sum more piece forward is before total =
    let joined : take m rest ≡ take n rest ++ piece =
    let whole : n + (m - n) ≡ m = omega (arith, forward) in
    ap (λ j. take j rest) (sym whole) ∙ take-add n (m - n) rest ∙ ap (λ (xs : List CharInfo). take n rest ++ xs) (sym is) in
    sym total ∙ ap (λ j. fold advance j piece) before ∙ sym (fold-append advance 0 (take n rest) piece) ∙ ap columns (sym joined)

-- `FitsUpTo` still holds after a group of characters that fits and contains no mandatory break
pub fits_group : (width : ℕ) (rest : List CharInfo) (n m sum more : ℕ) (piece : List CharInfo) → FitsUpTo width rest n sum → n ≤ m → m ≤ length rest
    → piece ≡ slice_range rest n m → fold advance sum piece ≡ sum + more → more ≤ 4294967295 * (m - n) → sum + more ≤ width → list_any (λ p. is_must p.mark) piece ≡ false
    → FitsUpTo width rest m (sum + more)
fits_group width rest n m sum more piece read forward within is total most narrow none =
    let sum_is : sum + more ≡ columns (take m rest) = columns_group rest n m sum more piece forward is read.sum_is total in
    record {
      within = within;
      sum_is = sum_is;
      most = omega (arith, most, read.most, forward);
      fits = λ k below. fits_before width rest k m below within (omega (arith, sum_is, narrow));
      no_must = λ k below. elim (cases_lt k n) [
        | inl before ↦ read.no_must k before
        | inr after ↦
            let at : n + (k - n) ≡ k = omega (arith, after) in
            let there : place_at piece (k - n) ≡ place_at rest k =
            ap (λ (xs : List CharInfo). place_at xs (k - n)) is
            ∙ get_or-take (m - n) (drop n rest) (k - n) nothing (omega (arith, below, after))
            ∙ get_or-drop n rest (k - n) nothing ∙ ap (place_at rest) at in
            ap (λ (p : CharInfo). is_must p.mark) (sym there)
            ∙ none_at (λ p. is_must p.mark) piece (k - n) nothing none refl
      ];
    }

-- if the next character does not fit, the greatest position that passes both tests is the greatest below n
-- that passes `test`
pub read_to_misfit : (width : ℕ) (rest : List CharInfo) (test : ℕ → Bool) (n sum next : ℕ) → n < length rest → FitsUpTo width rest n sum → next ≡ advance sum (place_at rest n)
    → trails (place_at rest n) ≡ false → width < next → greatest (λ k. test k && fits_to width rest k) (suc (stop rest)) ≡ greatest test n
read_to_misfit width rest test n sum next within read e counts wide =
    let stops = stop_from rest n within read.no_must in
    let here : fits_to width rest n ≡ false = misfits_here width rest n sum next within read e counts wide in
    greatest_skips (λ k. test k && fits_to width rest k) n (suc (stop rest)) (omega (arith, stops.0))
    (λ k from to. and_right (test k) (fits_to width rest k) (misfits width rest n k from (omega (arith, to, stops.1)) here))
    ∙ greatest_fits test (fits_to width rest) n read.fits

-- if the next character fits and the line must end after it, the greatest position that passes both tests is
-- the greatest up to n that passes `test`
pub read_to_stop : (width : ℕ) (rest : List CharInfo) (test : ℕ → Bool) (n sum : ℕ) → n < length rest → FitsUpTo width rest n sum → fits_to width rest n ≡ true → must_end rest n ≡ true
    → greatest (λ k. test k && fits_to width rest k) (suc (stop rest)) ≡ greatest test (suc n)
read_to_stop width rest test n sum within read fit must =
    ap (λ m. greatest (λ k. test k && fits_to width rest k) (suc m)) (stop_at rest n within read.no_must must)
    ∙ greatest_fits test (fits_to width rest) (suc n) (λ k below. elim (cases_eq k n) [
      | inl same ↦ ap (fits_to width rest) same ∙ fit
      | inr ne ↦ read.fits k (omega (arith, below, ne))
    ])

-- if all characters fit, the greatest position that passes both tests is the greatest that passes `test`
pub read_to_end : (width : ℕ) (rest : List CharInfo) (test : ℕ → Bool) (n sum : ℕ) → 0 < length rest → n ≡ length rest → FitsUpTo width rest n sum
    → greatest (λ k. test k && fits_to width rest k) (suc (stop rest)) ≡ greatest test n
read_to_end width rest test n sum some e read =
    let none : stop rest ≡ length rest - 1 = stop_none rest (λ k below. read.no_must k (omega (arith, below, e))) in
    let same : suc (stop rest) ≡ n = omega (arith, e, none, some) in
    ap (greatest (λ k. test k && fits_to width rest k)) same ∙ greatest_fits test (fits_to width rest) n read.fits

-- ---- lines one after another

-- the next line starts after the `left` remaining characters of the current line
pub starts_skip : (nobreak : Bool) (width place left : ℕ) (rest : List CharInfo) → left ≤ length rest
    → starts nobreak width place left rest ≡ starts nobreak width (place + left) 0 (drop left rest)
starts_skip nobreak width place zero rest within = ap (λ n. starts nobreak width n 0 rest) (omega arith)
starts_skip nobreak width place (suc left) [] within = absurd (omega (arith, within))
starts_skip nobreak width place (suc left) (p ∷ rest) within =
    starts_skip nobreak width (suc place) left rest (omega (arith, within)) ∙ ap (λ n. starts nobreak width n 0 (drop left rest)) (omega arith)

-- the line starts are the start of the first line, followed by the starts of the lines after it
pub starts_line : (nobreak : Bool) (width place : ℕ) (rest : List CharInfo) → 0 < length rest → line_len nobreak width rest ≤ length rest
    → starts nobreak width place 0 rest ≡ place ∷ starts nobreak width (place + line_len nobreak width rest) 0 (drop (line_len nobreak width rest) rest)
starts_line nobreak width place [] some within = absurd (omega (arith, some))
starts_line nobreak width place (p ∷ rest) some within =
    let n : ℕ = if nobreak then stop (p ∷ rest) else line_end width (p ∷ rest) in
    let less : suc n - 1 ≡ n = omega arith in
    let more : suc place + n ≡ place + suc n = omega arith in
    ap (λ xs. place ∷ xs)
    (ap (λ m. starts nobreak width (suc place) m rest) less
    ∙ starts_skip nobreak width (suc place) n rest (omega (arith, within))
    ∙ ap (λ m. starts nobreak width m 0 (drop n rest)) more)

-- ---- where lines start

-- if all line starts are below n, appending n yields line starts of a longer paragraph
pub starts_more : (n m : ℕ) (starts : List ℕ) → AreStarts n starts → n < m → AreStarts m (starts ++ n ∷ [])
starts_more n m starts are order =
    let size : length (starts ++ n ∷ []) ≡ length starts + 1 = length-append starts (n ∷ []) in
    let last : get_or (starts ++ n ∷ []) (length starts) 0 ≡ n = get_or-append_seam starts n [] 0 in
    record {
      below = λ k within.
          elim (cases_lt k (length starts)) [
            | inl old ↦ omega (arith, get_or-append starts (n ∷ []) 0 k old, are.below k old, order)
            | inr new ↦
                let e : length starts ≡ k = omega (arith, new, within, size) in
                let here : get_or (starts ++ n ∷ []) k 0 ≡ n = subst (λ j. get_or (starts ++ n ∷ []) j 0 ≡ n) e last in
                omega (arith, here, order)
          ];
      rising = λ k within.
          let before : k < length starts = omega (arith, within, size) in
          elim (cases_lt (k + 1) (length starts)) [
            | inl old ↦ omega (arith, get_or-append starts (n ∷ []) 0 k before, get_or-append starts (n ∷ []) 0 (k + 1) old, are.rising k old)
            | inr new ↦
                let e : length starts ≡ k + 1 = omega (arith, new, before) in
                let here : get_or (starts ++ n ∷ []) (k + 1) 0 ≡ n = subst (λ j. get_or (starts ++ n ∷ []) j 0 ≡ n) e last in
                omega (arith, here, get_or-append starts (n ∷ []) 0 k before, are.below k before)
          ];
    }

pub no_starts : (n : ℕ) → AreStarts n []
no_starts n = record { below = λ k within. absurd (omega (arith, within)); rising = λ k within. absurd (omega (arith, within)) }
