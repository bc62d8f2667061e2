-- The pairs of paragraphs that a loop compares: a range of old paragraphs with new ones, or all paragraphs
-- with themselves at another width.
use Rattle.std.proofs.Common.{◌≡◌, ℕ, zero, suc, ◌+◌, ◌-◌, ◌<◌, ◌≤◌, ◌⊎◌, true, false, List, [], ◌∷◌, length, map, min, take, drop, get_or, sum_by, Some, Option, unwrap_or, refl, sym, ap, subst, ◌∙◌, inl, inr, arith}
use Rattle.std.specs.Prelude.{not}
use Rattle.std.specs.List.{All, AllZip, slice_get, slice_range}
use Rattle.std.proofs.lemmas.Bool.{cases_lt, not-false, not-true}
use Rattle.std.proofs.Math.Seq.{drop-length}
use Rattle.std.proofs.lemmas.List.{append-nil, drop_more, get_or-drop, get_or-map, get_or-take, length-append, length-drop, length-map, length-take-le}
use Rattle.std.proofs.lemmas.Option.{get_or_from_slice_get, slice_get_within, unwrap_or-slice_get}
use Rattle.lines.specs.Extents.{LineExtents}
use Rattle.lines.specs.Layouts.{visuals, Layout, Rules}
use Rattle.lines.specs.Matching.{MatchAtEnd, MatchAtStart}
use Rattle.lines.specs.Visual.{Visual}
use Rattle.session.specs.Changes.{HasLines}
use Rattle.session.specs.Kept.{lines_in, BringsTo, IsFresh}
use Rattle.session.specs.Matching.{at_width, AreBrought, MatchingAtEnd, MatchingAtStart}
use Rattle.session.specs.declared.changed.Matching.{Matching}
use Rattle.session.proofs.BorderLemmas.{length-lines, lines_of}
use Rattle.session.proofs.ChangedLemmas.{both_parts, end_goes_on, end_is_found, end_within, start_goes_on, start_is_found, start_within, EndSoFar, StartSoFar}

-- if `slice_get` reads an item at an index, `get_or` returns the same item
item : (ks : List Layout) (i : ℕ) (l : Layout) → Some l ≡ slice_get ks i → get_or ks i l ≡ l
item ks i l read = sym (unwrap_or-slice_get ks i l) ∙ ap (λ o. unwrap_or o l) (sym read)

has_lines : (ks : List Layout) (i : ℕ) (l : Layout) → i < length ks → get_or ks i l ≡ l → All HasLines ks → HasLines l
has_lines ks i l below is all = subst HasLines is (all i l below)

pub lines_within : (ks : List Layout) (first end : ℕ) → length (lines_in (slice_range ks first end)) ≤ sum_by lines_of ks
lines_within ks first end =
    omega (
      arith,
      length-lines ks,
      ap length (both_parts ks first),
      length-append (lines_in (take first ks)) (lines_in (drop first ks)),
      ap length (both_parts (drop first ks) (end - first)),
      length-append (lines_in (take (end - first) (drop first ks))) (lines_in (drop (end - first) (drop first ks))),
    )

-- ---- paragraphs from one index to another, and new ones

module _ (ks new : List Layout) (first end i count : ℕ) (order : first ≤ end) (within : end ≤ length ks) (in_old : i < end - first) (in_new : i < length new)
    (o w : Layout) (m : Matching) where
  abbrev old : List Layout
  old = slice_range ks first end

  size : length old ≡ end - first
  size = length-take-le (end - first) (drop first ks) (omega (arith, within, order, length-drop first ks))

  here : (k at : ℕ) → k < end - first → first + k ≡ at → Some o ≡ slice_get ks at → get_or old k o ≡ o
  here k at below e read = get_or-take (end - first) (drop first ks) k o below ∙ get_or-drop first ks k o ∙ ap (λ n. get_or ks n o) e ∙ item ks at o read

  module _ (so_far : StartSoFar old new i count) (read : Some o ≡ slice_get ks (first + i)) (is : w ≡ get_or new i w) (pair : MatchingAtStart o w m) where
    below : i < length old
    below = omega (arith, size, in_old)

    old-is : get_or old i o ≡ o
    old-is = here i (first + i) in_old refl read

    pub fits_start : count + m.count ≤ sum_by lines_of ks
    fits_start = omega (arith, start_within old new i count so_far o w below in_new old-is (sym is) m pair, lines_within ks first end)

    pub goes_on_start : not m.is_whole ≡ false → StartSoFar old new (i + 1) (count + m.count)
    goes_on_start more = start_goes_on old new i count so_far o w below in_new old-is (sym is) m pair (not-false m.is_whole more)

    pub found_start : not m.is_whole ≡ true → All HasLines ks → All HasLines new → MatchAtStart (lines_in old) (lines_in new) (count + m.count)
    found_start stop all all_2 =
        start_is_found old new i count so_far o w below in_new old-is (sym is) m pair (not-true m.is_whole stop)
        (has_lines ks (first + i) o (slice_get_within ks (first + i) o (sym read)) (item ks (first + i) o read) all) (has_lines new i w in_new (sym is) all_2)

  module _ (so_far : EndSoFar old new i count) (read : Some o ≡ slice_get ks (end - i - 1)) (is : w ≡ get_or new (length new - i - 1) w) (pair : MatchingAtEnd o w m) where
    below_2 : i < length old
    below_2 = omega (arith, size, in_old)

    last-is : get_or old (length old - i - 1) o ≡ o
    last-is =
        let n : length old - i - 1 ≡ end - first - i - 1 = omega (arith, size) in
        let e : first + (end - first - i - 1) ≡ end - i - 1 = omega (arith, in_old, order) in
        ap (λ k. get_or old k o) n ∙ here (end - first - i - 1) (end - i - 1) (omega (arith, in_old)) e read

    pub fits_end : count + m.count ≤ sum_by lines_of ks
    fits_end = omega (arith, end_within old new i count so_far o w below_2 in_new last-is (sym is) m pair, lines_within ks first end)

    pub goes_on_end : not m.is_whole ≡ false → EndSoFar old new (i + 1) (count + m.count)
    goes_on_end more = end_goes_on old new i count so_far o w below_2 in_new last-is (sym is) m pair (not-false m.is_whole more)

    pub found_end : not m.is_whole ≡ true → All HasLines ks → All HasLines new → MatchAtEnd (lines_in old) (lines_in new) (count + m.count)
    found_end stop all all_2 =
        end_is_found old new i count so_far o w below_2 in_new last-is (sym is) m pair (not-true m.is_whole stop)
        (has_lines ks (end - i - 1) o (slice_get_within ks (end - i - 1) o (sym read)) (item ks (end - i - 1) o read) all)
        (has_lines new (length new - i - 1) w (omega (arith, in_new)) (sym is) all_2)

-- all paragraphs of one of the lists were compared
pub all_compared : (ks new : List Layout) (first end i most : ℕ) → first ≤ end → end ≤ length ks → most ≤ i → most ≡ min (end - first) (length new)
    → (length (slice_range ks first end) ≤ i) ⊎ (length new ≤ i)
all_compared ks new first end i most order within past is =
    let size : length (slice_range ks first end) ≡ end - first = length-take-le (end - first) (drop first ks) (omega (arith, within, order, length-drop first ks)) in
    elim (cases_lt (end - first) (length new)) [
      | inl less ↦ inl (omega (arith, size, less, past, is))
      | inr more ↦ inr (omega (arith, more, past, is))
    ]

-- ---- one paragraph, and a new one

-- if all lines but the last of two equally long lists match at the start, none match at the end
pub only_last_differs : (xs ys : List Visual) (s : ℕ) → MatchAtStart xs ys s → length xs ≡ length ys → s + 1 ≡ length xs → MatchAtEnd xs ys 0
only_last_differs xs ys s start sizes left =
    let i : length xs - 0 ≡ length xs = omega arith in
    let j : length ys - 0 ≡ length ys = omega arith in
    let last : length xs - 0 - 1 ≡ s = omega (arith, left) in
    let last_2 : length ys - 0 - 1 ≡ s = omega (arith, left, sizes) in
    record {
      in_first = omega arith;
      in_second = omega arith;
      same = ap (λ n. drop n xs) i ∙ drop-length xs ∙ sym (ap (λ n. drop n ys) j ∙ drop-length ys);
      most = λ first second same. start.most (omega (arith, left)) (omega (arith, left, sizes)) (sym (ap (slice_get xs) last) ∙ same ∙ ap (slice_get ys) last_2);
    }

range_of_one : (ks : List Layout) (first end : ℕ) (o : Layout) → Some o ≡ slice_get ks first → end - first ≡ 1 → slice_range ks first end ≡ o ∷ []
range_of_one ks first end o read one =
    ap (λ n. take n (drop first ks)) one ∙ ap (take 1) (drop_more ks first o (slice_get_within ks first o (sym read)))
    ∙ ap (λ (x : Layout). x ∷ []) (get_or_from_slice_get ks first o o (sym read))

pub list_of_one : (ks : List Layout) (o : Layout) → length ks ≡ 1 → o ≡ get_or ks 0 o → ks ≡ o ∷ []
list_of_one [] o size is = absurd (cc size)
list_of_one (k ∷ []) o size is = ap (λ (x : Layout). x ∷ []) (sym is)
list_of_one (k ∷ l ∷ ks) o size is = absurd (omega (arith, size))

module _ (ks new : List Layout) (first end s : ℕ) (o w : Layout) (read : Some o ≡ slice_get ks first) (one : end - first ≡ 1) (size : length new ≡ 1) (is : w ≡ get_or new 0 w) where
  one-old : lines_in (slice_range ks first end) ≡ visuals o
  one-old = ap lines_in (range_of_one ks first end o read one) ∙ append-nil (visuals o)

  one-new : lines_in new ≡ visuals w
  one-new = ap lines_in (list_of_one new w size is) ∙ append-nil (visuals w)

  pub pair_at_start : MatchAtStart (visuals o) (visuals w) s → MatchAtStart (lines_in (slice_range ks first end)) (lines_in new) s
  pair_at_start match = subst (λ xs. MatchAtStart xs (lines_in new) s) (sym one-old) (subst (λ ys. MatchAtStart (visuals o) ys s) (sym one-new) match)

  pub pair_at_end : MatchAtEnd (visuals o) (visuals w) s → MatchAtEnd (lines_in (slice_range ks first end)) (lines_in new) s
  pair_at_end match = subst (λ xs. MatchAtEnd xs (lines_in new) s) (sym one-old) (subst (λ ys. MatchAtEnd (visuals o) ys s) (sym one-new) match)

-- ---- all paragraphs, at another width

zip_at : {A B : Type 0} (R : A → B → Type 0) (xs : List A) (ys : List B) (i : ℕ) (x : A) (y : B) → AllZip R xs ys → Some x ≡ slice_get xs i → i < length ys → y ≡ get_or ys i y → R x y
zip_at R [] ys i x y all read below is = absurd (cc read)
zip_at R (a ∷ xs) [] i x y all read below is = absurd (omega (arith, below))
zip_at R (a ∷ xs) (b ∷ ys) zero x y all read below is = subst (λ z. R z y) (sym (ap (λ o. unwrap_or o x) read)) (subst (R a) (sym is) all.0)
zip_at R (a ∷ xs) (b ∷ ys) (suc i) x y all read below is = zip_at R xs ys i x y all.1 read (omega (arith, below)) is

zip_size : {A B : Type 0} (R : A → B → Type 0) (xs : List A) (ys : List B) → AllZip R xs ys → length ys ≡ length xs
zip_size R [] [] all = refl
zip_size R [] (y ∷ ys) all = absurd all
zip_size R (x ∷ xs) [] all = absurd all
zip_size R (x ∷ xs) (y ∷ ys) all = ap suc (zip_size R xs ys all.1)

module _ (rules : Rules) (width : ℕ) (ks : List Layout) (parts : List (Option LineExtents)) (brought : AreBrought rules width ks parts) where
  abbrev new : List Layout
  new = map (at_width rules width) ks

  number : length new ≡ length ks
  number = length-map ks (at_width rules width)

  pub parts_number : length parts ≡ length ks
  parts_number = zip_size (BringsTo rules width) ks parts brought.brought

  pub all_parts : (i : ℕ) → length parts ≤ i → (length ks ≤ i) ⊎ (length new ≤ i)
  all_parts i past = inl (omega (arith, past, parts_number))

  module _ (at i count : ℕ) (in_parts : at < length parts) (o : Layout) (part : Option LineExtents) (m : Matching) (read : Some o ≡ slice_get ks at) (is : part ≡ get_or parts at part) where
    at_below : at < length ks
    at_below = slice_get_within ks at o (sym read)

    new-is : get_or new at (at_width rules width o) ≡ at_width rules width o
    new-is = get_or-map (at_width rules width) ks at o (at_width rules width o) at_below ∙ ap (at_width rules width) (item ks at o read)

    fresh : IsFresh rules o
    fresh = subst (IsFresh rules) (item ks at o read) (brought.laid at o at_below)

    brings : BringsTo rules width o part
    brings = zip_at (BringsTo rules width) ks parts at o part brought.brought read in_parts is

    module _ (so_far : StartSoFar ks new i count) (same : at ≡ i)
        (found : (by : Rules) (to : ℕ) → IsFresh by o → BringsTo by to o part → MatchingAtStart o (at_width by to o) m) where
      pair : MatchingAtStart o (at_width rules width o) m
      pair = found rules width fresh brings

      o-is : get_or ks i o ≡ o
      o-is = ap (λ n. get_or ks n o) (sym same) ∙ item ks at o read

      w-is : get_or new i (at_width rules width o) ≡ at_width rules width o
      w-is = ap (λ n. get_or new n (at_width rules width o)) (sym same) ∙ new-is

      pub stays_fit_start : count + m.count ≤ sum_by lines_of ks
      stays_fit_start =
          omega (arith, start_within ks new i count so_far o (at_width rules width o) (omega (arith, same, at_below)) (omega (arith, same, at_below, number)) o-is w-is m pair, length-lines ks)

      pub stays_goes_on_start : not m.is_whole ≡ false → StartSoFar ks new (i + 1) (count + m.count)
      stays_goes_on_start more =
          start_goes_on ks new i count so_far o (at_width rules width o) (omega (arith, same, at_below)) (omega (arith, same, at_below, number)) o-is w-is m pair (not-false m.is_whole more)

      pub stays_found_start : not m.is_whole ≡ true → All HasLines ks → All HasLines new → MatchAtStart (lines_in ks) (lines_in new) (count + m.count)
      stays_found_start stop all all_2 =
          start_is_found ks new i count so_far o (at_width rules width o) (omega (arith, same, at_below)) (omega (arith, same, at_below, number)) o-is w-is m pair (not-true m.is_whole stop)
          (has_lines ks at o at_below (item ks at o read) all) (has_lines new at (at_width rules width o) (omega (arith, at_below, number)) new-is all_2)

    module _ (so_far : EndSoFar ks new i count) (same : at ≡ length parts - i - 1) (in_i : i < length parts)
        (found : (by : Rules) (to : ℕ) → IsFresh by o → BringsTo by to o part → MatchingAtEnd o (at_width by to o) m) where
      pair_2 : MatchingAtEnd o (at_width rules width o) m
      pair_2 = found rules width fresh brings

      o-is_2 : get_or ks (length ks - i - 1) o ≡ o
      o-is_2 =
          let e : length ks - i - 1 ≡ at = omega (arith, same, parts_number) in
          ap (λ n. get_or ks n o) e ∙ item ks at o read

      w-is_2 : get_or new (length new - i - 1) (at_width rules width o) ≡ at_width rules width o
      w-is_2 =
          let e : length new - i - 1 ≡ at = omega (arith, same, parts_number, number) in
          ap (λ n. get_or new n (at_width rules width o)) e ∙ new-is

      pub stays_fit_end : count + m.count ≤ sum_by lines_of ks
      stays_fit_end =
          omega (arith, end_within ks new i count so_far o (at_width rules width o) (omega (arith, in_i, parts_number)) (omega (arith, in_i, parts_number, number)) o-is_2 w-is_2 m pair_2, length-lines ks)

      pub stays_goes_on_end : not m.is_whole ≡ false → EndSoFar ks new (i + 1) (count + m.count)
      stays_goes_on_end more =
          end_goes_on ks new i count so_far o (at_width rules width o) (omega (arith, in_i, parts_number)) (omega (arith, in_i, parts_number, number)) o-is_2 w-is_2 m pair_2 (not-false m.is_whole more)

      pub stays_found_end : not m.is_whole ≡ true → All HasLines ks → All HasLines new → MatchAtEnd (lines_in ks) (lines_in new) (count + m.count)
      stays_found_end stop all all_2 =
          end_is_found ks new i count so_far o (at_width rules width o) (omega (arith, in_i, parts_number)) (omega (arith, in_i, parts_number, number)) o-is_2 w-is_2 m pair_2 (not-true m.is_whole stop)
          (has_lines ks at o at_below (item ks at o read) all) (has_lines new at (at_width rules width o) (omega (arith, at_below, number)) new-is all_2)
