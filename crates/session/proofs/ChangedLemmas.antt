-- How many lines at the start and at the end of two lists of paragraphs are the same.
use Rattle.std.proofs.Common.{◌≡◌, ℕ, ◌+◌, ◌-◌, ◌<◌, ◌≤◌, ◌⊎◌, Bool, true, false, List, [], ◌∷◌, ◌++◌, length, take, drop, get_or, Some, None, refl, sym, ap, ap₂, subst, ◌∙◌, inl, inr, arith}
use Rattle.std.specs.Prelude.{option_map, unwrap_or}
use Rattle.std.specs.List.{slice_get}
use Rattle.std.proofs.lemmas.Bool.{cases_lt}
use Rattle.std.proofs.lemmas.List.{append-nil, append_assoc, drop_all, drop_more, length-append, length-drop, length-take, nil_from_length, take-append-drop, take_all, take_more}
use Rattle.std.proofs.lemmas.List.Concat.{flat_map-append}
use Rattle.std.proofs.lemmas.Option.{slice_get_cases}
use Rattle.lines.specs.Layouts.{visuals, Layout}
use Rattle.lines.specs.Matching.{MatchAtEnd, MatchAtStart}
use Rattle.lines.specs.Visual.{Visual, visual_of}
use Rattle.lines.proofs.PageLemmas.{visual_at}
use Rattle.session.specs.Changes.{HasLines}
use Rattle.session.specs.Kept.{lines_in}
use Rattle.session.specs.Matching.{MatchingAtEnd, MatchingAtStart}
use Rattle.session.specs.declared.changed.Matching.{Matching}
use Rattle.session.proofs.BorderLemmas.{length-visuals}
use Rattle.session.proofs.LineLemmas.{slice_get_left}
use Rattle.session.proofs.MatchLemmas.{end_before, end_stops, start_after, start_stops, Begins, IsPart}

abbrev is_first : Visual → Bool
is_first v = v.is_first

-- only the first line of a paragraph is marked as its first line
first_line : (l : Layout) → IsPart is_first (visuals l)
first_line l k x is = elim (slice_get_cases l.lines k).1 [
  | inl found ↦
      let line : Visual = visual_of l.base l.tab_width l.advances l.text l.lines k found.0 in
      let same : Some x ≡ Some line = sym is ∙ sym (visual_at l k) ∙ ap (option_map (visual_of l.base l.tab_width l.advances l.text l.lines k)) found.2 in
      ap (λ o. (unwrap_or o x).is_first) same
  | inr past ↦
      let none : Some x ≡ None = sym is ∙ sym (visual_at l k) ∙ ap (option_map (visual_of l.base l.tab_width l.advances l.text l.lines k)) past.1 in
      absurd (cc none)
]

first_of : (ks : List Layout) → Begins is_first (lines_in ks)
first_of [] x is = absurd (cc is)
first_of (l ∷ ks) x is = elim (cases_lt 0 (length (visuals l))) [
  | inl some ↦ first_line l 0 x (sym (slice_get_left (visuals l) (lines_in ks) 0 some) ∙ is)
  | inr none ↦
      let empty : visuals l ≡ [] = nil_from_length (visuals l) (omega arith) in
      first_of ks x (sym (ap (λ vs. slice_get (vs ++ lines_in ks) 0) empty) ∙ is)
]

-- the lines of all paragraphs are those before a paragraph, its own, and those after it
split : (ks : List Layout) (i : ℕ) (l : Layout) → i < length ks → get_or ks i l ≡ l → lines_in ks ≡ lines_in (take i ks) ++ (visuals l ++ lines_in (drop (i + 1) ks))
split ks i l below item =
    ap lines_in (sym (take-append-drop i ks) ∙ ap (λ (r : List Layout). take i ks ++ r) (drop_more ks i l below ∙ ap (λ (x : Layout). x ∷ drop (i + 1) ks) item))
    ∙ flat_map-append visuals (take i ks) (l ∷ drop (i + 1) ks)

pub both_parts : (ks : List Layout) (i : ℕ) → lines_in ks ≡ lines_in (take i ks) ++ lines_in (drop i ks)
both_parts ks i = ap lines_in (sym (take-append-drop i ks)) ∙ flat_map-append visuals (take i ks) (drop i ks)

one_more : (ks : List Layout) (i : ℕ) (l : Layout) → i < length ks → get_or ks i l ≡ l → lines_in (take (i + 1) ks) ≡ lines_in (take i ks) ++ visuals l
one_more ks i l below item =
    ap lines_in (take_more ks i l below ∙ ap (λ (x : Layout). take i ks ++ x ∷ []) item) ∙ flat_map-append visuals (take i ks) (l ∷ [])
    ∙ ap (λ vs. lines_in (take i ks) ++ vs) (append-nil (visuals l))

-- if all items of two lists match at the start or at the end, the lists are equal
whole_start : {A : Type 0} (xs ys : List A) (k : ℕ) → length xs ≤ k → length ys ≤ k → MatchAtStart xs ys k → xs ≡ ys
whole_start xs ys k x y m = sym (take_all k xs x) ∙ m.same ∙ take_all k ys y

whole_end : {A : Type 0} (xs ys : List A) (k : ℕ) → length xs ≤ k → length ys ≤ k → MatchAtEnd xs ys k → xs ≡ ys
whole_end xs ys k x y m =
    let a : length xs - k ≡ 0 = omega arith in
    let b : length ys - k ≡ 0 = omega arith in
    sym (ap (λ i. drop i xs) a) ∙ m.same ∙ ap (λ i. drop i ys) b

start_none : {A : Type 0} (xs ys : List A) → (length xs ≡ 0) ⊎ (length ys ≡ 0) → MatchAtStart xs ys 0
start_none xs ys none = record {
  in_first = omega arith;
  in_second = omega arith;
  same = refl;
  most = λ first second _. elim none [ inl a ↦ absurd (omega (arith, a, first)) | inr b ↦ absurd (omega (arith, b, second)) ];
}

end_none : {A : Type 0} (xs ys : List A) → (length xs ≡ 0) ⊎ (length ys ≡ 0) → MatchAtEnd xs ys 0
end_none xs ys none =
    let a : length xs ≤ length xs - 0 = omega arith in
    let b : length ys ≤ length ys - 0 = omega arith in
    record {
      in_first = omega arith;
      in_second = omega arith;
      same = drop_all (length xs - 0) xs a ∙ sym (drop_all (length ys - 0) ys b);
      most = λ first second _. elim none [ inl e ↦ absurd (omega (arith, e, first)) | inr e ↦ absurd (omega (arith, e, second)) ];
    }

no_lines : (ks : List Layout) → length ks ≡ 0 → length (lines_in ks) ≡ 0
no_lines ks none = ap (λ (l : List Layout). length (lines_in l)) (nil_from_length ks none)

module _ (old new : List Layout) where
  -- the lines of the first i paragraphs match
  pub record StartSoFar (i count : ℕ) : Type 0 where
    pub same : lines_in (take i old) ≡ lines_in (take i new)
    pub number : count ≡ length (lines_in (take i old))

  -- the lines of the last i paragraphs match
  pub record EndSoFar (i count : ℕ) : Type 0 where
    pub same : lines_in (drop (length old - i) old) ≡ lines_in (drop (length new - i) new)
    pub number : count ≡ length (lines_in (drop (length old - i) old))

  pub start_begins : StartSoFar 0 0
  start_begins = record { same = refl; number = refl }

  pub end_begins : EndSoFar 0 0
  end_begins =
      let a : length old ≤ length old - 0 = omega arith in
      let b : length new ≤ length new - 0 = omega arith in
      let x : lines_in (drop (length old - 0) old) ≡ [] = ap lines_in (drop_all (length old - 0) old a) in
      record { same = x ∙ sym (ap lines_in (drop_all (length new - 0) new b)); number = sym (ap length x) }

  pub start_ends : (i count : ℕ) → (length old ≤ i) ⊎ (length new ≤ i) → StartSoFar i count → MatchAtStart (lines_in old) (lines_in new) count
  start_ends i count all so_far =
      let none : (length (lines_in (drop i old)) ≡ 0) ⊎ (length (lines_in (drop i new)) ≡ 0) = elim all [
        | inl a ↦ inl (no_lines (drop i old) (omega (arith, a, length-drop i old)))
        | inr b ↦ inr (no_lines (drop i new) (omega (arith, b, length-drop i new)))
      ] in
      let n : length (lines_in (take i old)) + 0 ≡ count = omega (arith, so_far.number) in
      let m = start_after is_first (lines_in (drop i old)) (lines_in (drop i new)) 0 (lines_in (take i old)) (start_none _ _ none) in
      subst (λ k. MatchAtStart (lines_in old) (lines_in new) k) n
      (subst (λ xs. MatchAtStart xs (lines_in new) (length (lines_in (take i old)) + 0)) (sym (both_parts old i))
      (subst (λ ys. MatchAtStart (lines_in (take i old) ++ lines_in (drop i old)) ys (length (lines_in (take i old)) + 0))
      (ap (λ zs. zs ++ lines_in (drop i new)) so_far.same ∙ sym (both_parts new i)) m))

  pub end_ends : (i count : ℕ) → (length old ≤ i) ⊎ (length new ≤ i) → EndSoFar i count → MatchAtEnd (lines_in old) (lines_in new) count
  end_ends i count all so_far =
      let a : ℕ = length old - i in
      let b : ℕ = length new - i in
      let none : (length (lines_in (take a old)) ≡ 0) ⊎ (length (lines_in (take b new)) ≡ 0) = elim all [
        | inl e ↦ inl (no_lines (take a old) (omega (arith, e, length-take a old)))
        | inr e ↦ inr (no_lines (take b new) (omega (arith, e, length-take b new)))
      ] in
      let n : 0 + length (lines_in (drop a old)) ≡ count = omega (arith, so_far.number) in
      let m = end_before is_first (lines_in (take a old)) (lines_in (take b new)) 0 (lines_in (drop a old)) (end_none _ _ none) in
      subst (λ k. MatchAtEnd (lines_in old) (lines_in new) k) n
      (subst (λ xs. MatchAtEnd xs (lines_in new) (0 + length (lines_in (drop a old)))) (sym (both_parts old a))
      (subst (λ ys. MatchAtEnd (lines_in (take a old) ++ lines_in (drop a old)) ys (0 + length (lines_in (drop a old))))
      (ap (λ zs. lines_in (take b new) ++ zs) so_far.same ∙ sym (both_parts new b)) m))

  -- ---- one more pair of paragraphs, from the start
  module _ (i count : ℕ) (so_far : StartSoFar i count) (o w : Layout) (in_old : i < length old) (in_new : i < length new)
      (old-is : get_or old i o ≡ o) (new-is : get_or new i w ≡ w) (m : Matching) (pair : MatchingAtStart o w m) where
    pub start_within : count + m.count ≤ length (lines_in old)
    start_within =
        omega (
          arith,
          so_far.number,
          pair.lines.in_first,
          ap length (split old i o in_old old-is),
          length-append (lines_in (take i old)) (visuals o ++ lines_in (drop (i + 1) old)),
          length-append (visuals o) (lines_in (drop (i + 1) old)),
        )

    pub start_goes_on : m.is_whole ≡ true → StartSoFar (i + 1) (count + m.count)
    start_goes_on is =
        let all = pair.whole.all is in
        let same : visuals o ≡ visuals w = whole_start (visuals o) (visuals w) m.count (omega (arith, all.0, length-visuals o)) (omega (arith, all.1, length-visuals w)) pair.lines in
        record {
          same = one_more old i o in_old old-is ∙ ap₂ (λ (xs ys : List Visual). xs ++ ys) so_far.same same ∙ sym (one_more new i w in_new new-is);
          number = omega (arith, so_far.number, pair.lines.in_first, all.0, length-visuals o, ap length (one_more old i o in_old old-is), length-append (lines_in (take i old)) (visuals o));
        }

    pub start_is_found : m.is_whole ≡ false → HasLines o → HasLines w → MatchAtStart (lines_in old) (lines_in new) (count + m.count)
    start_is_found is some some_2 =
        let stop : (m.count < length (visuals o)) ⊎ (m.count < length (visuals w)) = elim (pair.whole.some is) [
          | inl a ↦ inl (omega (arith, a, length-visuals o))
          | inr b ↦ inr (omega (arith, b, length-visuals w))
        ] in
        let here = start_stops is_first (visuals o) (visuals w) m.count (lines_in (drop (i + 1) old)) (lines_in (drop (i + 1) new)) (first_line o) (first_line w)
        (omega (arith, some, length-visuals o)) (omega (arith, some_2, length-visuals w)) stop (first_of (drop (i + 1) old)) (first_of (drop (i + 1) new)) pair.lines in
        let after = start_after is_first (visuals o ++ lines_in (drop (i + 1) old)) (visuals w ++ lines_in (drop (i + 1) new)) m.count (lines_in (take i old)) here in
        let n : length (lines_in (take i old)) + m.count ≡ count + m.count = omega (arith, so_far.number) in
        subst (λ k. MatchAtStart (lines_in old) (lines_in new) k) n
        (subst (λ xs. MatchAtStart xs (lines_in new) (length (lines_in (take i old)) + m.count)) (sym (split old i o in_old old-is))
        (subst (λ ys. MatchAtStart (lines_in (take i old) ++ (visuals o ++ lines_in (drop (i + 1) old))) ys (length (lines_in (take i old)) + m.count))
        (ap (λ zs. zs ++ (visuals w ++ lines_in (drop (i + 1) new))) so_far.same ∙ sym (split new i w in_new new-is)) after))

  -- ---- one more pair of paragraphs, from the end
  module _ (i count : ℕ) (so_far : EndSoFar i count) (o w : Layout) (in_old : i < length old) (in_new : i < length new)
      (old-is : get_or old (length old - i - 1) o ≡ o) (new-is : get_or new (length new - i - 1) w ≡ w) (m : Matching) (pair : MatchingAtEnd o w m) where
    abbrev a : ℕ
    a = length old - i - 1

    abbrev b : ℕ
    b = length new - i - 1

    a_next : a + 1 ≡ length old - i
    a_next = omega (arith, in_old)

    b_next : b + 1 ≡ length new - i
    b_next = omega (arith, in_new)

    a_below : a < length old
    a_below = omega (arith, in_old)

    b_below : b < length new
    b_below = omega (arith, in_new)

    old_parts : lines_in old ≡ (lines_in (take a old) ++ visuals o) ++ lines_in (drop (length old - i) old)
    old_parts =
        split old a o a_below old-is ∙ sym (append_assoc (lines_in (take a old)) (visuals o) (lines_in (drop (a + 1) old)))
        ∙ ap (λ n. (lines_in (take a old) ++ visuals o) ++ lines_in (drop n old)) a_next

    new_parts : lines_in new ≡ (lines_in (take b new) ++ visuals w) ++ lines_in (drop (length new - i) new)
    new_parts =
        split new b w b_below new-is ∙ sym (append_assoc (lines_in (take b new)) (visuals w) (lines_in (drop (b + 1) new)))
        ∙ ap (λ n. (lines_in (take b new) ++ visuals w) ++ lines_in (drop n new)) b_next

    old_more : lines_in (drop (length old - (i + 1)) old) ≡ visuals o ++ lines_in (drop (length old - i) old)
    old_more =
        let e : length old - (i + 1) ≡ length old - i - 1 = omega (arith, in_old) in
        ap (λ n. lines_in (drop n old)) e ∙ ap lines_in (drop_more old a o a_below ∙ ap (λ (x : Layout). x ∷ drop (a + 1) old) old-is) ∙ ap (λ n. visuals o ++ lines_in (drop n old)) a_next

    new_more : lines_in (drop (length new - (i + 1)) new) ≡ visuals w ++ lines_in (drop (length new - i) new)
    new_more =
        let e : length new - (i + 1) ≡ length new - i - 1 = omega (arith, in_new) in
        ap (λ n. lines_in (drop n new)) e ∙ ap lines_in (drop_more new b w b_below ∙ ap (λ (x : Layout). x ∷ drop (b + 1) new) new-is) ∙ ap (λ n. visuals w ++ lines_in (drop n new)) b_next

    pub end_within : count + m.count ≤ length (lines_in old)
    end_within =
        omega (
          arith,
          so_far.number,
          pair.lines.in_first,
          ap length old_parts,
          length-append (lines_in (take a old) ++ visuals o) (lines_in (drop (length old - i) old)),
          length-append (lines_in (take a old)) (visuals o),
        )

    pub end_goes_on : m.is_whole ≡ true → EndSoFar (i + 1) (count + m.count)
    end_goes_on is =
        let all = pair.whole.all is in
        let same : visuals o ≡ visuals w = whole_end (visuals o) (visuals w) m.count (omega (arith, all.0, length-visuals o)) (omega (arith, all.1, length-visuals w)) pair.lines in
        record {
          same = old_more ∙ ap₂ (λ (xs ys : List Visual). xs ++ ys) same so_far.same ∙ sym new_more;
          number = omega (arith, so_far.number, pair.lines.in_first, all.0, length-visuals o, ap length old_more, length-append (visuals o) (lines_in (drop (length old - i) old)));
        }

    pub end_is_found : m.is_whole ≡ false → HasLines o → HasLines w → MatchAtEnd (lines_in old) (lines_in new) (count + m.count)
    end_is_found is some some_2 =
        let stop : (m.count < length (visuals o)) ⊎ (m.count < length (visuals w)) = elim (pair.whole.some is) [
          | inl e ↦ inl (omega (arith, e, length-visuals o))
          | inr e ↦ inr (omega (arith, e, length-visuals w))
        ] in
        let zs : List Visual = lines_in (drop (length old - i) old) in
        let here = end_stops is_first (visuals o) (visuals w) m.count (lines_in (take a old)) (lines_in (take b new)) (first_line o) (first_line w)
        (omega (arith, some, length-visuals o)) (omega (arith, some_2, length-visuals w)) stop pair.lines in
        let before = end_before is_first (lines_in (take a old) ++ visuals o) (lines_in (take b new) ++ visuals w) m.count zs here in
        let n : m.count + length zs ≡ count + m.count = omega (arith, so_far.number) in
        subst (λ k. MatchAtEnd (lines_in old) (lines_in new) k) n
        (subst (λ xs. MatchAtEnd xs (lines_in new) (m.count + length zs)) (sym old_parts)
        (subst (λ ys. MatchAtEnd ((lines_in (take a old) ++ visuals o) ++ zs) ys (m.count + length zs))
        (ap (λ l. (lines_in (take b new) ++ visuals w) ++ l) so_far.same ∙ sym new_parts) before))
