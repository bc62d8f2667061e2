-- How many items two lists share at their start or at their end, when more items precede or follow them. Some
-- items are marked: the first one of each part of a list.
use Rattle.std.proofs.Common.{◌≡◌, ℕ, zero, suc, ◌+◌, ◌-◌, ◌<◌, ◌==◌, ◌⊎◌, Bool, true, true≢false, List, [], ◌∷◌, ◌++◌, length, drop, Some, refl, sym, ap, ◌∙◌, inl, inr, arith}
use Rattle.std.specs.List.{slice_get}
use Rattle.std.proofs.Math.Seq.{drop-append-add, take-append-add}
use Rattle.std.proofs.lemmas.Bool.{cases_lt, ne_eqb}
use Rattle.std.proofs.lemmas.List.{drop-append-le, length-append, take-append-le}
use Rattle.std.proofs.lemmas.Option.{slice_get_cases}
use Rattle.lines.specs.Matching.{MatchAtEnd, MatchAtStart}
use Rattle.session.proofs.LineLemmas.{slice_get_after, slice_get_left}

slice_get-drop : {A : Type 0} (i : ℕ) (xs : List A) → slice_get (drop i xs) 0 ≡ slice_get xs i
slice_get-drop zero xs = refl
slice_get-drop (suc i) [] = refl
slice_get-drop (suc i) (x ∷ xs) = slice_get-drop i xs

module _ {A : Type 0} (is_marked : A → Bool) where
  -- whether the first item of a part is its only marked one
  abbrev pub IsPart : List A → Type 0
  IsPart xs = (k : ℕ) (x : A) → slice_get xs k ≡ Some x → is_marked x ≡ (k == 0)

  -- whether a list is empty or its first item is marked
  abbrev pub Begins : List A → Type 0
  Begins xs = (x : A) → slice_get xs 0 ≡ Some x → is_marked x ≡ true

  -- an item that is not the first of its part differs from the first item of another list
  not_first : (xs others : List A) (k : ℕ) → IsPart xs → Begins others → 0 < k → k < length xs → slice_get xs k ≡ slice_get others 0 → ⊥
  not_first xs others k part begins later within same = elim (slice_get_cases xs k).1 [
    | inl found ↦
        absurd (true≢false (sym (begins found.0 (sym same ∙ found.2)) ∙ part k found.0 found.2 ∙ ne_eqb k 0 (λ e. omega (arith, e, later))))
    | inr past ↦ absurd (omega (arith, past.0, within))
  ]

  module _ (xs ys : List A) (k : ℕ) where
    pub start_after : (zs : List A) → MatchAtStart xs ys k → MatchAtStart (zs ++ xs) (zs ++ ys) (length zs + k)
    start_after zs m = record {
      in_first = omega (arith, m.in_first, length-append zs xs);
      in_second = omega (arith, m.in_second, length-append zs ys);
      same = take-append-add zs xs k ∙ ap (λ l. zs ++ l) m.same ∙ sym (take-append-add zs ys k);
      most = λ first second same. m.most (omega (arith, first, length-append zs xs)) (omega (arith, second, length-append zs ys))
          (sym (slice_get_after zs xs k) ∙ same ∙ slice_get_after zs ys k);
    }

    pub end_before : (zs : List A) → MatchAtEnd xs ys k → MatchAtEnd (xs ++ zs) (ys ++ zs) (k + length zs)
    end_before zs m =
        let a : length (xs ++ zs) - (k + length zs) ≡ length xs - k = omega (arith, length-append xs zs) in
        let b : length (ys ++ zs) - (k + length zs) ≡ length ys - k = omega (arith, length-append ys zs) in
        record {
          in_first = omega (arith, m.in_first, length-append xs zs);
          in_second = omega (arith, m.in_second, length-append ys zs);
          same = ap (λ i. drop i (xs ++ zs)) a ∙ drop-append-le (length xs - k) xs zs (omega arith) ∙ ap (λ l. l ++ zs) m.same
              ∙ sym (ap (λ i. drop i (ys ++ zs)) b ∙ drop-append-le (length ys - k) ys zs (omega arith));
          most = λ first second same.
              let in_xs : k < length xs = omega (arith, first, length-append xs zs) in
              let in_ys : k < length ys = omega (arith, second, length-append ys zs) in
              m.most in_xs in_ys
              (sym (ap (λ i. slice_get (xs ++ zs) (i - 1)) a ∙ slice_get_left xs zs (length xs - k - 1) (omega (arith, in_xs)))
              ∙ same
              ∙ ap (λ i. slice_get (ys ++ zs) (i - 1)) b ∙ slice_get_left ys zs (length ys - k - 1) (omega (arith, in_ys)));
        }

    module _ (more others : List A) (part : IsPart xs) (part_2 : IsPart ys) (some : 0 < length xs) (some_2 : 0 < length ys) (stop : (k < length xs) ⊎ (k < length ys)) where
      pub start_stops : Begins more → Begins others → MatchAtStart xs ys k → MatchAtStart (xs ++ more) (ys ++ others) k
      start_stops begin begin_2 m = record {
        in_first = omega (arith, m.in_first, length-append xs more);
        in_second = omega (arith, m.in_second, length-append ys others);
        same = take-append-le k xs more m.in_first ∙ m.same ∙ sym (take-append-le k ys others m.in_second);
        most = λ first second same. elim (cases_lt k (length xs)) [
          | inl in_xs ↦ elim (cases_lt k (length ys)) [
            | inl in_ys ↦ m.most in_xs in_ys (sym (slice_get_left xs more k in_xs) ∙ same ∙ slice_get_left ys others k in_ys)
            | inr past ↦
                let e : k ≡ length ys + 0 = omega (arith, past, m.in_second) in
                not_first xs others k part begin_2 (omega (arith, past, some_2)) in_xs
                (sym (slice_get_left xs more k in_xs) ∙ same ∙ ap (λ i. slice_get (ys ++ others) i) e ∙ slice_get_after ys others 0)
          ]
          | inr past ↦ elim (cases_lt k (length ys)) [
            | inl in_ys ↦
                let e : k ≡ length xs + 0 = omega (arith, past, m.in_first) in
                not_first ys more k part_2 begin (omega (arith, past, some)) in_ys
                (sym (slice_get_left ys others k in_ys) ∙ sym same ∙ ap (λ i. slice_get (xs ++ more) i) e ∙ slice_get_after xs more 0)
            | inr past_2 ↦ elim stop [ inl a ↦ absurd (omega (arith, a, past)) | inr b ↦ absurd (omega (arith, b, past_2)) ]
          ]
        ];
      }

      -- both parts have more than k items: if all items of one part matched, its first item would equal an
      -- item that is not the first of the other part
      both : MatchAtEnd xs ys k → (k < length xs) × (k < length ys)
      both m = elim (cases_lt k (length xs)) [
        | inl in_xs ↦ elim (cases_lt k (length ys)) [
          | inl in_ys ↦ (in_xs, in_ys)
          | inr past ↦
              let e : length ys - k ≡ 0 = omega (arith, past) in
              absurd (not_first xs ys (length xs - k) part (λ x is. part_2 0 x is) (omega (arith, in_xs)) (omega (arith, in_xs, past, some_2))
              (sym (slice_get-drop (length xs - k) xs) ∙ ap (λ l. slice_get l 0) m.same ∙ slice_get-drop (length ys - k) ys ∙ ap (slice_get ys) e))
        ]
        | inr past ↦ elim (cases_lt k (length ys)) [
          | inl in_ys ↦
              let e : length xs - k ≡ 0 = omega (arith, past) in
              absurd (not_first ys xs (length ys - k) part_2 (λ x is. part 0 x is) (omega (arith, in_ys)) (omega (arith, in_ys, past, some))
              (sym (slice_get-drop (length ys - k) ys) ∙ ap (λ l. slice_get l 0) (sym m.same) ∙ slice_get-drop (length xs - k) xs ∙ ap (slice_get xs) e))
          | inr past_2 ↦ elim stop [ inl a ↦ absurd (omega (arith, a, past)) | inr b ↦ absurd (omega (arith, b, past_2)) ]
        ]
      ]

      pub end_stops : MatchAtEnd xs ys k → MatchAtEnd (more ++ xs) (others ++ ys) k
      end_stops m =
          let more_left = both m in
          let a : length (more ++ xs) - k ≡ length more + (length xs - k) = omega (arith, length-append more xs, more_left.0) in
          let b : length (others ++ ys) - k ≡ length others + (length ys - k) = omega (arith, length-append others ys, more_left.1) in
          let c : length more + (length xs - k) - 1 ≡ length more + (length xs - k - 1) = omega (arith, more_left.0) in
          let d : length others + (length ys - k) - 1 ≡ length others + (length ys - k - 1) = omega (arith, more_left.1) in
          record {
            in_first = omega (arith, m.in_first, length-append more xs);
            in_second = omega (arith, m.in_second, length-append others ys);
            same = ap (λ i. drop i (more ++ xs)) a ∙ drop-append-add more xs (length xs - k) ∙ m.same
                ∙ sym (ap (λ i. drop i (others ++ ys)) b ∙ drop-append-add others ys (length ys - k));
            most = λ first second same. m.most more_left.0 more_left.1
                (sym (ap (λ i. slice_get (more ++ xs) (i - 1)) a ∙ ap (slice_get (more ++ xs)) c ∙ slice_get_after more xs (length xs - k - 1))
                ∙ same
                ∙ ap (λ i. slice_get (others ++ ys) (i - 1)) b ∙ ap (slice_get (others ++ ys)) d ∙ slice_get_after others ys (length ys - k - 1));
          }
