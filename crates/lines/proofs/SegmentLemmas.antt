-- The segment of a character, given the places where segments end.
use Rattle.std.proofs.Common.{◌≡◌, ℕ, zero, suc, ◌+◌, ◌-◌, ◌<◌, ◌≤◌, Bool, true, false, List, ◌++◌, length, length-append, Option, Some, if◌then◌else◌, ◌⊎◌, inl, inr, refl, sym, ap, ◌∙◌, arith}
use Rattle.std.proofs.lemmas.Bool.{cases_eq}
use Rattle.std.proofs.lemmas.List.{get_or-append-add, get_or_append_left}
use Rattle.bidi.specs.Brackets.{greatest}
use Rattle.ucd.specs.Least.{least}
use Rattle.lines.specs.Clusters.{after, cluster_begin, cluster_end, ends_at}

-- the states of two scans from character k: one back to the start of the segment, and one forward to its end
module _ (ends : List Bool) (k : ℕ) where
  abbrev pub BeginsBy : ℕ → Type 0
  BeginsBy start = greatest (ends_at ends) k ≡ greatest (ends_at ends) start

  abbrev pub EndsBy : ℕ → Type 0
  EndsBy last = least (ends_at ends) k (length ends - k) ≡ least (ends_at ends) last (length ends - last)

-- Two lists of ends: the second begins after the first `front` items of the first. `p` tests the items of the
-- first list, and `q` those of the second.
module _ (p q : ℕ → Bool) (front : ℕ) where
  begins_here : (n : ℕ) → (n ≡ 0) ⊎ (p (n - 1) ≡ true) → after (greatest p n) 0 ≡ n
  begins_here zero opens = refl
  begins_here (suc n) (inl none) = absurd (omega (arith, none))
  begins_here (suc n) (inr ends) =
      let here : p n ≡ true = ap p (omega arith) ∙ ends in
      rw here (omega arith)

  begin_step : (b : Bool) (x y : Option ℕ) (j : ℕ) → after x 0 ≡ front + after y 0
      → after (if b then Some (front + j) else x) 0 ≡ front + after (if b then Some j else y) 0
  begin_step true x y j same = omega arith
  begin_step false x y j same = same

  -- if a segment ends just before the second list, a segment begins at the same place according to both
  pub begin_shift : (j : ℕ) → (front ≡ 0) ⊎ (p (front - 1) ≡ true) → ((i : ℕ) → i < j → p (front + i) ≡ q i)
      → after (greatest p (front + j)) 0 ≡ front + after (greatest q j) 0
  begin_shift zero opens same =
      let none : front ≡ front + 0 = omega arith in
      ap (λ n. after (greatest p n) 0) (sym none) ∙ begins_here front opens ∙ none
  begin_shift (suc j) opens same =
      let next : front + suc j ≡ suc (front + j) = omega arith in
      ap (λ n. after (greatest p n) 0) next
      ∙ ap (λ b. after (if b then Some (front + j) else greatest p (front + j)) 0) (same j (omega arith))
      ∙ begin_step (q j) (greatest p (front + j)) (greatest q j) j (begin_shift j opens (λ i below. same i (omega (arith, below))))

  end_step : (total len count n j : ℕ) (b : Bool) → q j ≡ b → q (len - 1) ≡ true → j < len
      → (suc j < len → after (least p (suc (front + j)) count) total ≡ front + after (least q (suc j) n) len)
      → after (if b then Some (front + j) else least p (suc (front + j)) count) total ≡ front + after (if b then Some j else least q (suc j) n) len
  end_step total len count n j true is last within next = omega arith
  end_step total len count n j false is last within next =
      elim (cases_eq (suc j) len) [
        | inl e ↦ let bad : q j ≡ true = ap q (omega (arith, e)) ∙ last in cc
        | inr ne ↦ next (omega (arith, within, ne))
      ]

  -- if a segment ends at the end of the second list, the segment of a character in it ends at the same place according
  -- to both
  pub end_shift : (total len count n j : ℕ) → j + n ≡ len → n ≤ count → j < len → q (len - 1) ≡ true
      → ((i : ℕ) → i < len → p (front + i) ≡ q i)
      → after (least p (front + j) count) total ≡ front + after (least q j n) len
  end_shift total len count zero j sum few within last same = absurd (omega (arith, sum, within))
  end_shift total len zero (suc n) j sum few within last same = absurd (omega (arith, few))
  end_shift total len (suc count) (suc n) j sum few within last same =
      ap (λ b. after (if b then Some (front + j) else least p (suc (front + j)) count) total) (same j within)
      ∙ end_step total len count n j (q j) refl last within (λ more.
      let next : suc (front + j) ≡ front + suc j = omega arith in
      ap (λ m. after (least p m count) total) next
      ∙ end_shift total len count n (suc j) (omega (arith, sum)) (omega (arith, few)) more last same)

-- ---- the same for lists: the ends of a text in three parts, and those of the part in the middle
module _ (front ends rest : List Bool) (j : ℕ) (within : j < length ends) where
  pub ends_same : (i : ℕ) → i < length ends → ends_at (front ++ (ends ++ rest)) (length front + i) ≡ ends_at ends i
  ends_same i below = get_or-append-add front (ends ++ rest) i false ∙ get_or_append_left ends rest false i below

  before_front : (length front ≡ 0) ⊎ (ends_at front (length front - 1) ≡ true) → (length front ≡ 0) ⊎ (ends_at (front ++ (ends ++ rest)) (length front - 1) ≡ true)
  before_front (inl none) = inl none
  before_front (inr last) =
      elim (cases_eq (length front) 0) [
        | inl none ↦ inl none
        | inr some ↦ inr (get_or_append_left front (ends ++ rest) false (length front - 1) (omega (arith, some)) ∙ last)
      ]

  pub begin_within : (length front ≡ 0) ⊎ (ends_at front (length front - 1) ≡ true)
      → cluster_begin (front ++ (ends ++ rest)) (length front + j) ≡ length front + cluster_begin ends j
  begin_within opens =
      begin_shift (ends_at (front ++ (ends ++ rest))) (ends_at ends) (length front) j (before_front opens) (λ i below. ends_same i (omega (arith, below, within)))

  pub end_within : ends_at ends (length ends - 1) ≡ true
      → cluster_end (front ++ (ends ++ rest)) (length front + j) ≡ length front + cluster_end ends j
  end_within last =
      let sizes : length (front ++ (ends ++ rest)) ≡ length front + (length ends + length rest) = simp length-append in
      end_shift (ends_at (front ++ (ends ++ rest))) (ends_at ends) (length front) (length (front ++ (ends ++ rest))) (length ends)
      (length (front ++ (ends ++ rest)) - (length front + j)) (length ends - j) j (omega (arith, within)) (omega (arith, sizes, within)) within last ends_same

-- in a segment of one character, the first cluster ends after this character
pub only_end : (ends : List Bool) → length ends ≡ 1 → ends_at ends (length ends - 1) ≡ true → cluster_end ends 0 ≡ 1
only_end ends one last =
    let first : ends_at ends 0 ≡ true = ap (ends_at ends) (omega (arith, one)) ∙ last in
    let count : length ends - 0 ≡ 1 = omega (arith, one) in
    ap (λ n. after (least (ends_at ends) 0 n) (length ends)) count ∙ rw first refl
