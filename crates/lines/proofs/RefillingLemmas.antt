-- Which line starts of a paragraph stay the same when a part of it changes.
use Rattle.std.proofs.Common.{take-take, get_or, subst, ◌≡◌, ◌⊎◌, ℕ, zero, suc, ◌+◌, ◌-◌, ◌<◌, ◌≤◌, Bool, true, false, ◌||◌, Some, List, [], ◌∷◌, ◌++◌, length, map, take, drop, refl, sym, ap, ap₂, ◌∙◌, inl, inr, arith}
use Rattle.std.specs.Prelude.{slice_get}
use Rattle.std.proofs.lemmas.Bool.{cases_Bool, cases_eq, both_ways, or_left, or_right}
use Rattle.std.proofs.lemmas.List.{drop-drop, get_or-drop, length-drop, map-append, take-append-drop}
use Rattle.std.proofs.lemmas.Option.{get_or_from_slice_get, none-some, same_Some, slice_get-get_or, slice_get_within}
use Rattle.lines.specs.Filling.{cluster_ends_at, may_end, nothing, line_end, line_len, line_starts_of, starts}
use Rattle.lines.specs.Refilling.{StartsFollow, StartsSplice, StartsStay, StaysFrom}
use Rattle.lines.specs.declared.char_info.CharInfo.{CharInfo}
use Rattle.lines.proofs.FillingLemmas.{starts_line}
use Rattle.lines.proofs.RefillingEnds.{Ends, is_candidate, candidate_within, same_stop_end, same_end, ends_within, ends_by_break, ends_by_cluster, ends_by_next, len_is_candidate}

-- ---- starts from a line start on

-- if a paragraph begins s positions later, so does each of its lines
starts_shift : (nobreak : Bool) (width s place left : ℕ) (rest : List CharInfo) → starts nobreak width (s + place) left rest ≡ map (λ k. s + k) (starts nobreak width place left rest)
starts_shift nobreak width s place zero [] = refl
starts_shift nobreak width s place (suc left) [] = refl
starts_shift nobreak width s place zero (p ∷ rest) =
    let e : suc (s + place) ≡ s + suc place = omega arith in
    ap (λ (xs : List ℕ). (s + place) ∷ xs)
    (ap (λ m. starts nobreak width m (line_len nobreak width (p ∷ rest) - 1) rest) e ∙ starts_shift nobreak width s (suc place) (line_len nobreak width (p ∷ rest) - 1) rest)
starts_shift nobreak width s place (suc left) (p ∷ rest) =
    let e : suc (s + place) ≡ s + suc place = omega arith in
    ap (λ m. starts nobreak width m left rest) e ∙ starts_shift nobreak width s (suc place) left rest

-- each start is at or after the end of the earlier line, of which `left` characters remain
start_low : (nobreak : Bool) (width place left : ℕ) (rest : List CharInfo) (i : ℕ) → i < length (starts nobreak width place left rest)
    → place + left ≤ get_or (starts nobreak width place left rest) i 0
start_low nobreak width place zero [] i within = absurd (omega (arith, within))
start_low nobreak width place (suc left) [] i within = absurd (omega (arith, within))
start_low nobreak width place zero (p ∷ rest) zero within = omega arith
start_low nobreak width place zero (p ∷ rest) (suc i) within = omega (arith, start_low nobreak width (suc place) (line_len nobreak width (p ∷ rest) - 1) rest i (omega (arith, within)))
start_low nobreak width place (suc left) (p ∷ rest) i within = omega (arith, start_low nobreak width (suc place) left rest i within)

starts_after : (nobreak : Bool) (width place left : ℕ) (rest : List CharInfo) (i s : ℕ) → i < length (starts nobreak width place left rest) → get_or (starts nobreak width place left rest) i 0 ≡ s
    → drop i (starts nobreak width place left rest) ≡ starts nobreak width s 0 (drop (s - place) rest)
starts_after nobreak width place zero [] i s within e = absurd (omega (arith, within))
starts_after nobreak width place (suc left) [] i s within e = absurd (omega (arith, within))
starts_after nobreak width place zero (p ∷ rest) zero s within e =
    let here : place ≡ s = e in
    let none : 0 ≡ s - place = omega (arith, here) in
    ap (λ m. starts nobreak width m 0 (p ∷ rest)) here ∙ ap (λ m. starts nobreak width s 0 (drop m (p ∷ rest))) none
starts_after nobreak width place zero (p ∷ rest) (suc i) s within e =
    let low = start_low nobreak width (suc place) (line_len nobreak width (p ∷ rest) - 1) rest i (omega (arith, within)) in
    let more : suc (s - suc place) ≡ s - place = omega (arith, low, e) in
    starts_after nobreak width (suc place) (line_len nobreak width (p ∷ rest) - 1) rest i s (omega (arith, within)) e
    ∙ ap (λ m. starts nobreak width s 0 (drop m (p ∷ rest))) more
starts_after nobreak width place (suc left) (p ∷ rest) i s within e =
    let low = start_low nobreak width (suc place) left rest i within in
    let more : suc (s - suc place) ≡ s - place = omega (arith, low, e) in
    starts_after nobreak width (suc place) left rest i s within e ∙ ap (λ m. starts nobreak width s 0 (drop m (p ∷ rest))) more

starts_alone : (nobreak : Bool) (width : ℕ) (ps : List CharInfo) (i s : ℕ) → slice_get (line_starts_of nobreak width ps) i ≡ Some s
    → drop i (line_starts_of nobreak width ps) ≡ map (λ k. s + k) (line_starts_of nobreak width (drop s ps))
unfolding line_starts_of
starts_alone nobreak width ps i s e =
    let all : List ℕ = starts nobreak width 0 0 ps in
    let zeroth : s - 0 ≡ s = omega arith in
    let same : s ≡ s + 0 = omega arith in
    starts_after nobreak width 0 0 ps i s (slice_get_within all i s e) (get_or_from_slice_get all i s 0 e)
    ∙ ap (λ m. starts nobreak width s 0 (drop m ps)) zeroth
    ∙ ap (λ m. starts nobreak width m 0 (drop s ps)) same
    ∙ starts_shift nobreak width s 0 0 (drop s ps)

moved_by : (s t : ℕ) (xs : List ℕ) → map (λ k. t + k) xs ≡ map (λ k. t + (k - s)) (map (λ k. s + k) xs)
moved_by s t [] = refl
moved_by s t (x ∷ xs) =
    let e : t + x ≡ t + (s + x - s) = omega arith in
    ap (λ m. m ∷ map (λ k. t + k) xs) e ∙ ap (λ (list : List ℕ). (t + (s + x - s)) ∷ list) (moved_by s t xs)

pub starts_follow : (nobreak : Bool) (width : ℕ) (ps qs : List CharInfo) → StartsFollow nobreak width ps qs
starts_follow nobreak width ps qs = record {
  alone = λ i s e. starts_alone nobreak width ps i s e;
  moved = λ i j s t e f same.
      starts_alone nobreak width qs j t f
      ∙ ap (λ (rest : List CharInfo). map (λ k. t + k) (line_starts_of nobreak width rest)) (sym same)
      ∙ moved_by s t (line_starts_of nobreak width (drop s ps))
      ∙ ap (map (λ k. t + (k - s))) (sym (starts_alone nobreak width ps i s e));
}

-- the first start is `place`, and the first line ends at or before each later start
start_first : (nobreak : Bool) (width place : ℕ) (rest : List CharInfo) → 0 < length (starts nobreak width place 0 rest) → get_or (starts nobreak width place 0 rest) 0 0 ≡ place
start_first nobreak width place [] some = absurd (omega (arith, some))
start_first nobreak width place (p ∷ rest) some = refl

second_low : (nobreak : Bool) (width place i : ℕ) (rest : List CharInfo) → suc i < length (starts nobreak width place 0 rest)
    → place + line_len nobreak width rest ≤ get_or (starts nobreak width place 0 rest) (suc i) 0
second_low nobreak width place i [] some = absurd (omega (arith, some))
second_low nobreak width place i (p ∷ rest) some = omega (arith, start_low nobreak width (suc place) (line_len nobreak width (p ∷ rest) - 1) rest i (omega (arith, some)))

-- The paragraph begins at `place`, and a line after the first one starts at s.
module _ (width place k s : ℕ) (ps : List CharInfo) where
  -- if the line before s is the first line, it ends at no break opportunity
  abbrev IsPlain : Type 0
  IsPlain = (e : ℕ) → place + suc e ≡ s → may_end ps e ≡ false

  -- `Ends` holds for k + 1, so the end of the first line does not depend on characters after k
  ends_after : (i : ℕ) → suc i < length (starts false width place 0 ps) → get_or (starts false width place 0 ps) (suc i) 0 ≡ s → s ≤ place + k → suc (line_end width ps) < length ps
      → is_candidate ps k ≡ true → (may_end ps k ≡ true) ⊎ IsPlain → Ends width (suc k) ps
  ends_after i some is after within candidate which =
      let e : ℕ = line_end width ps in
      let ds : List CharInfo = drop (suc e) ps in
      let low = second_low false width place i ps some in
      let under : e < k = omega (arith, low, is, after) in
      elim (cases_Bool (may_end ps e)) [
        | inr plain ↦ ends_by_cluster width k ps under plain candidate
        | inl may ↦ elim which [
          | inl break ↦ ends_by_break width (suc k) k ps under (omega arith) break
          | inr plain ↦
              let line : starts false width place 0 ps ≡ place ∷ starts false width (place + suc e) 0 ds = starts_line false width place ps (omega (arith, within)) (omega (arith, within)) in
              let next : i < length (starts false width (place + suc e) 0 ds) = omega (arith, some, ap (λ (xs : List ℕ). length xs) line) in
              let same : get_or (starts false width (place + suc e) 0 ds) i 0 ≡ s = sym (ap (λ (xs : List ℕ). get_or xs (suc i) 0) line) ∙ is in
              elim (cases_eq i 0) [
                | inl first ↦
                    let here : get_or (starts false width (place + suc e) 0 ds) 0 0 ≡ s = subst (λ j. get_or (starts false width (place + suc e) 0 ds) j 0 ≡ s) first same in
                    absurd (both_ways (may_end ps e) (plain e (sym (start_first false width (place + suc e) ds (omega (arith, next))) ∙ here)) may)
                | inr later ↦
                    let back : suc (i - 1) ≡ i = omega (arith, later) in
                    let second = second_low false width (place + suc e) (i - 1) ds (omega (arith, next, later)) in
                    let at : get_or (starts false width (place + suc e) 0 ds) (suc (i - 1)) 0 ≡ s = ap (λ j. get_or (starts false width (place + suc e) 0 ds) j 0) back ∙ same in
                    ends_by_next width (suc e) k ps refl (omega (arith, second, at, after)) candidate
              ]
        ]
      ]

  same_len : (nobreak : Bool) (n i : ℕ) (qs : List CharInfo) → take n ps ≡ take n qs → suc i < length (starts nobreak width place 0 ps) → get_or (starts nobreak width place 0 ps) (suc i) 0 ≡ s
      → s ≤ place + k → k < n → is_candidate ps k ≡ true → (may_end ps k ≡ true) ⊎ IsPlain → line_len nobreak width qs ≡ line_len nobreak width ps
  same_len true n i qs same some is after below candidate which =
      let low = second_low true width place i ps some in
      ap suc (same_stop_end n ps qs same (omega (arith, low, is, after, below)) (omega (arith, low, is, after, candidate_within ps k candidate)))
  same_len false n i qs same some is after below candidate which =
      let low = second_low false width place i ps some in
      let within : suc (line_end width ps) < length ps = omega (arith, low, is, after, candidate_within ps k candidate) in
      ap suc (same_end width n ps qs same (ends_within width (suc k) n ps (omega (arith, below)) (ends_after i some is after within candidate which)) (omega (arith, low, is, after, below)) within)

-- ---- starts up to a line start

-- the condition on k and s also holds if the first character is removed
later_which : (place k s : ℕ) (p : CharInfo) (ps : List CharInfo) → (may_end (p ∷ ps) (suc k) ≡ true) ⊎ ((e : ℕ) → place + suc e ≡ s → may_end (p ∷ ps) e ≡ false)
    → (may_end ps k ≡ true) ⊎ ((e : ℕ) → suc place + suc e ≡ s → may_end ps e ≡ false)
later_which place k s p ps (inl may) = inl may
later_which place k s p ps (inr plain) = inr (λ e last. plain (suc e) (omega (arith, last)))

starts_same : (nobreak : Bool) (width place left n : ℕ) (ps qs : List CharInfo) (i k s : ℕ) → take n ps ≡ take n qs → i < length (starts nobreak width place left ps)
    → get_or (starts nobreak width place left ps) i 0 ≡ s → s ≤ place + k → k < n → is_candidate ps k ≡ true → (may_end ps k ≡ true) ⊎ IsPlain width place k s ps
    → take (suc i) (starts nobreak width place left qs) ≡ take (suc i) (starts nobreak width place left ps)
starts_same nobreak width place zero n [] qs i k s same within is after below candidate which = absurd (omega (arith, within))
starts_same nobreak width place (suc left) n [] qs i k s same within is after below candidate which = absurd (omega (arith, within))
starts_same nobreak width place left zero (p ∷ ps) qs i k s same within is after below candidate which = absurd (omega (arith, below))
starts_same nobreak width place left (suc n) (p ∷ ps) [] i k s same within is after below candidate which = absurd (omega (arith, ap (λ (xs : List CharInfo). length xs) same))
starts_same nobreak width place zero (suc n) (p ∷ ps) (q ∷ qs) zero k s same within is after below candidate which = refl
starts_same nobreak width place zero (suc n) (p ∷ ps) (q ∷ qs) (suc i) zero s same within is after below candidate which =
    absurd (omega (arith, start_low nobreak width (suc place) (line_len nobreak width (p ∷ ps) - 1) ps i (omega (arith, within)), is, after))
starts_same nobreak width place zero (suc n) (p ∷ ps) (q ∷ qs) (suc i) (suc k) s same within is after below candidate which =
    let len : line_len nobreak width (q ∷ qs) ≡ line_len nobreak width (p ∷ ps) = same_len width place (suc k) s (p ∷ ps) nobreak (suc n) i (q ∷ qs) same within is after below candidate which in
    ap (λ xs. place ∷ xs)
    (ap (λ m. take (suc i) (starts nobreak width (suc place) (m - 1) qs)) len
    ∙ starts_same nobreak width (suc place) (line_len nobreak width (p ∷ ps) - 1) n ps qs i k s (ap (drop 1) same) (omega (arith, within)) is (omega (arith, after)) (omega (arith, below)) candidate
    (later_which place k s p ps which))
starts_same nobreak width place (suc left) (suc n) (p ∷ ps) (q ∷ qs) i zero s same within is after below candidate which =
    absurd (omega (arith, start_low nobreak width (suc place) left ps i within, is, after))
starts_same nobreak width place (suc left) (suc n) (p ∷ ps) (q ∷ qs) i (suc k) s same within is after below candidate which =
    starts_same nobreak width (suc place) left n ps qs i k s (ap (drop 1) same) within is (omega (arith, after)) (omega (arith, below)) candidate (later_which place k s p ps which)

-- The line starts up to the i-th one, s, are the same in both texts under two conditions. First, a line may end or a
-- cluster ends at a position k from s up to n. Second, a line may end at k, or the line before s ends at no break
-- opportunity.
stays_by : (nobreak : Bool) (width : ℕ) (ps qs : List CharInfo) (n i s k : ℕ) → take n ps ≡ take n qs → slice_get (line_starts_of nobreak width ps) i ≡ Some s → s ≤ k → k < n → is_candidate ps k ≡ true
    → (may_end ps k ≡ true) ⊎ (may_end ps (s - 1) ≡ false) → take (suc i) (line_starts_of nobreak width qs) ≡ take (suc i) (line_starts_of nobreak width ps)
unfolding line_starts_of
stays_by nobreak width ps qs n i s k same e from below candidate which =
    let all : List ℕ = starts nobreak width 0 0 ps in
    starts_same nobreak width 0 0 n ps qs i k s same (slice_get_within all i s e) (get_or_from_slice_get all i s 0 e) (omega (arith, from)) below candidate
    (elim which [
      | inl may ↦ inl may
      | inr plain ↦ inr (λ d last. let before : s - 1 ≡ d = omega (arith, last) in ap (may_end ps) (sym before) ∙ plain)
    ])

stays_break : (nobreak : Bool) (width : ℕ) (ps qs : List CharInfo) (n i s k : ℕ) → take n ps ≡ take n qs → slice_get (line_starts_of nobreak width ps) i ≡ Some s → s ≤ k → k < n → may_end ps k ≡ true
    → take (suc i) (line_starts_of nobreak width qs) ≡ take (suc i) (line_starts_of nobreak width ps)
stays_break nobreak width ps qs n i s k same e from below may = stays_by nobreak width ps qs n i s k same e from below (or_left (may_end ps k) (cluster_ends_at ps k) may) (inl may)

stays_cluster : (nobreak : Bool) (width : ℕ) (ps qs : List CharInfo) (n i s k : ℕ) → take n ps ≡ take n qs → slice_get (line_starts_of nobreak width ps) i ≡ Some s → s ≤ k → k < n → cluster_ends_at ps k ≡ true
    → may_end ps (s - 1) ≡ false → take (suc i) (line_starts_of nobreak width qs) ≡ take (suc i) (line_starts_of nobreak width ps)
stays_cluster nobreak width ps qs n i s k same e from below cluster plain =
    stays_by nobreak width ps qs n i s k same e from below (or_right (may_end ps k) (cluster_ends_at ps k) cluster) (inr plain)

first_is : (nobreak : Bool) (width place left : ℕ) (rest : List CharInfo) → 0 < length (starts nobreak width place left rest)
    → (get_or (starts nobreak width place left rest) 0 0 ≡ place + left) × (left < length rest)
first_is nobreak width place zero [] some = absurd (omega (arith, some))
first_is nobreak width place (suc left) [] some = absurd (omega (arith, some))
first_is nobreak width place zero (p ∷ rest) some = (omega arith, omega arith)
first_is nobreak width place (suc left) (p ∷ rest) some =
    let later = first_is nobreak width (suc place) left rest some in
    (omega (arith, later.0), omega (arith, later.1))

second_is : (nobreak : Bool) (width place : ℕ) (rest : List CharInfo) → 1 < length (starts nobreak width place 0 rest)
    → (get_or (starts nobreak width place 0 rest) 1 0 ≡ place + line_len nobreak width rest) × (line_len nobreak width rest < length rest)
second_is nobreak width place [] some = absurd (omega (arith, some))
second_is nobreak width place (p ∷ rest) some =
    let later = first_is nobreak width (suc place) (line_len nobreak width (p ∷ rest) - 1) rest (omega (arith, some)) in
    (omega (arith, later.0), omega (arith, later.1))

-- the line start after s is the end of the line that starts at s
next_is : (nobreak : Bool) (width : ℕ) (ps : List CharInfo) (i s t : ℕ) → slice_get (line_starts_of nobreak width ps) i ≡ Some s → slice_get (line_starts_of nobreak width ps) (i + 1) ≡ Some t
    → (t ≡ s + line_len nobreak width (drop s ps)) × (line_len nobreak width (drop s ps) < length (drop s ps))
unfolding line_starts_of
next_is nobreak width ps i s t e f =
    let all : List ℕ = starts nobreak width 0 0 ps in
    let zeroth : s - 0 ≡ s = omega arith in
    let from : drop i all ≡ starts nobreak width s 0 (drop s ps) =
    starts_after nobreak width 0 0 ps i s (slice_get_within all i s e) (get_or_from_slice_get all i s 0 e) ∙ ap (λ m. starts nobreak width s 0 (drop m ps)) zeroth in
    let some : 1 < length (starts nobreak width s 0 (drop s ps)) =
    omega (arith, slice_get_within all (i + 1) t f, length-drop i all, ap (λ (xs : List ℕ). length xs) from) in
    let second = second_is nobreak width s (drop s ps) some in
    (sym (get_or_from_slice_get all (i + 1) t 0 f) ∙ sym (get_or-drop i all 1 0) ∙ ap (λ (xs : List ℕ). get_or xs 1 0) from ∙ second.0, second.1)

start_there : (nobreak : Bool) (width : ℕ) (ps : List CharInfo) (i k t : ℕ) → slice_get (line_starts_of nobreak width ps) k ≡ Some t → i < k
    → slice_get (line_starts_of nobreak width ps) i ≡ Some (get_or (line_starts_of nobreak width ps) i 0)
start_there nobreak width ps i k t e before =
    slice_get-get_or (line_starts_of nobreak width ps) i 0 (omega (arith, slice_get_within (line_starts_of nobreak width ps) k t e, before))

-- if the line from s on and the line from u on end at or before n, and a third line follows, the first i + 1
-- line starts are the same in both texts
stays_between : (nobreak : Bool) (width : ℕ) (ps qs : List CharInfo) (n i s u t : ℕ) → take n ps ≡ take n qs → slice_get (line_starts_of nobreak width ps) i ≡ Some s
    → slice_get (line_starts_of nobreak width ps) (i + 1) ≡ Some u → slice_get (line_starts_of nobreak width ps) (i + 1 + 1) ≡ Some t → t ≤ n
    → take (suc i) (line_starts_of nobreak width qs) ≡ take (suc i) (line_starts_of nobreak width ps)
stays_between nobreak width ps qs n i s u t same first second third within =
    let one = next_is nobreak width ps i s u first second in
    let two = next_is nobreak width ps (i + 1) u t second third in
    let e : ℕ = line_len nobreak width (drop u ps) - 1 in
    let k : ℕ = u + e in
    let ds : List CharInfo = drop u ps in
    let before : u < t = omega (arith, two.0) in
    let last : suc k ≡ t = omega (arith, two.0) in
    let candidate : is_candidate ps k ≡ true =
    ap (λ (p : CharInfo). is_candidate (p ∷ []) 0) (sym (get_or-drop u ps e nothing)) ∙ len_is_candidate nobreak width e ds (omega arith) (omega (arith, two.1)) in
    let after : s ≤ u - 1 = omega (arith, one.0) in
    elim (cases_Bool (may_end ps k)) [
      | inl may ↦ stays_break nobreak width ps qs n i s k same first (omega (arith, after)) (omega (arith, last, within)) may
      | inr never ↦ elim (cases_Bool (may_end ps (u - 1))) [
        | inl may ↦ stays_break nobreak width ps qs n i s (u - 1) same first after (omega (arith, before, within, one.0)) may
        | inr plain ↦
            let cluster : cluster_ends_at ps k ≡ true = ap (λ b. b || cluster_ends_at ps k) (sym never) ∙ candidate in
            let more = stays_cluster nobreak width ps qs n (i + 1) u k same second (omega arith) (omega (arith, last, within)) cluster plain in
            sym (take-take (suc i) (suc (i + 1)) (line_starts_of nobreak width qs) (omega arith))
            ∙ ap (take (suc i)) more ∙ take-take (suc i) (suc (i + 1)) (line_starts_of nobreak width ps) (omega arith)
      ]
    ]

stays_lines : (nobreak : Bool) (width : ℕ) (ps qs : List CharInfo) (n i t : ℕ) → take n ps ≡ take n qs → slice_get (line_starts_of nobreak width ps) (i + 2) ≡ Some t → t ≤ n
    → take (suc i) (line_starts_of nobreak width qs) ≡ take (suc i) (line_starts_of nobreak width ps)
stays_lines nobreak width ps qs n i t same third within =
    let e : i + 2 ≡ i + 1 + 1 = omega arith in
    stays_between nobreak width ps qs n i (get_or (line_starts_of nobreak width ps) i 0) (get_or (line_starts_of nobreak width ps) (i + 1) 0) t same
    (start_there nobreak width ps i (i + 2) t third (omega arith)) (start_there nobreak width ps (i + 1) (i + 2) t third (omega arith))
    (ap (slice_get (line_starts_of nobreak width ps)) (sym e) ∙ third) within

pub starts_stay : (nobreak : Bool) (width : ℕ) (ps qs : List CharInfo) (n : ℕ) → take n ps ≡ take n qs → StartsStay nobreak width ps qs n
starts_stay nobreak width ps qs n same = record {
  before_break = λ i s k e from below may. stays_break nobreak width ps qs n i s k same e from below may;
  before_cluster = λ i s k e from below cluster plain. stays_cluster nobreak width ps qs n i s k same e from below cluster plain;
  before_lines = λ i t e within. stays_lines nobreak width ps qs n i t same e within;
}

-- ---- starts in three parts

get_taken : {X : Type 0} (xs : List X) (n i : ℕ) → i < n → slice_get (take n xs) i ≡ slice_get xs i
get_taken xs zero i below = absurd (omega (arith, below))
get_taken [] (suc n) i below = refl
get_taken (x ∷ xs) (suc n) zero below = refl
get_taken (x ∷ xs) (suc n) (suc i) below = get_taken xs n i (omega (arith, below))

take_less : {X : Type 0} (xs : List X) (i : ℕ) → take i (take (suc i) xs) ≡ take i xs
take_less [] zero = refl
take_less [] (suc i) = refl
take_less (x ∷ xs) zero = refl
take_less (x ∷ xs) (suc i) = ap (λ (ys : List _). x ∷ ys) (take_less xs i)

take_twice : {X : Type 0} (xs : List X) (n : ℕ) → take n (take n xs) ≡ take n xs
take_twice xs zero = refl
take_twice [] (suc n) = refl
take_twice (x ∷ xs) (suc n) = ap (λ (ys : List _). x ∷ ys) (take_twice xs n)

from_zero : (xs : List ℕ) → map (λ l. 0 + l) xs ≡ xs
from_zero [] = refl
from_zero (x ∷ xs) = let e : 0 + x ≡ x = omega arith in ap (λ m. m ∷ map (λ l. 0 + l) xs) e ∙ ap (λ (ys : List ℕ). x ∷ ys) (from_zero xs)

moved_again : (s t u : ℕ) (xs : List ℕ) → map (λ l. s + l) (map (λ l. t + (l - u)) xs) ≡ map (λ l. s + t + (l - u)) xs
moved_again s t u [] = refl
moved_again s t u (x ∷ xs) =
    let e : s + (t + (x - u)) ≡ s + t + (x - u) = omega arith in
    ap (λ m. m ∷ map (λ l. s + l) (map (λ l. t + (l - u)) xs)) e ∙ ap (λ (ys : List ℕ). (s + t + (x - u)) ∷ ys) (moved_again s t u xs)

first_is_zero : (nobreak : Bool) (width : ℕ) (ps : List CharInfo) (s : ℕ) → slice_get (line_starts_of nobreak width ps) 0 ≡ Some s → 0 ≡ s
unfolding line_starts_of
first_is_zero nobreak width [] s e = absurd (none-some s e)
first_is_zero nobreak width (p ∷ ps) s e = same_Some 0 s e

module _ (nobreak : Bool) (width : ℕ) (ps qs : List CharInfo) (n : ℕ) (same : take n ps ≡ take n qs) where
  abbrev starts_in : List CharInfo → List ℕ
  starts_in list = line_starts_of nobreak width list

  splice_to_end : (i s k : ℕ) → slice_get (starts_in ps) i ≡ Some s → StaysFrom ps n i s k → starts_in qs ≡ take i (starts_in ps) ++ map (λ l. s + l) (starts_in (drop s qs))
  splice_to_end i s k e (inl first) =
      let none : 0 ≡ s = first_is_zero nobreak width ps s (subst (λ m. slice_get (starts_in ps) m ≡ Some s) first e) in
      sym (from_zero (starts_in qs))
      ∙ ap (λ m. map (λ l. m + l) (starts_in (drop m qs))) none
      ∙ ap (λ m. take m (starts_in ps) ++ map (λ l. s + l) (starts_in (drop s qs))) (sym first)
  splice_to_end i s k e (inr (low, more)) =
      let stays : take (suc i) (starts_in qs) ≡ take (suc i) (starts_in ps) = stays_break nobreak width ps qs n i s k same e low more.0 more.1 in
      let there : slice_get (starts_in qs) i ≡ Some s =
      sym (get_taken (starts_in qs) (suc i) i (omega arith)) ∙ ap (λ (xs : List ℕ). slice_get xs i) stays ∙ get_taken (starts_in ps) (suc i) i (omega arith) ∙ e in
      let front : take i (starts_in qs) ≡ take i (starts_in ps) = sym (take_less (starts_in qs) i) ∙ ap (take i) stays ∙ take_less (starts_in ps) i in
      sym (take-append-drop i (starts_in qs)) ∙ ap₂ (λ (xs ys : List ℕ). xs ++ ys) front (starts_alone nobreak width qs i s there)

  splice_to_start : (i s k m j t l b u : ℕ) → slice_get (starts_in ps) i ≡ Some s → StaysFrom ps n i s k
      → slice_get (starts_in (take m (drop s qs))) j ≡ Some t → t ≤ l → l < m → may_end (take m (drop s qs)) l ≡ true
      → slice_get (starts_in ps) b ≡ Some u → drop u ps ≡ drop (s + t) qs
      → starts_in qs ≡ take i (starts_in ps) ++ (map (λ l. s + l) (take j (starts_in (take m (drop s qs)))) ++ map (λ l. s + t + (l - u)) (drop b (starts_in ps)))
  splice_to_start i s k m j t l b u e stay found low below may later rest =
      let ws : List CharInfo = take m (drop s qs) in
      let rs : List CharInfo = drop s qs in
      let stays : take (suc j) (starts_in rs) ≡ take (suc j) (starts_in ws) = stays_break nobreak width ws rs m j t l (take_twice rs m) found low below may in
      let there : slice_get (starts_in rs) j ≡ Some t =
      sym (get_taken (starts_in rs) (suc j) j (omega arith)) ∙ ap (λ (xs : List ℕ). slice_get xs j) stays ∙ get_taken (starts_in ws) (suc j) j (omega arith) ∙ found in
      let front : take j (starts_in rs) ≡ take j (starts_in ws) = sym (take_less (starts_in rs) j) ∙ ap (take j) stays ∙ take_less (starts_in ws) j in
      let back : drop j (starts_in rs) ≡ map (λ l. t + (l - u)) (drop b (starts_in ps)) =
      (starts_follow nobreak width ps rs).moved b j u t later there (rest ∙ sym (drop-drop t s qs)) in
      let parts : starts_in rs ≡ take j (starts_in ws) ++ map (λ l. t + (l - u)) (drop b (starts_in ps)) =
      sym (take-append-drop j (starts_in rs)) ∙ ap₂ (λ (xs ys : List ℕ). xs ++ ys) front back in
      splice_to_end i s k e stay
      ∙ ap (λ (xs : List ℕ). take i (starts_in ps) ++ map (λ l. s + l) xs) parts
      ∙ ap (λ (xs : List ℕ). take i (starts_in ps) ++ xs)
      (map-append (λ l. s + l) (take j (starts_in ws)) (map (λ l. t + (l - u)) (drop b (starts_in ps)))
      ∙ ap (λ (xs : List ℕ). map (λ l. s + l) (take j (starts_in ws)) ++ xs) (moved_again s t u (drop b (starts_in ps))))

pub starts_splice : (nobreak : Bool) (width : ℕ) (ps qs : List CharInfo) (n : ℕ) → take n ps ≡ take n qs → StartsSplice nobreak width ps qs n
starts_splice nobreak width ps qs n same = record {
  to_end = λ i s k e stay. splice_to_end nobreak width ps qs n same i s k e stay;
  to_start = λ i s k m j t l b u e stay found low below may later rest. splice_to_start nobreak width ps qs n same i s k m j t l b u e stay found low below may later rest;
}
