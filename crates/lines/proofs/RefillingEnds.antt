-- Where the first line ends if only the first characters of a paragraph are known.
use Rattle.std.proofs.Common.{take-take, ◌≡◌, ◌⊎◌, ℕ, zero, suc, ◌+◌, ◌-◌, ◌<◌, ◌≤◌, Bool, true, false, ◌&&◌, ◌||◌, Option, Some, None, unwrap_or, List, [], ◌∷◌, length, take, drop, if◌then◌else◌, refl, sym, ap, ◌∙◌, inl, inr, arith}
use Rattle.std.proofs.lemmas.Bool.{and_from, and_parts, cond-true, cond-false, cases_Bool, cases_eq, cases_lt, both_ways, and_right, or_left, or_right}
use Rattle.std.proofs.lemmas.List.{get_or-drop, get_or-take, get_or_past, length-drop, length-take}
use Rattle.bidi.specs.Brackets.{greatest}
use Rattle.bidi.proofs.PairLemmas.{greatest_found}
use Rattle.lines.specs.Filling.{by_break, by_cluster, cluster_ends_at, first_end, fits, fits_to, may_end, must_end, nothing, or_else, place_at, line_end, line_len, stop}
use Rattle.lines.specs.declared.char_info.CharInfo.{CharInfo}
use Rattle.lines.proofs.FillingLemmas.{first_end_at, first_end_none, greatest_skips, misfits, stop_at, stop_from, stop_none}
use Rattle.lines.proofs.StayLemmas.{must_may}
use Rattle.lines.proofs.RefillingWidths.{misfits_earlier}

-- ---- the same first characters

same_place : (n k : ℕ) (ps qs : List CharInfo) → take n ps ≡ take n qs → k < n → place_at ps k ≡ place_at qs k
same_place n k ps qs same below =
    sym (get_or-take n ps k nothing below) ∙ ap (λ (xs : List CharInfo). place_at xs k) same ∙ get_or-take n qs k nothing below

same_fits : (width n k : ℕ) (ps qs : List CharInfo) → take n ps ≡ take n qs → k < n → fits_to width ps k ≡ fits_to width qs k
same_fits width n k ps qs same below =
    ap (fits width) (sym (take-take (suc k) n ps (omega (arith, below))) ∙ ap (take (suc k)) same ∙ take-take (suc k) n qs (omega (arith, below)))

same_within : (n k : ℕ) (ps qs : List CharInfo) → take n ps ≡ take n qs → k < n → k < length ps → k < length qs
same_within n k ps qs same below within = omega (arith, length-take n ps, length-take n qs, ap (λ (xs : List CharInfo). length xs) same, below, within)

-- ---- the least and the greatest number that passes a test

-- either no number below n passes a test, or there is a first one that does
first_below : (test : ℕ → Bool) (n : ℕ) → ((k : ℕ) → k < n → test k ≡ false) ⊎ ((z : ℕ) × (z < n) × (test z ≡ true) × ((k : ℕ) → k < z → test k ≡ false))
first_below test zero = inl (λ k below. absurd (omega (arith, below)))
first_below test (suc n) =
    elim (first_below test n) [
      | inr found ↦ inr (found.0, omega (arith, found.1), found.2, found.3)
      | inl none ↦ elim (cases_Bool (test n)) [
        | inl passed ↦ inr (n, omega arith, passed, none)
        | inr failed ↦ inl (λ k below. elim (cases_eq k n) [
          | inl e ↦ ap test e ∙ failed
          | inr ne ↦ none k (omega (arith, below, ne))
        ])
      ]
    ]

greatest_agree : (p q : ℕ → Bool) (n : ℕ) → ((k : ℕ) → k < n → p k ≡ q k) → greatest p n ≡ greatest q n
greatest_agree p q zero same = refl
greatest_agree p q (suc n) same =
    ap (λ b. if b then Some n else greatest p n) (same n (omega arith))
    ∙ ap (λ o. if q n then Some n else o) (greatest_agree p q n (λ k below. same k (omega (arith, below))))

-- the greatest number that passes is at least each one that passes
greatest_least : (p : ℕ → Bool) (n k : ℕ) → k < n → p k ≡ true → (j : ℕ) × (k ≤ j) × (greatest p n ≡ Some j)
greatest_least p zero k below passed = absurd (omega (arith, below))
greatest_least p (suc n) k below passed =
    elim (cases_Bool (p n)) [
      | inl here ↦ (n, omega (arith, below), cond-true (p n) (Some n) (greatest p n) here)
      | inr failed ↦ elim (cases_eq k n) [
        | inl e ↦ absurd (both_ways (p n) failed (ap p (sym e) ∙ passed))
        | inr ne ↦
            let rest = greatest_least p n k (omega (arith, below, ne)) passed in
            (rest.0, rest.1, cond-false (p n) (Some n) (greatest p n) failed ∙ rest.2)
      ]
    ]

-- ---- where the first line ends

-- There is a character before n that does not fit on the first line, or after which the line must end. So the line ends
-- before n, or there is no position at which it may end and at which it fits.
abbrev pub Ends : ℕ → ℕ → List CharInfo → Type 0
Ends width n rest = (m : ℕ) × (m < n) × (m < length rest) × ((fits_to width rest m ≡ false) ⊎ (must_end rest m ≡ true))

-- the last position that passes a test and at which the line fits, up to the position at which the line must
-- end
abbrev last_of : (List CharInfo → ℕ → Bool) → ℕ → List CharInfo → Option ℕ
last_of test width rest = greatest (λ k. test rest k && fits_to width rest k) (suc (stop rest))

-- whether a test of a position depends only on the character there
abbrev IsLocal : (List CharInfo → ℕ → Bool) → Type 0
IsLocal test = (ps qs : List CharInfo) (k : ℕ) → place_at ps k ≡ place_at qs k → test ps k ≡ test qs k

local_both : (test : List CharInfo → ℕ → Bool) (width n k : ℕ) (ps qs : List CharInfo) → IsLocal test → take n ps ≡ take n qs → k < n
    → (test ps k && fits_to width ps k) ≡ (test qs k && fits_to width qs k)
local_both test width n k ps qs local same below =
    ap (λ b. b && fits_to width ps k) (local ps qs k (same_place n k ps qs same below)) ∙ ap (λ b. test qs k && b) (same_fits width n k ps qs same below)

same_must : (n k : ℕ) (ps qs : List CharInfo) → take n ps ≡ take n qs → k < n → must_end ps k ≡ must_end qs k
same_must n k ps qs same below = ap (λ (p : CharInfo). must_end (p ∷ []) 0) (same_place n k ps qs same below)

-- if the first mandatory break is before n, it is at the same place in both texts
same_stop : (n z : ℕ) (ps qs : List CharInfo) → take n ps ≡ take n qs → z < n → z < length ps → must_end ps z ≡ true → ((k : ℕ) → k < z → must_end ps k ≡ false)
    → (stop ps ≡ z) × (stop qs ≡ z)
same_stop n z ps qs same below within here before = (
  stop_at ps z within before here,
  stop_at qs z (same_within n z ps qs same below within) (λ k under. sym (same_must n k ps qs same (omega (arith, under, below))) ∙ before k under)
      (sym (same_must n z ps qs same below) ∙ here),
)

last_by_must : (test : List CharInfo → ℕ → Bool) (width n z : ℕ) (ps qs : List CharInfo) → IsLocal test → take n ps ≡ take n qs → z < n → z < length ps → must_end ps z ≡ true
    → ((k : ℕ) → k < z → must_end ps k ≡ false) → last_of test width ps ≡ last_of test width qs
last_by_must test width n z ps qs local same below within here before =
    let stops = same_stop n z ps qs same below within here before in
    ap (λ m. greatest (λ k. test ps k && fits_to width ps k) (suc m)) stops.0
    ∙ greatest_agree (λ k. test ps k && fits_to width ps k) (λ k. test qs k && fits_to width qs k) (suc z) (λ k under. local_both test width n k ps qs local same (omega (arith, under, below)))
    ∙ ap (λ m. greatest (λ k. test qs k && fits_to width qs k) (suc m)) (sym stops.1)

-- if a line does not fit up to m, and need not end before m, the last position that passes a test and fits is
-- before m
last_skips : (test : List CharInfo → ℕ → Bool) (width m : ℕ) (ps : List CharInfo) → m < length ps → fits_to width ps m ≡ false → ((k : ℕ) → k < m → must_end ps k ≡ false)
    → last_of test width ps ≡ greatest (λ k. test ps k && fits_to width ps k) m
last_skips test width m ps within misfit before =
    let stops = stop_from ps m within before in
    greatest_skips (λ k. test ps k && fits_to width ps k) m (suc (stop ps)) (omega (arith, stops.0))
    (λ k from to. and_right (test ps k) (fits_to width ps k) (misfits width ps m k from (omega (arith, to, stops.1)) misfit))

last_by_misfit : (test : List CharInfo → ℕ → Bool) (width n m : ℕ) (ps qs : List CharInfo) → IsLocal test → take n ps ≡ take n qs → m < n → m < length ps → fits_to width ps m ≡ false
    → ((k : ℕ) → k < m → must_end ps k ≡ false) → last_of test width ps ≡ last_of test width qs
last_by_misfit test width n m ps qs local same below within misfit before =
    last_skips test width m ps within misfit before
    ∙ greatest_agree (λ k. test ps k && fits_to width ps k) (λ k. test qs k && fits_to width qs k) m (λ k under. local_both test width n k ps qs local same (omega (arith, under, below)))
    ∙ sym (last_skips test width m qs (same_within n m ps qs same below within) (sym (same_fits width n m ps qs same below) ∙ misfit)
    (λ k under. sym (same_must n k ps qs same (omega (arith, under, below))) ∙ before k under))

same_last : (test : List CharInfo → ℕ → Bool) (width n : ℕ) (ps qs : List CharInfo) → IsLocal test → take n ps ≡ take n qs → Ends width n ps → last_of test width ps ≡ last_of test width qs
same_last test width n ps qs local same ends =
    let m : ℕ = ends.0 in
    elim (first_below (must_end ps) m) [
      | inr z ↦ last_by_must test width n z.0 ps qs local same (omega (arith, z.1, ends.1)) (omega (arith, z.1, ends.2)) z.2 z.3
      | inl none ↦ elim ends.3 [
        | inl misfit ↦ last_by_misfit test width n m ps qs local same ends.1 ends.2 misfit none
        | inr must ↦ last_by_must test width n m ps qs local same ends.1 ends.2 must none
      ]
    ]

-- whether a line may end after a character or a cluster ends there
abbrev pub is_candidate : List CharInfo → ℕ → Bool
is_candidate ps k = may_end ps k || cluster_ends_at ps k

pub candidate_within : (ps : List CharInfo) (k : ℕ) → is_candidate ps k ≡ true → k < length ps
candidate_within ps k candidate =
    elim (cases_lt k (length ps)) [
      | inl within ↦ within
      | inr past ↦ absurd (both_ways (is_candidate ps k) (ap (λ (p : CharInfo). is_candidate (p ∷ []) 0) (get_or_past ps k nothing past)) candidate)
    ]

same_candidate : (n k : ℕ) (ps qs : List CharInfo) → take n ps ≡ take n qs → k < n → is_candidate ps k ≡ is_candidate qs k
same_candidate n k ps qs same below = ap (λ (p : CharInfo). is_candidate (p ∷ []) 0) (same_place n k ps qs same below)

-- if the first place at which the line may end or a cluster ends is before n, it is the same in both texts
same_first : (n : ℕ) (ps qs : List CharInfo) → take n ps ≡ take n qs → first_end ps < n → suc (first_end ps) < length ps → first_end qs ≡ first_end ps
same_first n ps qs same below within =
    elim (first_below (is_candidate ps) (length ps)) [
      | inl none ↦ absurd (omega (arith, within, first_end_none ps none))
      | inr z ↦
          let is : first_end ps ≡ z.0 = first_end_at ps z.0 z.1 z.3 z.2 in
          let under : z.0 < n = omega (arith, is, below) in
          first_end_at qs z.0 (same_within n z.0 ps qs same under z.1)
          (λ k before. sym (same_candidate n k ps qs same (omega (arith, before, under))) ∙ z.3 k before)
          (sym (same_candidate n z.0 ps qs same under) ∙ z.2)
          ∙ sym is
    ]

same_choice : (a b c d : Option ℕ) (e f k : ℕ) → a ≡ b → c ≡ d → unwrap_or (or_else a c) e ≡ k → (e ≡ k → f ≡ k) → unwrap_or (or_else b d) f ≡ k
same_choice (Some m) b c d e f k one two is last = ap (λ o. unwrap_or (or_else o d) f) (sym one) ∙ is
same_choice None b (Some m) d e f k one two is last = ap (λ o. unwrap_or (or_else o d) f) (sym one) ∙ ap (λ o. unwrap_or o f) (sym two) ∙ is
same_choice None b None d e f k one two is last = ap (λ o. unwrap_or (or_else o d) f) (sym one) ∙ ap (λ o. unwrap_or o f) (sym two) ∙ last is

pub same_end : (width n : ℕ) (ps qs : List CharInfo) → take n ps ≡ take n qs → Ends width n ps → line_end width ps < n → suc (line_end width ps) < length ps → line_end width qs ≡ line_end width ps
same_end width n ps qs same ends below within =
    same_choice (by_break width ps) (by_break width qs) (by_cluster width ps) (by_cluster width qs) (first_end ps) (first_end qs) (line_end width ps)
    (same_last (λ rest k. may_end rest k) width n ps qs (λ xs ys k e. ap (λ (p : CharInfo). may_end (p ∷ []) 0) e) same ends)
    (same_last (λ rest k. cluster_ends_at rest k) width n ps qs (λ xs ys k e. ap (λ (p : CharInfo). cluster_ends_at (p ∷ []) 0) e) same ends)
    refl
    (λ e. same_first n ps qs same (omega (arith, e, below)) (omega (arith, e, within)) ∙ e)

-- if there is a break opportunity at k, after the end of the first line and before n, `Ends` holds for n
pub ends_by_break : (width n k : ℕ) (ps : List CharInfo) → line_end width ps < k → k < n → may_end ps k ≡ true → Ends width n ps
ends_by_break width n k ps after below may =
    let within : k < length ps = candidate_within ps k (or_left (may_end ps k) (cluster_ends_at ps k) may) in
    elim (first_below (must_end ps) k) [
      | inr z ↦ (z.0, omega (arith, z.1, below), omega (arith, z.1, within), inr z.2)
      | inl none ↦ elim (cases_Bool (fits_to width ps k)) [
        | inr misfit ↦ (k, below, within, inl misfit)
        | inl fit ↦
            let stops = stop_from ps k within none in
            let last = greatest_least (λ j. may_end ps j && fits_to width ps j) (suc (stop ps)) k (omega (arith, stops.0)) (and_from (may_end ps k) (fits_to width ps k) may fit) in
            let is : line_end width ps ≡ last.0 = ap (λ o. unwrap_or (or_else o (by_cluster width ps)) (first_end ps)) last.2 in
            absurd (omega (arith, is, last.1, after))
      ]
    ]

either_option : (o : Option ℕ) → (o ≡ None) ⊎ ((x : ℕ) × (o ≡ Some x))
either_option None = inl refl
either_option (Some x) = inr (x, refl)

-- if the line ends at no break opportunity, none fits
no_break : (width : ℕ) (ps : List CharInfo) → may_end ps (line_end width ps) ≡ false → by_break width ps ≡ None
no_break width ps plain =
    elim (either_option (by_break width ps)) [
      | inl none ↦ none
      | inr found ↦
          let is : line_end width ps ≡ found.0 = ap (λ o. unwrap_or (or_else o (by_cluster width ps)) (first_end ps)) found.1 in
          let passed = and_parts (may_end ps found.0) (fits_to width ps found.0) (greatest_found (λ j. may_end ps j && fits_to width ps j) (suc (stop ps)) found.0 found.1).1 in
          absurd (both_ways (may_end ps (line_end width ps)) plain (ap (may_end ps) is ∙ passed.0))
    ]

-- if the first line ends at no break opportunity, and at a later position k a line may end or a cluster ends,
-- `Ends` holds for k + 1
pub ends_by_cluster : (width k : ℕ) (ps : List CharInfo) → line_end width ps < k → may_end ps (line_end width ps) ≡ false → is_candidate ps k ≡ true → Ends width (suc k) ps
ends_by_cluster width k ps after plain candidate =
    let within : k < length ps = candidate_within ps k candidate in
    elim (first_below (must_end ps) k) [
      | inr z ↦ (z.0, omega (arith, z.1), omega (arith, z.1, within), inr z.2)
      | inl none ↦ elim (cases_Bool (fits_to width ps k)) [
        | inr misfit ↦ (k, omega arith, within, inl misfit)
        | inl fit ↦ elim (cases_Bool (may_end ps k)) [
          | inl may ↦ ends_by_break width (suc k) k ps after (omega arith) may
          | inr never ↦
              let stops = stop_from ps k within none in
              let cluster : cluster_ends_at ps k ≡ true = ap (λ b. b || cluster_ends_at ps k) (sym never) ∙ candidate in
              let last = greatest_least (λ j. cluster_ends_at ps j && fits_to width ps j) (suc (stop ps)) k (omega (arith, stops.0)) (and_from (cluster_ends_at ps k) (fits_to width ps k) cluster fit) in
              let is : line_end width ps ≡ last.0 =
              ap (λ o. unwrap_or (or_else o (by_cluster width ps)) (first_end ps)) (no_break width ps plain)
              ∙ ap (λ o. unwrap_or o (first_end ps)) last.2 in
              absurd (omega (arith, is, last.1, after))
        ]
      ]
    ]

-- if `Ends` holds for n in the text from s on, `Ends` holds for s + n in the whole text
ends_earlier : (width n s : ℕ) (ps : List CharInfo) → Ends width n (drop s ps) → Ends width (s + n) ps
ends_earlier width n s ps ends =
    let m : ℕ = ends.0 in
    let within : s + m < length ps = omega (arith, ends.2, length-drop s ps) in (
      s + m,
      omega (arith, ends.1),
      within,
      elim ends.3 [
        | inl misfit ↦ inl (misfits_earlier width s m ps within misfit)
        | inr must ↦ inr (ap (λ (p : CharInfo). must_end (p ∷ []) 0) (sym (get_or-drop s ps m nothing)) ∙ must)
      ],
    )

pub ends_within : (width n m : ℕ) (ps : List CharInfo) → n ≤ m → Ends width n ps → Ends width m ps
ends_within width n m ps more ends = (ends.0, omega (arith, ends.1, more), ends.2, ends.3)

-- if the second line ends before k, and a line may end or a cluster ends at k, `Ends` holds for k + 1
pub ends_by_next : (width s k : ℕ) (ps : List CharInfo) → s ≡ suc (line_end width ps) → s + line_end width (drop s ps) < k → is_candidate ps k ≡ true → Ends width (suc k) ps
ends_by_next width s k ps is after candidate =
    let ds : List CharInfo = drop s ps in
    let e : ℕ = line_end width ds in
    elim (cases_Bool (may_end ds e)) [
      | inl may ↦
          ends_by_break width (suc k) (s + e) ps (omega (arith, is)) (omega (arith, after))
          (ap (λ (p : CharInfo). may_end (p ∷ []) 0) (sym (get_or-drop s ps e nothing)) ∙ may)
      | inr plain ↦
          let back : s + (k - s) ≡ k = omega (arith, after) in
          let there : place_at ds (k - s) ≡ place_at ps k = get_or-drop s ps (k - s) nothing ∙ ap (place_at ps) back in
          let ends = ends_by_cluster width (k - s) ds (omega (arith, after)) plain (ap (λ (p : CharInfo). is_candidate (p ∷ []) 0) there ∙ candidate) in
          ends_within width (s + suc (k - s)) (suc k) ps (omega (arith, after)) (ends_earlier width (suc (k - s)) s ps ends)
    ]

-- if lines end only at mandatory breaks, and the first line ends before n and is not the last, it ends at the
-- same place in both texts
pub same_stop_end : (n : ℕ) (ps qs : List CharInfo) → take n ps ≡ take n qs → stop ps < n → suc (stop ps) < length ps → stop qs ≡ stop ps
same_stop_end n ps qs same below within =
    elim (first_below (must_end ps) (length ps)) [
      | inl none ↦ absurd (omega (arith, within, stop_none ps none))
      | inr z ↦
          let is : stop ps ≡ z.0 = stop_at ps z.0 z.1 z.3 z.2 in
          (same_stop n z.0 ps qs same (omega (arith, is, below)) z.1 z.2 z.3).1 ∙ sym is
    ]

-- the first line ends at a break opportunity or a cluster end if the paragraph has another line
end_is_candidate : (width : ℕ) (ps : List CharInfo) → suc (line_end width ps) < length ps → is_candidate ps (line_end width ps) ≡ true
end_is_candidate width ps within =
    elim (either_option (by_break width ps)) [
      | inr found ↦
          let is : line_end width ps ≡ found.0 = ap (λ o. unwrap_or (or_else o (by_cluster width ps)) (first_end ps)) found.1 in
          let passed = and_parts (may_end ps found.0) (fits_to width ps found.0) (greatest_found (λ j. may_end ps j && fits_to width ps j) (suc (stop ps)) found.0 found.1).1 in
          ap (is_candidate ps) is ∙ or_left (may_end ps found.0) (cluster_ends_at ps found.0) passed.0
      | inl none ↦ elim (either_option (by_cluster width ps)) [
        | inr found ↦
            let is : line_end width ps ≡ found.0 = ap (λ o. unwrap_or (or_else o (by_cluster width ps)) (first_end ps)) none ∙ ap (λ o. unwrap_or o (first_end ps)) found.1 in
            let passed = and_parts (cluster_ends_at ps found.0) (fits_to width ps found.0) (greatest_found (λ j. cluster_ends_at ps j && fits_to width ps j) (suc (stop ps)) found.0 found.1).1 in
            ap (is_candidate ps) is ∙ or_right (may_end ps found.0) (cluster_ends_at ps found.0) passed.0
        | inl empty ↦
            let is : line_end width ps ≡ first_end ps = ap (λ o. unwrap_or (or_else o (by_cluster width ps)) (first_end ps)) none ∙ ap (λ o. unwrap_or o (first_end ps)) empty in
            elim (first_below (is_candidate ps) (length ps)) [
              | inl fails ↦ absurd (omega (arith, within, is, first_end_none ps fails))
              | inr z ↦ ap (is_candidate ps) (is ∙ first_end_at ps z.0 z.1 z.3 z.2) ∙ z.2
            ]
      ]
    ]

stop_is_candidate : (ps : List CharInfo) → suc (stop ps) < length ps → is_candidate ps (stop ps) ≡ true
stop_is_candidate ps within =
    elim (first_below (must_end ps) (length ps)) [
      | inl none ↦ absurd (omega (arith, within, stop_none ps none))
      | inr z ↦ ap (is_candidate ps) (stop_at ps z.0 z.1 z.3 z.2) ∙ must_may (place_at ps z.0).mark (place_at ps z.0).ends_cluster z.2
    ]

pub len_is_candidate : (nobreak : Bool) (width e : ℕ) (ps : List CharInfo) → suc e ≡ line_len nobreak width ps → suc e < length ps → is_candidate ps e ≡ true
len_is_candidate true width e ps is within = let same : e ≡ stop ps = omega (arith, is) in ap (is_candidate ps) same ∙ stop_is_candidate ps (omega (arith, same, within))
len_is_candidate false width e ps is within = let same : e ≡ line_end width ps = omega (arith, is) in ap (is_candidate ps) same ∙ end_is_candidate width ps (omega (arith, same, within))
