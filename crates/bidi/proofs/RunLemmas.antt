-- The level runs from an index on, and the sequence that begins with the first of these runs.
use Rattle.std.proofs.Common.{◌≡◌, ◌≢◌, ℕ, zero, suc, ◌+◌, ◌-◌, ◌<◌, ◌≤◌, nat_lt, ◌==◌, true, false, ◌&&◌, not, List, [], ◌∷◌, ◌++◌, length, take, drop, get_or, slice_index, Option, Some, None, unwrap_or, refl, sym, ap, subst, ◌∙◌, inl, inr, arith}
use Rattle.std.specs.List.{range_with_len}
use Rattle.std.proofs.lemmas.Bool.{cond-true, cond-false, cases_Bool, cases_eq, cases_lt, eq-eqb, ne_eqb, ltb-true, and_parts, and_from, and_left, and_right, not_from_true, not_from_false, lt-ltb, le-ltb}
use Rattle.std.proofs.lemmas.List.{append-nil, take_at, drop_at, get_or_append_left, get_or-append_right, length-append}
use Rattle.std.proofs.lemmas.List.FromFn.{length-range_with_len, get_or-range_with_len}
use Rattle.ucd.specs.declared.bidi_class.BidiClass.{BidiClass}
use Rattle.bidi.specs.Base.{match_of}
use Rattle.ucd.specs.Classes.{class_at, is_initiator}
use Rattle.bidi.specs.Cuts.{paragraphs}
use Rattle.bidi.specs.Isolates.{match_at, matches_of}
use Rattle.ucd.specs.Within.{AreWithin}
use Rattle.bidi.specs.Runs.{IsRunEnd, runs_from, joined_first, sequence_at, next_start}
use Rattle.bidi.specs.Sequences.{changes, first_of, last_of, is_match, continues_in, joined}
use Rattle.bidi.proofs.JumpLemmas.{end-above, get_or-matches_of}
use Rattle.bidi.proofs.PiecesLemmas.{paragraphs-at_cut, paragraphs-no_cut}

-- a range of n + m numbers is a range of n numbers followed by one of m numbers
pub range-append : (a n m : ℕ) → range_with_len a (n + m) ≡ range_with_len a n ++ range_with_len (a + n) m
range-append a zero m = let e : 0 + m ≡ m = omega arith in let f : a + 0 ≡ a = omega arith in rw (e, f) refl
range-append a (suc n) m =
    let e : suc n + m ≡ suc (n + m) = omega arith in
    let f : a + 1 + n ≡ a + suc n = omega arith in
    ap (range_with_len a) e ∙ ap (λ xs. a ∷ xs) (range-append (a + 1) n m ∙ ap (λ b. range_with_len (a + 1) n ++ range_with_len b m) f)

take-range : (a n k : ℕ) → k ≤ n → take k (range_with_len a n) ≡ range_with_len a k
take-range a n k h =
    let e : n ≡ k + (n - k) = omega arith in
    ap (λ m. take k (range_with_len a m)) e ∙ ap (take k) (range-append a k (n - k)) ∙ take_at (range_with_len a k) (range_with_len (a + k) (n - k)) k (length-range_with_len a k)

drop-range : (a n k : ℕ) → k ≤ n → drop k (range_with_len a n) ≡ range_with_len (a + k) (n - k)
drop-range a n k h =
    let e : n ≡ k + (n - k) = omega arith in
    ap (λ m. drop k (range_with_len a m)) e ∙ ap (drop k) (range-append a k (n - k)) ∙ drop_at (range_with_len a k) (range_with_len (a + k) (n - k)) k (length-range_with_len a k)

pub first_of-range : (start end : ℕ) → start < end → first_of (range_with_len start (end - start)) ≡ start
first_of-range start end h = get_or-range_with_len start (end - start) 0 0 (omega arith) ∙ omega arith

pub last_of-range : (start end : ℕ) → start < end → last_of (range_with_len start (end - start)) ≡ end - 1
last_of-range start end h =
    ap (λ n. get_or (range_with_len start (end - start)) (n - 1) 0) (length-range_with_len start (end - start))
    ∙ get_or-range_with_len start (end - start) (end - start - 1) 0 (omega arith) ∙ omega arith

module _ (levels : List ℕ) where
  pub runs_from-end : (start : ℕ) → length levels ≤ start → runs_from levels start ≡ []
  runs_from-end start h = let e : length levels - start ≡ 0 = omega arith in rw e refl

  -- the level runs from `start` on are the run from `start` up to `end`, and the level runs from `end` on
  pub runs_from-run : (start end : ℕ) → IsRunEnd levels start end → runs_from levels start ≡ range_with_len start (end - start) ∷ runs_from levels end
  runs_from-run start end run =
      let above = run.above in
      let within = run.within in
      let count = length levels - start in
      let text = range_with_len start count in
      let size : length text ≡ count = length-range_with_len start count in
      let item : (m : ℕ) → m < count → slice_index text m ≡ start + m = λ m h. get_or-range_with_len start count m 0 h in
      let same : (m : ℕ) → 1 ≤ m → m < end - start → changes levels (slice_index text (m - 1)) (slice_index text m) ≡ false =
      λ m from to.
      let e : start + (m - 1) ≡ start + m - 1 = omega arith in
      ap (λ j. changes levels j (slice_index text m)) (item (m - 1) (omega arith) ∙ e) ∙ ap (changes levels (start + m - 1)) (item m (omega arith))
      ∙ not_from_true (slice_index levels (start + m - 1) == slice_index levels (start + m))
      (eq-eqb (slice_index levels (start + m - 1)) (slice_index levels (start + m))
      (run.same (start + m) (omega arith) (omega arith))) in
      elim (cases_lt end (length levels)) [
        | inl inside ↦
            let last : start + (end - start - 1) ≡ end - 1 = omega arith in
            let first : start + (end - start) ≡ end = omega arith in
            let here : changes levels (slice_index text (end - start - 1)) (slice_index text (end - start)) ≡ true =
            ap (λ j. changes levels j (slice_index text (end - start))) (item (end - start - 1) (omega arith) ∙ last) ∙ ap (changes levels (end - 1)) (item (end - start) (omega arith) ∙ first)
            ∙ not_from_false (slice_index levels (end - 1) == slice_index levels end) (ne_eqb (slice_index levels (end - 1)) (slice_index levels end) (run.other inside)) in
            let rest : count - (end - start) ≡ length levels - end = omega arith in
            paragraphs-at_cut (changes levels) text (end - start) (omega arith) (omega arith) same here
            ∙ ap (λ xs. xs ∷ paragraphs (changes levels) (drop (end - start) text)) (take-range start count (end - start) (omega arith))
            ∙ ap (λ xs. range_with_len start (end - start) ∷ paragraphs (changes levels) xs) (drop-range start count (end - start) (omega arith)
            ∙ ap (λ a. range_with_len a (count - (end - start))) first ∙ ap (range_with_len end) rest)
        | inr past ↦
            let e : count ≡ end - start = omega arith in
            paragraphs-no_cut (changes levels) text (omega arith) (λ m from to. same m from (omega arith))
            ∙ ap (λ n. range_with_len start n ∷ []) e ∙ ap (λ runs. range_with_len start (end - start) ∷ runs) (sym (runs_from-end end past))
      ]

  -- each run has an end
  find_end : (count k start : ℕ) → k + count ≡ length levels → start < k → ((m : ℕ) → start < m → m < k → slice_index levels (m - 1) ≡ slice_index levels m) → (end : ℕ) × IsRunEnd levels start end
  find_end zero k start e above same = (k, record { above = above; within = omega arith; same = same; other = λ h. absurd (omega arith) })
  find_end (suc count) k start e above same =
      elim (cases_eq (slice_index levels (k - 1)) (slice_index levels k)) [
        | inr ne ↦ (k, record { above = above; within = omega arith; same = same; other = λ h. ne })
        | inl eq ↦ find_end count (k + 1) start (omega arith) (omega arith)
            (λ m from to. elim (cases_eq m k) [ inl last ↦ rw last eq | inr ne ↦ same m from (omega arith) ])
      ]

  run_end : (start : ℕ) → start < length levels → (end : ℕ) × IsRunEnd levels start end
  run_end start h = find_end (length levels - (start + 1)) (start + 1) start (omega arith) (omega arith) (λ m from to. absurd (omega arith))

-- unless j is the length, j is the match of an initiator if and only if it is the entry in the list of
-- matches
is_match-unwrap : (o : Option ℕ) (j n : ℕ) → j ≢ n → is_match o j ≡ (unwrap_or o n == j)
is_match-unwrap None j n ne = sym (ne_eqb n j (λ e. ne (sym e)))
is_match-unwrap (Some m) j n ne = refl

pub continues-match_at : (classes : List BidiClass) (l j : ℕ) → j < length classes → (is_initiator (class_at classes l) && is_match (match_of classes l) j) ≡ (match_at classes l == j)
continues-match_at classes l j within =
    elim (cases_Bool (is_initiator (class_at classes l))) [
      | inl opens ↦ ap (λ b. b && is_match (match_of classes l) j) opens ∙ is_match-unwrap (match_of classes l) j (length classes) (omega arith)
          ∙ ap (λ m. m == j) (sym (cond-true (is_initiator (class_at classes l)) (unwrap_or (match_of classes l) (length classes)) (length classes) opens))
      | inr other ↦ ap (λ b. b && is_match (match_of classes l) j) other ∙ sym (ne_eqb (length classes) j (omega arith))
          ∙ ap (λ m. m == j) (sym (cond-false (is_initiator (class_at classes l)) (unwrap_or (match_of classes l) (length classes)) (length classes) other))
    ]

pub match_at-above : (classes : List BidiClass) (l : ℕ) → l < length classes → l < match_at classes l
match_at-above classes l within =
    elim (cases_Bool (is_initiator (class_at classes l))) [
      | inl opens ↦ end-above classes l within opens
      | inr other ↦ rw (cond-false (is_initiator (class_at classes l)) (unwrap_or (match_of classes l) (length classes)) (length classes) other) within
    ]

-- the entry for the last character of a run in the list of matches is `match_at` for that character
pub last_match : (classes : List BidiClass) (matches : List ℕ) (end len : ℕ) → matches ≡ matches_of classes
    → length classes ≡ len → 0 < end → end ≤ len → get_or matches (end - 1) 0 ≡ match_at classes (end - 1)
last_match classes matches end len e size some within = ap (λ found. get_or found (end - 1) 0) e ∙ get_or-matches_of classes (end - 1) 0 (omega arith)

module _ (classes : List BidiClass) (levels : List ℕ) (sizes : length classes ≡ length levels) where
  continues-is : (run next : List ℕ) (l j : ℕ) → last_of run ≡ l → first_of next ≡ j → j < length levels → continues_in classes run next ≡ (match_at classes l == j)
  continues-is run next l j e f within =
      ap (λ m. is_initiator (class_at classes m) && is_match (match_of classes m) (first_of next)) e ∙ ap (λ m. is_initiator (class_at classes l) && is_match (match_of classes l) m) f
      ∙ continues-match_at classes l j (omega arith)

  -- if no run begins at the match of a run's last character, the run continues in no other run
  joined-none : (fuel e l : ℕ) (run : List ℕ) → length levels ≤ e + fuel → last_of run ≡ l → ((j : ℕ) → j < length levels → match_at classes l ≡ j → slice_index levels j ≡ slice_index levels (j - 1))
      → (e < length levels → slice_index levels (e - 1) ≢ slice_index levels e) → joined classes run (runs_from levels e) ≡ run
  joined-none zero e l run within last none edge = ap (joined classes run) (runs_from-end levels e (omega arith))
  joined-none (suc fuel) e l run within last none edge =
      elim (cases_lt e (length levels)) [
        | inr past ↦ ap (joined classes run) (runs_from-end levels e past)
        | inl inside ↦
            let end = run_end levels e inside in
            let above = end.1.above in
            let next = range_with_len e (end.0 - e) in
            let apart : continues_in classes run next ≡ false =
            continues-is run next l e last (first_of-range e end.0 above) inside ∙ ne_eqb (match_at classes l) e (λ same. edge inside (sym (none e inside same))) in
            ap (joined classes run) (runs_from-run levels e end.0 end.1)
            ∙ cond-false (continues_in classes run next) (run ++ joined classes next (runs_from levels end.0)) (joined classes run (runs_from levels end.0)) apart
            ∙ joined-none fuel end.0 l run (omega arith) last none end.1.other
      ]

  -- if a run begins at the match of a run's last character, the run continues in that run
  joined-some : (fuel e l j : ℕ) (run : List ℕ) → length levels ≤ e + fuel → last_of run ≡ l → match_at classes l ≡ j → e ≤ j → j < length levels → slice_index levels j ≢ slice_index levels (j - 1)
      → joined classes run (runs_from levels e) ≡ run ++ joined_first classes (runs_from levels j)
  joined-some zero e l j run within last found order inside start = absurd (omega arith)
  joined-some (suc fuel) e l j run within last found order inside start =
      let end = run_end levels e (omega arith) in
      let above = end.1.above in
      let next = range_with_len e (end.0 - e) in
      elim (cases_eq e j) [
        | inl same ↦
            let joins : continues_in classes run next ≡ true =
            continues-is run next l e last (first_of-range e end.0 above) (omega arith) ∙ eq-eqb (match_at classes l) e (omega arith) in
            ap (joined classes run) (runs_from-run levels e end.0 end.1)
            ∙ cond-true (continues_in classes run next) (run ++ joined classes next (runs_from levels end.0)) (joined classes run (runs_from levels end.0)) joins
            ∙ ap (λ runs. run ++ joined_first classes runs) (sym (runs_from-run levels e end.0 end.1)) ∙ ap (λ k. run ++ joined_first classes (runs_from levels k)) same
        | inr ne ↦
            let apart : continues_in classes run next ≡ false =
            continues-is run next l e last (first_of-range e end.0 above) (omega arith) ∙ ne_eqb (match_at classes l) e (omega arith) in
            let after : end.0 ≤ j =
            elim (cases_lt j end.0) [
              | inl before ↦ absurd (start (sym (end.1.same j (omega arith) before)))
              | inr after ↦ after
            ] in
            ap (joined classes run) (runs_from-run levels e end.0 end.1)
            ∙ cond-false (continues_in classes run next) (run ++ joined classes next (runs_from levels end.0)) (joined classes run (runs_from levels end.0)) apart
            ∙ joined-some fuel end.0 l j run (omega arith) last found after inside start
      ]

  -- the part of a sequence after its first run
  abbrev pub rest_of : Option ℕ → List ℕ
  rest_of (Some j) = sequence_at classes levels j
  rest_of None = []

  pub sequence_at-run : (start end : ℕ) → IsRunEnd levels start end → sequence_at classes levels start ≡ range_with_len start (end - start) ++ rest_of (next_start levels (match_at classes (end - 1)))
  sequence_at-run start end run =
      let above = run.above in
      let within = run.within in
      let l = end - 1 in
      let j = match_at classes l in
      let first = range_with_len start (end - start) in
      let after : l < j = match_at-above classes l (omega arith) in
      let last : last_of first ≡ l = last_of-range start end above in
      let split : sequence_at classes levels start ≡ joined classes first (runs_from levels end) = ap (joined_first classes) (runs_from-run levels start end run) in
      elim (cases_lt j (length levels)) [
        | inr past ↦ split ∙ joined-none (length levels) end l first (omega arith) last (λ k inside e. absurd (omega arith)) run.other
            ∙ sym (append-nil first) ∙ ap (λ o. first ++ rest_of o) (sym (cond-false (nat_lt j (length levels) && not (slice_index levels j == slice_index levels (j - 1))) (Some j) None
            (and_left (nat_lt j (length levels)) (not (slice_index levels j == slice_index levels (j - 1))) (le-ltb j (length levels) past))))
        | inl inside ↦ elim (cases_eq (slice_index levels j) (slice_index levels (j - 1))) [
          | inl same ↦ split ∙ joined-none (length levels) end l first (omega arith) last (λ k within e. subst (λ (m : ℕ). slice_index levels m ≡ slice_index levels (m - 1)) e same) run.other
              ∙ sym (append-nil first) ∙ ap (λ o. first ++ rest_of o) (sym (cond-false (nat_lt j (length levels) && not (slice_index levels j == slice_index levels (j - 1))) (Some j) None
              (and_right (nat_lt j (length levels)) (not (slice_index levels j == slice_index levels (j - 1)))
              (not_from_true (slice_index levels j == slice_index levels (j - 1))
              (eq-eqb (slice_index levels j) (slice_index levels (j - 1)) same)))))
          | inr ne ↦ split ∙ joined-some (length levels) end l j first (omega arith) last refl (omega arith) inside ne
              ∙ ap (λ o. first ++ rest_of o) (sym (cond-true (nat_lt j (length levels) && not (slice_index levels j == slice_index levels (j - 1))) (Some j) None
              (and_from (nat_lt j (length levels)) (not (slice_index levels j == slice_index levels (j - 1))) (lt-ltb j (length levels) inside)
              (not_from_false (slice_index levels j == slice_index levels (j - 1)) (ne_eqb (slice_index levels j) (slice_index levels (j - 1)) ne)))))
        ]
      ]

-- appending a range that ends at or before `len` keeps all indices below `len`
pub AreWithin-range : (len start end : ℕ) (places : List ℕ) → end ≤ len → start ≤ end → AreWithin len places → AreWithin len (places ++ range_with_len start (end - start))
AreWithin-range len start end places inside order within k h =
    elim (cases_lt k (length places)) [
      | inl front ↦ rw get_or_append_left (within k front)
      | inr back ↦
          let size : length (places ++ range_with_len start (end - start)) ≡ length places + (end - start) =
          length-append places (range_with_len start (end - start)) ∙ ap (λ n. length places + n) (length-range_with_len start (end - start)) in
          let at : get_or (places ++ range_with_len start (end - start)) k 0 ≡ start + (k - length places) =
          get_or-append_right places (range_with_len start (end - start)) (length places) k 0 refl back ∙ get_or-range_with_len start (end - start) (k - length places) 0 (omega arith) in
          rw at (omega arith)
    ]

-- the start of a level run is below the length of the list
pub next_start-within : (levels : List ℕ) (j k : ℕ) → next_start levels j ≡ Some k → (k ≡ j) × (k < length levels)
next_start-within levels j k e =
    let test = nat_lt j (length levels) && not (slice_index levels j == slice_index levels (j - 1)) in
    elim (cases_Bool test) [
      | inl passed ↦
          let f : Some j ≡ Some k = sym (cond-true test (Some j) None passed) ∙ e in
          let same : k ≡ j = cc in
          let within : j < length levels = ltb-true j (length levels) (and_parts (nat_lt j (length levels)) (not (slice_index levels j == slice_index levels (j - 1))) passed).0 in
          (same, rw same within)
      | inr failed ↦ let f : None ≡ Some k = sym (cond-false test (Some j) None failed) ∙ e in absurd (cc)
    ]
