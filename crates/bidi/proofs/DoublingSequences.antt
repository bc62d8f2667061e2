-- Level runs and isolating run sequences of a paragraph with a repeated character.
use Rattle.std.proofs.Common.{◌≡◌, ◌≢◌, ℕ, zero, suc, ◌+◌, ◌-◌, ◌<◌, ◌≤◌, ◌==◌, max, is_none, Bool, true, false, ◌&&◌, ◌||◌, not, if◌then◌else◌, List, [], ◌∷◌, ◌++◌, length, map, slice_index, Option, Some, None, option_map, refl, sym, ap, ◌∙◌, inl, inr, arith}
use Rattle.std.specs.List.{list_any, onto_first, range_with_len}
use Rattle.std.proofs.lemmas.Bool.{cond-true, cond-false, cases_Bool, cases_eq, cases_lt, both_ways, and_left, eq-eqb, ne_eqb}
use Rattle.ucd.specs.declared.bidi_class.BidiClass.{BidiClass}
use Rattle.ucd.specs.declared.bidi_class.BidiClass.TheVariants.{ON}
use Rattle.ucd.specs.Classes.{class_at, is_initiator}
use Rattle.bidi.specs.Base.{match_of}
use Rattle.bidi.specs.Cuts.{paragraphs}
use Rattle.bidi.specs.Doubling.{double}
use Rattle.bidi.specs.Sequences.{changes, continues_in, direction, eos, first_of, is_match, joined, last_of, level_after, level_before, runs, sequences, sequences_from, sos}
use Rattle.bidi.proofs.DoublingIsolates.{IsInner, match-double}
use Rattle.bidi.proofs.DoublingLists.{collapse, collapse-high, collapse-low, collapse-next, collapse-shift, get_or-double, length-double, shift, shift-collapse, shift-eq, shift-high, shift-low}

-- the new indices of a list of old indices: the repeated item has two
abbrev pub widen : ℕ → List ℕ → List ℕ
widen k [] = []
widen k (i ∷ places) = shift k i ∷ (if k == i then suc k ∷ widen k places else widen k places)

pub widen-same : (k i : ℕ) (places : List ℕ) → k ≡ i → widen k (i ∷ places) ≡ shift k i ∷ suc k ∷ widen k places
widen-same k i places e = ap (λ xs. shift k i ∷ xs) (cond-true (k == i) (suc k ∷ widen k places) (widen k places) (eq-eqb k i e))

pub widen-other : (k i : ℕ) (places : List ℕ) → k ≢ i → widen k (i ∷ places) ≡ shift k i ∷ widen k places
widen-other k i places ne = ap (λ xs. shift k i ∷ xs) (cond-false (k == i) (suc k ∷ widen k places) (widen k places) (ne_eqb k i ne))

append-if : (b : Bool) (x : ℕ) (xs ys : List ℕ) → (if b then x ∷ (xs ++ ys) else xs ++ ys) ≡ (if b then x ∷ xs else xs) ++ ys
append-if true x xs ys = refl
append-if false x xs ys = refl

widen-append : (k : ℕ) (xs ys : List ℕ) → widen k (xs ++ ys) ≡ widen k xs ++ widen k ys
widen-append k [] ys = refl
widen-append k (x ∷ xs) ys =
    ap (λ rest. shift k x ∷ (if k == x then suc k ∷ rest else rest)) (widen-append k xs ys)
    ∙ ap (λ rest. shift k x ∷ rest) (append-if (k == x) (suc k) (widen k xs) (widen k ys))

-- ---- ranges
range-past : (k n a : ℕ) → k < a → range_with_len (suc a) n ≡ widen k (range_with_len a n)
range-past k zero a above = refl
range-past k (suc n) a above =
    let e : suc a + 1 ≡ suc (a + 1) = omega arith in
    ap (λ m. suc a ∷ range_with_len m n) e ∙ ap (λ xs. suc a ∷ xs) (range-past k n (a + 1) (omega (arith, above)))
    ∙ ap (λ i. i ∷ widen k (range_with_len (a + 1) n)) (sym (shift-high k a above))
    ∙ sym (widen-other k a (range_with_len (a + 1) n) (λ f. omega (arith, f, above)))

range-double : (k n a : ℕ) → a ≤ k → k < a + n → range_with_len a (suc n) ≡ widen k (range_with_len a n)
range-double k zero a upto past = absurd (omega (arith, upto, past))
range-double k (suc n) a upto past =
    elim (cases_eq k a) [
      | inl e ↦
          let f : a + 1 ≡ suc k = omega (arith, e) in
          let g : a + 1 + 1 ≡ suc (a + 1) = omega arith in
          ap (λ m. a ∷ (a + 1) ∷ range_with_len m n) g
          ∙ ap (λ xs. a ∷ (a + 1) ∷ xs) (range-past k n (a + 1) (omega (arith, e)))
          ∙ ap (λ i. a ∷ i ∷ widen k (range_with_len (a + 1) n)) f
          ∙ ap (λ i. i ∷ suc k ∷ widen k (range_with_len (a + 1) n)) (sym (shift-low k a upto))
          ∙ sym (widen-same k a (range_with_len (a + 1) n) e)
      | inr ne ↦
          ap (λ xs. a ∷ xs) (range-double k n (a + 1) (omega (arith, upto, ne)) (omega (arith, past)))
          ∙ ap (λ i. i ∷ widen k (range_with_len (a + 1) n)) (sym (shift-low k a upto))
          ∙ sym (widen-other k a (range_with_len (a + 1) n) ne)
    ]

-- ---- parts of a list of indices
onto-widen-same : (k a : ℕ) (parts : List (List ℕ)) → k ≡ a → onto_first (shift k a) (onto_first (suc k) (map (widen k) parts)) ≡ map (widen k) (onto_first a parts)
onto-widen-same k a [] e = ap (λ xs. xs ∷ []) (sym (widen-same k a [] e))
onto-widen-same k a (part ∷ parts) e = ap (λ xs. xs ∷ map (widen k) parts) (sym (widen-same k a part e))

onto-widen-other : (k a : ℕ) (parts : List (List ℕ)) → k ≢ a → onto_first (shift k a) (map (widen k) parts) ≡ map (widen k) (onto_first a parts)
onto-widen-other k a [] ne = ap (λ xs. xs ∷ []) (sym (widen-other k a [] ne))
onto-widen-other k a (part ∷ parts) ne = ap (λ xs. xs ∷ map (widen k) parts) (sym (widen-other k a part ne))

module _ (k : ℕ) (cut new_cut : ℕ → ℕ → Bool) (same : (i j : ℕ) → new_cut i j ≡ cut (collapse k i) (collapse k j)) (whole : cut k k ≡ false) where
  cut-next : (i j : ℕ) → new_cut (shift k i) (shift k j) ≡ cut i j
  cut-next i j = same (shift k i) (shift k j) ∙ ap (λ n. cut n (collapse k (shift k j))) (collapse-shift k i) ∙ ap (cut i) (collapse-shift k j)

  cut-inside : (a : ℕ) → k ≡ a → new_cut (shift k a) (suc k) ≡ false
  cut-inside a e =
      same (shift k a) (suc k) ∙ ap (λ n. cut n (collapse k (suc k))) (collapse-shift k a ∙ sym e) ∙ ap (cut k) (collapse-next k) ∙ whole

  cut-after : (a b : ℕ) → k ≡ a → new_cut (suc k) (shift k b) ≡ cut a b
  cut-after a b e = same (suc k) (shift k b) ∙ ap (λ n. cut n (collapse k (shift k b))) (collapse-next k ∙ e) ∙ ap (cut a) (collapse-shift k b)

  pub parts-double : (places : List ℕ) → paragraphs new_cut (widen k places) ≡ map (widen k) (paragraphs cut places)
  parts-double [] = refl
  parts-double (a ∷ []) =
      elim (cases_eq k a) [
        | inl e ↦
            ap (paragraphs new_cut) (widen-same k a [] e)
            ∙ cond-false (new_cut (shift k a) (suc k)) ((shift k a ∷ []) ∷ (suc k ∷ []) ∷ []) ((shift k a ∷ suc k ∷ []) ∷ []) (cut-inside a e)
            ∙ ap (λ xs. xs ∷ []) (sym (widen-same k a [] e))
        | inr ne ↦ ap (paragraphs new_cut) (widen-other k a [] ne) ∙ ap (λ xs. xs ∷ []) (sym (widen-other k a [] ne))
      ]
  parts-double (a ∷ b ∷ places) =
      let new = paragraphs new_cut (widen k (b ∷ places)) in
      let old = paragraphs cut (b ∷ places) in
      let later : new ≡ map (widen k) old = parts-double (b ∷ places) in
      elim (cases_eq k a) [
        | inl e ↦
            let second = if new_cut (suc k) (shift k b) then (suc k ∷ []) ∷ new else onto_first (suc k) new in
            ap (paragraphs new_cut) (widen-same k a (b ∷ places) e)
            ∙ cond-false (new_cut (shift k a) (suc k)) ((shift k a ∷ []) ∷ second) (onto_first (shift k a) second) (cut-inside a e)
            ∙ ap (λ t. onto_first (shift k a) (if t then (suc k ∷ []) ∷ new else onto_first (suc k) new)) (cut-after a b e)
            ∙ ap (λ xs. onto_first (shift k a) (if cut a b then (suc k ∷ []) ∷ xs else onto_first (suc k) xs)) later
            ∙ elim (cut a b) as (λ t. onto_first (shift k a) (if t then (suc k ∷ []) ∷ map (widen k) old else onto_first (suc k) (map (widen k) old)) ≡ map (widen k) (if t then (a ∷ []) ∷ old else onto_first a old)) [
              | true ↦ ap (λ xs. xs ∷ map (widen k) old) (sym (widen-same k a [] e))
              | false ↦ onto-widen-same k a old e
            ]
        | inr ne ↦
            ap (paragraphs new_cut) (widen-other k a (b ∷ places) ne)
            ∙ ap (λ t. if t then (shift k a ∷ []) ∷ new else onto_first (shift k a) new) (cut-next a b)
            ∙ ap (λ xs. if cut a b then (shift k a ∷ []) ∷ xs else onto_first (shift k a) xs) later
            ∙ elim (cut a b) as (λ t. (if t then (shift k a ∷ []) ∷ map (widen k) old else onto_first (shift k a) (map (widen k) old)) ≡ map (widen k) (if t then (a ∷ []) ∷ old else onto_first a old)) [
              | true ↦ ap (λ xs. xs ∷ map (widen k) old) (sym (widen-other k a [] ne))
              | false ↦ onto-widen-other k a old ne
            ]
      ]

-- the level runs of the new list are those of the old one, with new indices
pub runs-double : (levels : List ℕ) (k : ℕ) → k < length levels → runs (double k levels) ≡ map (widen k) (runs levels)
runs-double levels k within =
    let same : (i j : ℕ) → changes (double k levels) i j ≡ changes levels (collapse k i) (collapse k j) =
    λ i j. ap (λ n. not (n == slice_index (double k levels) j)) (get_or-double k levels i 0) ∙ ap (λ n. not (slice_index levels (collapse k i) == n)) (get_or-double k levels j 0) in
    let whole : changes levels k k ≡ false = ap not (eq-eqb (slice_index levels k) (slice_index levels k) refl) in
    ap (λ n. paragraphs (changes (double k levels)) (range_with_len 0 n)) (length-double k levels within)
    ∙ ap (paragraphs (changes (double k levels))) (range-double k (length levels) 0 (omega arith) (omega (arith, within)))
    ∙ parts-double k (changes levels) (changes (double k levels)) same whole (range_with_len 0 (length levels))

-- the first index of a run in the new list is the first new index of the run's old first index
pub first-double : (k : ℕ) (run : List ℕ) → first_of (widen k run) ≡ shift k (first_of run)
first-double k [] = refl
first-double k (a ∷ run) = refl

last_of-cons : (a b : ℕ) (run : List ℕ) → last_of (a ∷ b ∷ run) ≡ last_of (b ∷ run)
last_of-cons a b run =
    let e : suc (suc (length run)) - 1 ≡ suc (suc (length run) - 1) = omega arith in ap (slice_index (a ∷ b ∷ run)) e

-- the last index of a run in the new list is the new index of the run's old last index, or the second of its
-- two new indices
pub record IsLast (k new old : ℕ) : Type 0 where
  pub is : collapse k new ≡ old
  pub next : suc new ≡ shift k (suc old)

shift-next : (k a : ℕ) → k ≢ a → suc (shift k a) ≡ shift k (suc a)
shift-next k a ne =
    elim (cases_lt k a) [
      | inl above ↦ ap suc (shift-high k a above) ∙ sym (shift-high k (suc a) (omega (arith, above)))
      | inr upto ↦ ap suc (shift-low k a upto) ∙ sym (shift-low k (suc a) (omega (arith, upto, ne)))
    ]

last-one : (k a : ℕ) → IsLast k (last_of (widen k (a ∷ []))) a
last-one k a =
    elim (cases_eq k a) [
      | inl e ↦
          let at : last_of (widen k (a ∷ [])) ≡ suc k = ap last_of (widen-same k a [] e) in
          record { is = ap (collapse k) at ∙ collapse-next k ∙ e; next = ap suc at ∙ sym (shift-high k (suc k) (omega arith)) ∙ ap (λ i. shift k (suc i)) e }
      | inr ne ↦
          let at : last_of (widen k (a ∷ [])) ≡ shift k a = ap last_of (widen-other k a [] ne) in
          record { is = ap (collapse k) at ∙ collapse-shift k a; next = ap suc at ∙ shift-next k a ne }
    ]

pub last-double : (k a : ℕ) (run : List ℕ) → IsLast k (last_of (widen k (a ∷ run))) (last_of (a ∷ run))
last-double k a [] = last-one k a
last-double k a (b ∷ run) =
    let rest = if k == b then suc k ∷ widen k run else widen k run in
    let at : last_of (widen k (a ∷ b ∷ run)) ≡ last_of (widen k (b ∷ run)) =
    elim (cases_eq k a) [
      | inl e ↦ ap last_of (widen-same k a (b ∷ run) e) ∙ last_of-cons (shift k a) (suc k) (widen k (b ∷ run)) ∙ last_of-cons (suc k) (shift k b) rest
      | inr ne ↦ ap last_of (widen-other k a (b ∷ run) ne) ∙ last_of-cons (shift k a) (shift k b) rest
    ] in
    let later = last-double k b run in
    record { is = ap (collapse k) at ∙ later.is ∙ sym (last_of-cons a b run); next = ap suc at ∙ later.next ∙ ap (λ i. shift k (suc i)) (sym (last_of-cons a b run)) }

pub last-collapse : (k : ℕ) (run : List ℕ) → collapse k (last_of (widen k run)) ≡ last_of run
last-collapse k [] = refl
last-collapse k (a ∷ run) = (last-double k a run).is

match-shift : (k j : ℕ) (o : Option ℕ) → is_match (option_map (shift k) o) (shift k j) ≡ is_match o j
match-shift k j None = refl
match-shift k j (Some m) = shift-eq k m j

none-shift : (k : ℕ) (o : Option ℕ) → is_none (option_map (shift k) o) ≡ is_none o
none-shift k None = refl
none-shift k (Some m) = refl

-- ---- sequences
module _ (classes : List BidiClass) (k : ℕ) (inner : IsInner (class_at classes k)) (within : k < length classes) where
  other-opens : (m : ℕ) → is_initiator (class_at classes m) ≡ true → m ≢ k
  other-opens m opens e = both_ways (is_initiator (class_at classes k)) inner.opens (ap (λ n. is_initiator (class_at classes n)) (sym e) ∙ opens)

  opens-double : (j m : ℕ) → collapse k j ≡ m → is_initiator (class_at (double k classes) j) ≡ is_initiator (class_at classes m)
  opens-double j m e = ap is_initiator (get_or-double k classes j ON ∙ ap (class_at classes) e)

  there : (j m : ℕ) → collapse k j ≡ m → m ≢ k → shift k m ≡ j
  there j m e other = ap (shift k) (sym e) ∙ shift-collapse k j (λ f. other (sym e ∙ f))

  continues-double : (run next : List ℕ) → continues_in (double k classes) (widen k run) (widen k next) ≡ continues_in classes run next
  continues-double run next =
      let j = last_of (widen k run) in
      let m = last_of run in
      let e = last-collapse k run in
      elim (cases_Bool (is_initiator (class_at classes m))) [
        | inr closed ↦
            and_left (is_initiator (class_at (double k classes) j)) (is_match (match_of (double k classes) j) (first_of (widen k next))) (opens-double j m e ∙ closed)
            ∙ sym (and_left (is_initiator (class_at classes m)) (is_match (match_of classes m) (first_of next)) closed)
        | inl opens ↦
            let other = other-opens m opens in
            ap (λ b. b && is_match (match_of (double k classes) j) (first_of (widen k next))) (opens-double j m e)
            ∙ ap (λ b. is_initiator (class_at classes m) && b) (
            ap (λ n. is_match (match_of (double k classes) n) (first_of (widen k next))) (sym (there j m e other))
            ∙ ap (λ o. is_match o (first_of (widen k next))) (match-double classes k inner within m other)
            ∙ ap (is_match (option_map (shift k) (match_of classes m))) (first-double k next)
            ∙ match-shift k (first_of next) (match_of classes m))
      ]

  joined-double : (run : List ℕ) (later : List (List ℕ)) → joined (double k classes) (widen k run) (map (widen k) later) ≡ widen k (joined classes run later)
  joined-double run [] = refl
  joined-double run (next ∷ later) =
      ap (λ b. if b then widen k run ++ joined (double k classes) (widen k next) (map (widen k) later) else joined (double k classes) (widen k run) (map (widen k) later)) (continues-double run next)
      ∙ ap (λ xs. if continues_in classes run next then widen k run ++ xs else joined (double k classes) (widen k run) (map (widen k) later)) (joined-double next later)
      ∙ ap (λ xs. if continues_in classes run next then widen k run ++ widen k (joined classes next later) else xs) (joined-double run later)
      ∙ ap (λ xs. if continues_in classes run next then xs else widen k (joined classes run later)) (sym (widen-append k run (joined classes next later)))
      ∙ elim (continues_in classes run next) as (λ b. (if b then widen k (run ++ joined classes next later) else widen k (joined classes run later)) ≡ widen k (if b then run ++ joined classes next later else joined classes run later)) [
        | true ↦ refl
        | false ↦ refl
      ]

  earlier-double : (run : List ℕ) (earlier : List (List ℕ)) → list_any (λ before. continues_in (double k classes) before (widen k run)) (map (widen k) earlier) ≡ list_any (λ before. continues_in classes before run) earlier
  earlier-double run [] = refl
  earlier-double run (before ∷ earlier) =
      ap (λ b. b || list_any (λ before. continues_in (double k classes) before (widen k run)) (map (widen k) earlier)) (continues-double before run)
      ∙ ap (λ b. continues_in classes before run || b) (earlier-double run earlier)

  from-double : (earlier later : List (List ℕ)) → sequences_from (double k classes) (map (widen k) earlier) (map (widen k) later) ≡ map (widen k) (sequences_from classes earlier later)
  from-double earlier [] = refl
  from-double earlier (run ∷ later) =
      let rest = sequences_from (double k classes) (map (widen k) (run ∷ earlier)) (map (widen k) later) in
      let old = sequences_from classes (run ∷ earlier) later in
      let b = list_any (λ before. continues_in classes before run) earlier in
      ap (λ t. if t then rest else joined (double k classes) (widen k run) (map (widen k) later) ∷ rest) (earlier-double run earlier)
      ∙ ap (λ xs. if b then xs else joined (double k classes) (widen k run) (map (widen k) later) ∷ xs) (from-double (run ∷ earlier) later)
      ∙ ap (λ xs. if b then map (widen k) old else xs ∷ map (widen k) old) (joined-double run later)
      ∙ elim b as (λ t. (if t then map (widen k) old else widen k (joined classes run later) ∷ map (widen k) old) ≡ map (widen k) (if t then old else joined classes run later ∷ old)) [
        | true ↦ refl
        | false ↦ refl
      ]

  pub sequences-double : (levels : List ℕ) → k < length levels → sequences (double k classes) (double k levels) ≡ map (widen k) (sequences classes levels)
  sequences-double levels inside = ap (sequences_from (double k classes) []) (runs-double levels k inside) ∙ from-double [] (runs levels)

  -- ---- the ends of a sequence
  after-double : (base : ℕ) (levels : List ℕ) (j m : ℕ) → k < length levels → IsLast k j m → level_after base (double k classes) (double k levels) j ≡ level_after base classes levels m
  after-double base levels j m inside last =
      let size : length (double k levels) ≡ shift k (length levels) = length-double k levels inside ∙ sym (shift-high k (length levels) inside) in
      let next : j + 1 ≡ shift k (m + 1) = (let e : j + 1 ≡ suc j = omega arith in let f : suc m ≡ m + 1 = omega arith in e ∙ last.next ∙ ap (shift k) f) in
      let new_other = if j + 1 == length (double k levels) then base else slice_index (double k levels) (j + 1) in
      let other = if m + 1 == length levels then base else slice_index levels (m + 1) in
      let same : new_other ≡ other =
      ap (λ n. if n == length (double k levels) then base else slice_index (double k levels) n) next
      ∙ ap (λ n. if shift k (m + 1) == n then base else slice_index (double k levels) (shift k (m + 1))) size
      ∙ ap (λ b. if b then base else slice_index (double k levels) (shift k (m + 1))) (shift-eq k (m + 1) (length levels))
      ∙ ap (λ v. if m + 1 == length levels then base else v) (get_or-double k levels (shift k (m + 1)) 0 ∙ ap (slice_index levels) (collapse-shift k (m + 1))) in
      let unmatched : (is_initiator (class_at (double k classes) j) && is_none (match_of (double k classes) j)) ≡ (is_initiator (class_at classes m) && is_none (match_of classes m)) =
      elim (cases_Bool (is_initiator (class_at classes m))) [
        | inr closed ↦
            and_left (is_initiator (class_at (double k classes) j)) (is_none (match_of (double k classes) j)) (opens-double j m last.is ∙ closed)
            ∙ sym (and_left (is_initiator (class_at classes m)) (is_none (match_of classes m)) closed)
        | inl opens ↦
            let else_where = other-opens m opens in
            ap (λ b. b && is_none (match_of (double k classes) j)) (opens-double j m last.is)
            ∙ ap (λ b. is_initiator (class_at classes m) && b) (
            ap (λ n. is_none (match_of (double k classes) n)) (sym (there j m last.is else_where))
            ∙ ap is_none (match-double classes k inner within m else_where) ∙ none-shift k (match_of classes m))
      ] in
      ap (λ b. if b then base else new_other) unmatched
      ∙ ap (λ v. if is_initiator (class_at classes m) && is_none (match_of classes m) then base else v) same

  pub eos-double : (base : ℕ) (levels : List ℕ) (a : ℕ) (run : List ℕ) → k < length levels → eos base (double k classes) (double k levels) (widen k (a ∷ run)) ≡ eos base classes levels (a ∷ run)
  eos-double base levels a run inside =
      let j = last_of (widen k (a ∷ run)) in
      let m = last_of (a ∷ run) in
      let last = last-double k a run in
      ap (λ n. direction (max n (level_after base (double k classes) (double k levels) j))) (get_or-double k levels j 0 ∙ ap (slice_index levels) last.is)
      ∙ ap (λ n. direction (max (slice_index levels m) n)) (after-double base levels j m inside last)

before-index : (k f : ℕ) → collapse k (shift k f - 1) ≡ f - 1
before-index k f =
    elim (cases_lt k f) [
      | inl above ↦
          let e : shift k f - 1 ≡ suc (f - 1) = omega (arith, above, shift-high k f above) in
          ap (collapse k) e
          ∙ omega (arith, collapse-high k (suc (f - 1)) (omega (arith, above)))
      | inr upto ↦ ap (λ n. collapse k (n - 1)) (shift-low k f upto) ∙ collapse-low k (f - 1) (omega (arith, upto))
    ]

pub sos-double : (base : ℕ) (levels : List ℕ) (k : ℕ) (run : List ℕ) → sos base (double k levels) (widen k run) ≡ sos base levels run
sos-double base levels k run =
    let f = first_of run in
    let here : slice_index (double k levels) (shift k f) ≡ slice_index levels f = get_or-double k levels (shift k f) 0 ∙ ap (slice_index levels) (collapse-shift k f) in
    let before : level_before base (double k levels) (shift k f) ≡ level_before base levels f =
    ap (λ b. if b then base else slice_index (double k levels) (shift k f - 1)) (shift-eq k f 0)
    ∙ ap (λ v. if f == 0 then base else v) (get_or-double k levels (shift k f - 1) 0 ∙ ap (slice_index levels) (before-index k f)) in
    ap (λ n. direction (max (slice_index (double k levels) n) (level_before base (double k levels) n))) (first-double k run)
    ∙ ap (λ n. direction (max n (level_before base (double k levels) (shift k f)))) here
    ∙ ap (λ n. direction (max (slice_index levels f) n)) before
