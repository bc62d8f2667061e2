-- Levels depend only on the classes of characters, and on the characters that are brackets.
use Rattle.std.proofs.Common.{◌≡◌, ℕ, zero, suc, ◌+◌, nat_lt, nat_le, ◌⊎◌, Bool, true, cond, ◌&&◌, not, if◌then◌else◌, List, [], ◌∷◌, ◌++◌, length, map, fold, slice_index, count_by, Option, Some, None, unwrap_or, refl, sym, ap, ◌∙◌, inl, inr}
use Rattle.std.specs.List.{list_any, range_with_len}
use Rattle.std.proofs.lemmas.Bool.{and_parts, cases_Bool, cond-true, cond-false}
use Rattle.std.proofs.lemmas.List.Sums.{sum_by-cons}
use Rattle.ucd.specs.declared.bidi_class.BidiClass.{BidiClass}
use Rattle.ucd.specs.declared.bracket.Bracket.{Bracket}
use Rattle.ucd.specs.Classes.{class_at, is_nonspacing_mark}
use Rattle.ucd.specs.Least.{least}
use Rattle.bidi.specs.Brackets.{Pair, closer_of, fits, greatest, is_closer, is_closing, is_full, is_live, is_opener, is_opening, is_other, is_pair_of, paired_with, pairs_before, pairs_of, resolve_pairs}
use Rattle.bidi.specs.Explicit.{directed, level_at, type_at}
use Rattle.bidi.specs.Levels.{levels_in, paragraph_levels, put, put_back, sequence_levels}
use Rattle.bidi.specs.Neutral.{implicit_level, neutral}
use Rattle.bidi.specs.Sequences.{direction, eos, first_of, sequences, sos, retained}
use Rattle.bidi.specs.Weak.{weak}

-- ---- tests that agree
greatest-same : (p q : ℕ → Bool) → ((i : ℕ) → p i ≡ q i) → (n : ℕ) → greatest p n ≡ greatest q n
greatest-same p q same zero = refl
greatest-same p q same (suc n) = ap (λ b. if b then Some n else greatest p n) (same n) ∙ ap (λ o. if q n then Some n else o) (greatest-same p q same n)

least-same : (p q : ℕ → Bool) → ((i : ℕ) → p i ≡ q i) → (low count : ℕ) → least p low count ≡ least q low count
least-same p q same low zero = refl
least-same p q same low (suc count) =
    ap (λ b. if b then Some low else least p (suc low) count) (same low) ∙ ap (λ o. if q low then Some low else o) (least-same p q same (suc low) count)

count-same : (p q : ℕ → Bool) → ((i : ℕ) → p i ≡ q i) → (xs : List ℕ) → count_by p xs ≡ count_by q xs
count-same p q same [] = refl
count-same p q same (x ∷ xs) =
    sum_by-cons (λ i. cond (p i) 1 0) x xs ∙ ap (λ b. cond b 1 0 + count_by p xs) (same x) ∙ ap (λ n. cond (q x) 1 0 + n) (count-same p q same xs)
    ∙ sym (sum_by-cons (λ i. cond (q i) 1 0) x xs)

module _ (look : ℕ → Option Bracket) where
  -- whether two characters are equal or neither is a bracket, and whether this holds at each index of two texts
  abbrev pub IsAlike : ℕ → ℕ → Type 0
  IsAlike c d = (c ≡ d) ⊎ ((look c ≡ None) × (look d ≡ None))

  abbrev pub AreAlike : List ℕ → List ℕ → Type 0
  AreAlike text other = (i : ℕ) → IsAlike (slice_index text i) (slice_index other i)

  look-alike : (c d : ℕ) → IsAlike c d → look c ≡ look d
  look-alike c d alike = elim alike [ inl e ↦ ap look e | inr none ↦ none.0 ∙ sym none.1 ]

  closing-alike : (c d : ℕ) → IsAlike c d → is_closing (look d) ≡ true → c ≡ d
  closing-alike c d alike closes = elim alike [ inl e ↦ e | inr none ↦ absurd (let e = sym (ap is_closing none.1) ∙ closes in cc) ]

  alike-part : (text other : List ℕ) → AreAlike text other → (places : List ℕ) → AreAlike (map (slice_index text) places) (map (slice_index other) places)
  alike-part text other alike [] i = inl refl
  alike-part text other alike (a ∷ places) zero = alike a
  alike-part text other alike (a ∷ places) (suc i) = alike-part text other alike places i

  -- ---- bracket pairs
  module _ (text other : List ℕ) (alike : AreAlike text other) (types : List BidiClass) where
    opens-alike : (i : ℕ) → is_opener look text types i ≡ is_opener look other types i
    opens-alike i = ap (λ o. is_other (class_at types i) && is_opening o) (look-alike (slice_index text i) (slice_index other i) (alike i))

    closes-alike : (i : ℕ) → is_closer look text types i ≡ is_closer look other types i
    closes-alike i = ap (λ o. is_other (class_at types i) && is_closing o) (look-alike (slice_index text i) (slice_index other i) (alike i))

    live-alike : (pairs : List Pair) (i : ℕ) → is_live look text types pairs i ≡ is_live look other types pairs i
    live-alike pairs i = ap (λ b. b && not (list_any (λ pair. nat_le pair.opener i && nat_lt i pair.closer) pairs)) (opens-alike i)

    fits-alike : (i j : ℕ) → is_closer look other types j ≡ true → fits look text types i j ≡ fits look other types i j
    fits-alike i j closes =
        ap (λ o. is_pair_of o (slice_index text j)) (look-alike (slice_index text i) (slice_index other i) (alike i))
        ∙ ap (is_pair_of (look (slice_index other i))) (closing-alike (slice_index text j) (slice_index other j) (alike j)
        (and_parts (is_other (class_at types j)) (is_closing (look (slice_index other j))) closes).1)

    before-alike : (j : ℕ) → pairs_before look text types j ≡ pairs_before look other types j
    before-alike zero = refl
    before-alike (suc j) =
        let pairs = pairs_before look text types j in
        let same : pairs ≡ pairs_before look other types j = before-alike j in
        let made = paired_with look text types (greatest (λ i. is_live look text types pairs i && fits look text types i j) j) j in
        let new : List Pair → List Pair = λ ps. paired_with look other types (greatest (λ i. is_live look other types ps i && fits look other types i j) j) j in
        let last : (if is_closer look text types j then made else []) ≡ (if is_closer look other types j then new pairs else []) =
        elim (cases_Bool (is_closer look other types j)) [
          | inr open_still ↦
              cond-false (is_closer look text types j) made [] (closes-alike j ∙ open_still)
              ∙ sym (cond-false (is_closer look other types j) (new pairs) [] open_still)
          | inl closes ↦
              cond-true (is_closer look text types j) made [] (closes-alike j ∙ closes)
              ∙ ap (λ o. paired_with look other types o j) (greatest-same (λ i. is_live look text types pairs i && fits look text types i j) (λ i. is_live look other types pairs i && fits look other types i j)
              (λ i. ap (λ b. b && fits look text types i j) (live-alike pairs i) ∙ ap (λ b. is_live look other types pairs i && b) (fits-alike i j closes)) j)
              ∙ sym (cond-true (is_closer look other types j) (new pairs) [] closes)
        ] in
        ap (λ xs. pairs ++ xs) last ∙ ap (λ ps. ps ++ (if is_closer look other types j then new ps else [])) same

    full-alike : (j : ℕ) → is_full look text types j ≡ is_full look other types j
    full-alike j =
        let pairs = pairs_before look text types j in
        ap (λ b. b && nat_le 63 (count_by (is_live look text types pairs) (range_with_len 0 j))) (opens-alike j)
        ∙ ap (λ n. is_opener look other types j && nat_le 63 n) (
        count-same (is_live look text types pairs) (is_live look other types pairs) (live-alike pairs) (range_with_len 0 j)
        ∙ ap (λ ps. count_by (is_live look other types ps) (range_with_len 0 j)) (before-alike j))

    pairs-alike : pairs_of look text types ≡ pairs_of look other types
    pairs-alike =
        let n = length types in
        before-alike (unwrap_or (least (is_full look text types) 0 n) n)
        ∙ ap (λ o. pairs_before look other types (unwrap_or o n)) (least-same (is_full look text types) (is_full look other types) full-alike 0 n)

  -- ---- levels
  sequence-alike : (text other : List ℕ) → AreAlike text other → (level : ℕ) (sos eos : BidiClass) (types : List BidiClass)
      → sequence_levels look level sos eos text types ≡ sequence_levels look level sos eos other types
  sequence-alike text other alike level sos eos types =
      ap (λ ps. map (implicit_level level) (neutral (direction level) sos eos (resolve_pairs (direction level) sos (map is_nonspacing_mark types) (closer_of ps) (weak sos types))))
      (pairs-alike text other alike (weak sos types))

  put-alike : (base : ℕ) (text other : List ℕ) → AreAlike text other → (classes : List BidiClass) (levels : List ℕ) (types : List BidiClass) (parts : List (List ℕ)) (done : List ℕ)
      → fold (λ done s. put done s (levels_in look base text classes levels types s)) done parts ≡ fold (λ done s. put done s (levels_in look base other classes levels types s)) done parts
  put-alike base text other alike classes levels types [] done = refl
  put-alike base text other alike classes levels types (s ∷ parts) done =
      ap (λ xs. fold (λ done s. put done s (levels_in look base text classes levels types s)) (put done s xs) parts)
      (sequence-alike (map (slice_index text) s) (map (slice_index other) s) (alike-part text other alike s) (slice_index levels (first_of s))
      (sos base levels s) (eos base classes levels s) (map (class_at types) s))
      ∙ put-alike base text other alike classes levels types parts (put done s (levels_in look base other classes levels types s))

  pub paragraph-alike : (text other : List ℕ) → AreAlike text other → (classes : List BidiClass) (base : ℕ) → paragraph_levels look text classes base ≡ paragraph_levels look other classes base
  paragraph-alike text other alike classes base =
      let acting = directed classes in
      let places = retained acting in
      let own = map (class_at acting) places in
      let levels = map (level_at base acting) places in
      ap (put_back base acting) (put-alike base (map (slice_index text) places) (map (slice_index other) places) (alike-part text other alike places) own levels
      (map (type_at base acting) places) (sequences own levels) levels)
