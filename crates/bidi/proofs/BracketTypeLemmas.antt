-- Every list of bracket types belongs to some text and lookup, and each range of the list belongs to the
-- corresponding range of the text.
use Rattle.std.proofs.Common.{◌≡◌, ℕ, zero, suc, ◌+◌, ◌-◌, ◌<◌, ◌≤◌, nat_lt, ◌==◌, Bool, true, false, if◌then◌else◌, List, [], ◌∷◌, length, take, drop, map, filter, replicate, slice_index, Option, Some, None, Result, Ok, Err, OnOk, refl, sym, ap, subst, ◌∙◌, inl, inr, arith}
use Rattle.std.specs.List.{range_with_len}
use Rattle.std.proofs.lemmas.Bool.{cond-true, cond-false, cases_Bool, both_ways, eq-eqb, ne_eqb, le-ltb, lt-ltb}
use Rattle.std.proofs.lemmas.List.{get_or-map, length-map, length-replicate, drop-map, take-map}
use Rattle.ucd.specs.declared.bracket.Bracket.{Bracket}
use Rattle.bidi.specs.declared.bracket_type.BracketType.{BracketType}
use Rattle.bidi.specs.declared.bracket_type.BracketType.TheVariants.{Other, Opening, Closing}
use Rattle.bidi.specs.declared.sequence_levels.Brackets.{Brackets}
use Rattle.bidi.specs.BracketTypes.{bracket_at, bracket_types, type_by}
use Rattle.bidi.specs.Paragraphs.{AreBracketsOf, AreFor}
use Rattle.ucd.specs.Within.{AreWithin}

-- if A holds for an `Ok` result and implies B, then B holds for it too
pub ok_then : {T E A B : Type 0} (r : Result T E) → OnOk r A → (A → B) → OnOk r B
ok_then (Ok x) a f = f a
ok_then (Err e) a f = a

-- a bound above all code points of closing brackets
abbrev pub bound : List BracketType → ℕ
bound [] = 0
bound (Closing n ∷ brackets) = n + 1 + bound brackets
bound (bracket ∷ brackets) = bound brackets

-- a lookup in which the code points below m are closing brackets, and those above m opening brackets
abbrev pub look_by : ℕ → ℕ → Option Bracket
look_by m c = if nat_lt c m then Some (record { pair = c; opens = false }) else (if c == m then None else Some (record { pair = c - m - 1; opens = true }))

abbrev pub number_by : ℕ → BracketType → ℕ
number_by m Other = m
number_by m (Opening n) = m + 1 + n
number_by m (Closing n) = n

other-is : (m : ℕ) → type_by (look_by m m) m ≡ Other
other-is m =
    ap (λ o. type_by o m) (
    cond-false (nat_lt m m) (Some (record { pair = m; opens = false })) (if m == m then None else Some (record { pair = m - m - 1; opens = true })) (le-ltb m m (omega arith))
    ∙ cond-true (m == m) None (Some (record { pair = m - m - 1; opens = true })) (eq-eqb m m refl))

above-is : (m c n : ℕ) → c ≡ m + 1 + n → type_by (look_by m c) c ≡ Opening (c - m - 1)
above-is m c n e =
    let is : look_by m c ≡ Some (record { pair = c - m - 1; opens = true }) =
    cond-false (nat_lt c m) (Some (record { pair = c; opens = false })) (if c == m then None else Some (record { pair = c - m - 1; opens = true })) (le-ltb c m (omega arith))
    ∙ cond-false (c == m) None (Some (record { pair = c - m - 1; opens = true })) (ne_eqb c m (omega arith)) in
    ap (λ o. type_by o c) is

opening-is : (m n : ℕ) → type_by (look_by m (m + 1 + n)) (m + 1 + n) ≡ Opening n
opening-is m n = let e : m + 1 + n - m - 1 ≡ n = omega arith in above-is m (m + 1 + n) n refl ∙ ap Opening e

closing-is : (m n : ℕ) → n < m → type_by (look_by m n) n ≡ Closing n
closing-is m n lt =
    ap (λ o. type_by o n) (
    cond-true (nat_lt n m) (Some (record { pair = n; opens = false })) (if n == m then None else Some (record { pair = n - m - 1; opens = true })) (lt-ltb n m lt))

both : {X : Type 0} (x y : X) (xs ys : List X) → x ≡ y → xs ≡ ys → (x ∷ xs) ≡ (y ∷ ys)
both x y xs ys e f = ap (λ v. v ∷ xs) e ∙ ap (λ vs. y ∷ vs) f

all-are : (m : ℕ) (brackets : List BracketType) → bound brackets ≤ m → bracket_types (look_by m) (map (number_by m) brackets) ≡ brackets
all-are m [] below = refl
all-are m (Other ∷ brackets) below = both _ _ _ _ (other-is m) (all-are m brackets below)
all-are m (Opening n ∷ brackets) below = both _ _ _ _ (opening-is m n) (all-are m brackets below)
all-are m (Closing n ∷ brackets) below = both _ _ _ _ (closing-is m n (omega arith)) (all-are m brackets (omega arith))

abbrev pub look_for : List BracketType → ℕ → Option Bracket
look_for brackets = look_by (bound brackets)

abbrev pub text_for : List BracketType → List ℕ
text_for brackets = map (number_by (bound brackets)) brackets

pub looked_up : (brackets : List BracketType) → brackets ≡ bracket_types (look_for brackets) (text_for brackets)
looked_up brackets = sym (all-are (bound brackets) brackets (omega arith))

-- the bracket types of a paragraph are the bracket types of some text
pub some_text : (b : Brackets) (n : ℕ) → AreFor b n → (look : ℕ → Option Bracket) × (text : List ℕ) × AreBracketsOf b n look text
some_text b n size =
    elim (cases_Bool b.has_any) [
      | inl any ↦ (
        look_for b.types.now,
        text_for b.types.now,
        record {
          size = length-map b.types.now (number_by (bound b.types.now)) ∙ size any;
          types = λ _. looked_up b.types.now;
          none = λ e. absurd (both_ways b.has_any e any);
        },
      )
      | inr none ↦ (
        (λ c. None),
        replicate n 0,
        record {
          size = length-replicate n 0;
          types = λ e. absurd (both_ways b.has_any none e);
          none = λ _ k d within. refl;
        },
      )
    ]

module _ (look : ℕ → Option Bracket) (text : List ℕ) where
  one-at : (k : ℕ) → k < length text → type_by (look (slice_index text k)) (slice_index text k) ≡ bracket_at (bracket_types look text) k
  one-at k within = sym (get_or-map (λ c. type_by (look c) c) text k 0 Other within)

  -- the bracket types of the characters at given indices are the bracket types at these indices
  pub types-places : (places : List ℕ) → AreWithin (length text) places → bracket_types look (map (slice_index text) places) ≡ map (bracket_at (bracket_types look text)) places
  types-places [] within = refl
  types-places (place ∷ places) within =
      both _ _ _ _ (one-at place (within 0 (omega arith))) (types-places places (λ k below. within (suc k) (omega arith)))

  -- the same holds for the indices of a range that pass a test
  pub types-kept : (test : ℕ → Bool) (a n : ℕ) → a + n ≤ length text
      → bracket_types look (map (slice_index text) (filter test (range_with_len a n))) ≡ map (bracket_at (bracket_types look text)) (filter test (range_with_len a n))
  types-kept test a zero within = refl
  types-kept test a (suc n) within =
      let rest = range_with_len (a + 1) n in
      let P : List ℕ → Type 0 = λ places. bracket_types look (map (slice_index text) places) ≡ map (bracket_at (bracket_types look text)) places in
      let later : P (filter test rest) = types-kept test (a + 1) n (omega arith) in
      elim (cases_Bool (test a)) [
        | inl kept ↦ subst P (sym (cond-true (test a) (a ∷ filter test rest) (filter test rest) kept)) (both _ _ _ _ (one-at a (omega arith)) later)
        | inr gone ↦ subst P (sym (cond-false (test a) (a ∷ filter test rest) (filter test rest) gone)) later
      ]

  -- the bracket types of a range of a text are the corresponding range of the text's bracket types
  pub types-part : (start n : ℕ) → bracket_types look (take n (drop start text)) ≡ take n (drop start (bracket_types look text))
  types-part start n =
      let f : ℕ → BracketType = λ c. type_by (look c) c in
      sym (ap (take n) (drop-map f start text) ∙ take-map f n (drop start text))
