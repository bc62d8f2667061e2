-- The text that replaces the touched paragraphs has three parts: a prefix of the first paragraph, the
-- inserted text, and a suffix of the last paragraph.
use Rattle.std.proofs.Common.{◌≡◌, ℕ, zero, suc, zero-add, suc-add, ◌+◌, ◌-◌, ◌<◌, ◌≤◌, List, [], ◌∷◌, ◌++◌, length, take, drop, get_or, refl, sym, ap, ap₂, ◌∙◌, ◌⊎◌, inl, inr, arith}
use Rattle.std.specs.List.{concat, slice_range}
use Rattle.std.proofs.lemmas.Bool.{cases_eq, cases_lt}
use Rattle.std.proofs.lemmas.List.{append-nil, length-append, length-drop, length-map, take-append-le, take_all, drop-drop, drop_at, drop_all, drop_more, get_or_past, take_more, get_or-drop}
use Rattle.std.proofs.lemmas.List.Folds.{concat-append}
use Rattle.lines.specs.Layouts.{Layout}
use Rattle.session.specs.Borders.{IsFrontBorder, IsBackBorder}
use Rattle.session.specs.Kept.{pars_of}
use Rattle.session.specs.Touched.{AreTouched, Span}
use Rattle.session.specs.Touched.{start_of}
use Rattle.session.specs.declared.borders.Border.{Border}
use Rattle.session.proofs.ReplacementLemmas.{region_of}
use Rattle.session.proofs.TouchedLemmas.{start_of-more, start_of-le, start_of-end, AreTouched-from_walks}

-- the start of a later paragraph is the start of an earlier one, plus the number of characters between them
pub take-both : {A : Type 0} (m n : ℕ) (xs : List A) → take (m + n) xs ≡ take m xs ++ take n (drop m xs)
take-both zero n xs = rw zero-add refl
take-both (suc m) n [] = rw suc-add (sym (take_all n [] (omega arith)))
take-both (suc m) n (x ∷ xs) = rw suc-add (ap (λ ys. x ∷ ys) (take-both m n xs))

start_of-after : (pars : List (List ℕ)) (first n : ℕ) → start_of pars (first + n) ≡ start_of pars first + length (concat (take n (drop first pars)))
start_of-after pars first n =
    ap (λ ps. length (concat ps)) (take-both first n pars) ∙ ap length (concat-append (take first pars) (take n (drop first pars)))
    ∙ length-append (concat (take first pars)) (concat (take n (drop first pars)))

drop_after : (left rest : List ℕ) (n : ℕ) → drop (length left + n) (left ++ rest) ≡ drop n rest
drop_after left rest n = sym (drop-drop n (length left) (left ++ rest)) ∙ ap (drop n) (drop_at left rest (length left) refl)

module _ (pars : List (List ℕ)) (first last pos to : ℕ) (some : first < last) (within : last ≤ length pars) where
  -- a prefix of the concatenated paragraphs that ends in the first paragraph is a prefix of that paragraph
  first_is : slice_range pars first last ≡ get_or pars first [] ∷ take (last - first - 1) (drop (first + 1) pars)
  first_is =
      let n : last - first ≡ suc (last - first - 1) = omega arith in
      ap (λ m. take m (drop first pars)) n ∙ ap (take (suc (last - first - 1))) (drop_more pars first [] (omega arith))

  pub front_part : pos ≤ start_of pars (first + 1) → take (pos - start_of pars first) (concat (slice_range pars first last)) ≡ take (pos - start_of pars first) (get_or pars first [])
  front_part reach =
      let p = get_or pars first [] in
      let others = take (last - first - 1) (drop (first + 1) pars) in
      let size = start_of-more pars first [] (omega arith) in
      ap (λ ps. take (pos - start_of pars first) (concat ps)) first_is ∙ take-append-le (pos - start_of pars first) p (concat others) (omega arith)

  -- a suffix of the concatenated paragraphs that starts in the last paragraph is a suffix of that paragraph
  last_is : slice_range pars first last ≡ take (last - first - 1) (drop first pars) ++ get_or pars (last - 1) [] ∷ []
  last_is =
      let i = last - first - 1 in
      let n : last - first ≡ i + 1 = omega arith in
      let place : first + i ≡ last - 1 = omega arith in
      let size = length-drop first pars in
      ap (λ m. take m (drop first pars)) n ∙ take_more (drop first pars) i [] (omega arith)
      ∙ ap (λ p. take i (drop first pars) ++ p ∷ []) (get_or-drop first pars i [] ∙ ap (λ k. get_or pars k []) place)

  pub back_part : start_of pars (last - 1) ≤ to → to ≤ start_of pars last → drop (to - start_of pars first) (concat (slice_range pars first last))
      ≡ drop (length (get_or pars (last - 1) []) - (start_of pars last - to)) (get_or pars (last - 1) [])
  back_part reach within_last =
      let i = last - first - 1 in
      let q = get_or pars (last - 1) [] in
      let others = take i (drop first pars) in
      let place : first + i ≡ last - 1 = omega arith in
      let next : last - 1 + 1 ≡ last = omega arith in
      let after : start_of pars (last - 1) ≡ start_of pars first + length (concat others) = ap (start_of pars) (sym place) ∙ start_of-after pars first i in
      let size : start_of pars last ≡ start_of pars (last - 1) + length q = ap (start_of pars) (sym next) ∙ start_of-more pars (last - 1) [] (omega arith) in
      let whole : concat (slice_range pars first last) ≡ concat others ++ q = ap concat last_is ∙ concat-append others (q ∷ []) ∙ ap (λ t. concat others ++ t) (append-nil q) in
      let from : to - start_of pars first ≡ length (concat others) + (to - start_of pars (last - 1)) = omega arith in
      let left : to - start_of pars (last - 1) ≡ length q - (start_of pars last - to) = omega arith in
      ap₂ drop from whole ∙ drop_after (concat others) q (to - start_of pars (last - 1)) ∙ ap (λ n. drop n q) left

-- if there are no paragraphs, the prefix and the suffix are empty
no_slice : (pars : List (List ℕ)) (first last : ℕ) → length pars ≡ 0 → concat (slice_range pars first last) ≡ []
no_slice pars first last none =
    let nothing : drop first pars ≡ [] = drop_all first pars (omega arith) in
    ap (λ ps. concat (take (last - first) ps)) nothing ∙ ap concat (take_all (last - first) [] (omega arith))

no_front : (pars : List (List ℕ)) (first last n : ℕ) → length pars ≡ 0 → take n (concat (slice_range pars first last)) ≡ take n (get_or pars first [])
no_front pars first last n none = ap (take n) (no_slice pars first last none ∙ sym (get_or_past pars first [] (omega arith)))

no_back : (pars : List (List ℕ)) (first last n m k : ℕ) → length pars ≡ 0 → drop n (concat (slice_range pars first last)) ≡ drop m (get_or pars k [])
no_back pars first last n m k none =
    ap (drop n) (no_slice pars first last none) ∙ drop_all n [] (omega arith) ∙ sym (ap (drop m) (get_or_past pars k [] (omega arith)) ∙ drop_all m [] (omega arith))

-- the touched paragraphs, given by the borders before and after them
abbrev pub touched_by : Border → Border → Span
touched_by front back = record { first = front.index; end = back.index; start = front.chars; stop = back.chars }

-- the text of the first touched paragraph up to a position, and the text of the last one from another
-- position on
abbrev pub front_of : List (List ℕ) → Border → ℕ → List ℕ
front_of pars front pos = take (pos - front.chars) (get_or pars front.index [])

abbrev pub back_of : List (List ℕ) → Border → ℕ → List ℕ
back_of pars back to = let text = get_or pars (back.index - 1) [] in drop (length text - (back.chars - to)) text

-- whether two borders are the start of the first and the end of the last paragraph that a range touches,
-- given the paragraphs' texts
pub record AreAround (pars : List (List ℕ)) (pos to : ℕ) (front back : Border) : Type 0 where
  pub front_within : front.index ≤ length pars
  pub back_within : back.index ≤ length pars
  pub front_chars : front.chars ≡ start_of pars front.index
  pub back_chars : back.chars ≡ start_of pars back.index
  pub front_before : 0 < front.index → front.chars < pos
  pub front_after : front.index < length pars → pos ≤ start_of pars (front.index + 1)
  pub back_before : (i : ℕ) → i < back.index → start_of pars i ≤ to
  pub back_after : back.index < length pars → to < back.chars

pub are_around : (kept : List Layout) (pos to : ℕ) (front back : Border) → IsFrontBorder kept pos front → IsBackBorder kept to back → AreAround (pars_of kept) pos to front back
are_around kept pos to front back f b =
    let number : length (pars_of kept) ≡ length kept = length-map kept (λ (l : Layout). l.text) in
    record {
      front_within = omega (arith, f.border_is.within, number);
      back_within = omega (arith, b.border_is.within, number);
      front_chars = f.border_is.chars;
      back_chars = b.border_is.chars;
      front_before = f.before;
      front_after = λ some. f.after (omega (arith, some, number));
      back_before = b.before;
      back_after = λ some. b.after (omega (arith, some, number));
    }

-- borders around a range are also around it in a list of other paragraphs with the same starts
pub same_around : (pars others : List (List ℕ)) (pos to : ℕ) (front back : Border) → length others ≡ length pars → ((i : ℕ) → start_of others i ≡ start_of pars i)
    → AreAround pars pos to front back → AreAround others pos to front back
same_around pars others pos to front back number starts a = record {
  front_within = omega (arith, a.front_within, number);
  back_within = omega (arith, a.back_within, number);
  front_chars = a.front_chars ∙ sym (starts front.index);
  back_chars = a.back_chars ∙ sym (starts back.index);
  front_before = a.front_before;
  front_after = λ some. omega (arith, a.front_after (omega (arith, some, number)), starts (front.index + 1));
  back_before = λ i below. omega (arith, a.back_before i below, starts i);
  back_after = λ some. a.back_after (omega (arith, some, number));
}

module _ (pars : List (List ℕ)) (pos to : ℕ) (front back : Border) (order : pos ≤ to) (within : to ≤ length (concat pars)) (a : AreAround pars pos to front back) where
  -- the front border is at or before the edited range, the back border at or after it
  front_low : front.chars ≤ pos
  front_low = elim (cases_eq front.index 0) [
    | inl e ↦ let start : front.chars ≡ 0 = a.front_chars ∙ ap (start_of pars) e in omega arith
    | inr ne ↦ omega (arith, a.front_before (omega arith))
  ]

  back_high : to ≤ back.chars
  back_high = elim (cases_lt back.index (length pars)) [
    | inl more ↦ omega (arith, a.back_after more)
    | inr all ↦ omega (arith, a.back_chars, start_of-end pars back.index (omega (arith, all)))
  ]

  -- an edit touches at least one paragraph, unless the text has none
  some_or_none : (front.index < back.index) ⊎ (length pars ≡ 0)
  some_or_none = elim (cases_lt front.index back.index) [
    | inl some ↦ inl some
    | inr none ↦
        let le = start_of-le pars back.index front.index (omega arith) in
        let last : back.index ≡ length pars = elim (cases_lt back.index (length pars)) [
          | inl more ↦ absurd (omega (arith, a.back_after more, a.back_chars, a.front_chars, front_low, le))
          | inr all ↦ omega (arith, a.back_within)
        ] in
        let whole = start_of-end pars front.index (omega (arith, a.front_within)) in
        let first : front.index ≡ 0 = elim (cases_eq front.index 0) [
          | inl e ↦ e
          | inr ne ↦ absurd (omega (arith, a.front_before (omega arith), a.front_chars, whole))
        ] in
        inr (omega (arith, a.front_within))
  ]

  pub rise_around : front.index ≤ back.index
  rise_around = elim some_or_none [
    | inl some ↦ omega arith
    | inr none ↦ omega (arith, a.front_within)
  ]

  pub touched_around : AreTouched pars pos to (touched_by front back)
  touched_around =
      AreTouched-from_walks pars pos to front.index back.index front.chars back.chars order within a.front_chars a.back_chars rise_around
      a.back_within a.front_before a.front_after (λ i above below. a.back_before i below) a.back_after

  -- the new text of the touched paragraphs has three parts: the front, the inserted text and the rest
  pub region_around : (piece : List ℕ) → region_of pars (touched_by front back) pos to piece ≡ front_of pars front pos ++ (piece ++ back_of pars back to)
  region_around piece =
      let place : pos - front.chars + (to - front.chars - (pos - front.chars)) ≡ to - front.chars = omega (arith, front_low) in
      let first : take (pos - front.chars) (concat (slice_range pars front.index back.index)) ≡ front_of pars front pos = elim some_or_none [
        | inl some ↦ ap (λ n. take (pos - n) (concat (slice_range pars front.index back.index))) a.front_chars
            ∙ front_part pars front.index back.index pos to some a.back_within (a.front_after (omega (arith, a.back_within)))
            ∙ ap (λ n. take (pos - n) (get_or pars front.index [])) (sym a.front_chars)
        | inr none ↦ no_front pars front.index back.index (pos - front.chars) none
      ] in
      let last : drop (to - front.chars) (concat (slice_range pars front.index back.index)) ≡ back_of pars back to = elim some_or_none [
        | inl some ↦ ap (λ n. drop (to - n) (concat (slice_range pars front.index back.index))) a.front_chars
            ∙ back_part pars front.index back.index pos to some a.back_within (a.back_before (back.index - 1) (omega arith)) (omega (arith, a.back_chars, back_high))
            ∙ ap (λ n. drop (length (get_or pars (back.index - 1) []) - (n - to)) (get_or pars (back.index - 1) [])) (sym a.back_chars)
        | inr none ↦ no_back pars front.index back.index (to - front.chars) (length (get_or pars (back.index - 1) []) - (back.chars - to)) (back.index - 1) none
      ] in
      ap₂ (λ xs ys. xs ++ (piece ++ ys)) first (ap (λ n. drop n (concat (slice_range pars front.index back.index))) place ∙ last)
