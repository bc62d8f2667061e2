-- The part of a range that is in one paragraph.
use Rattle.std.proofs.Common.{◌≡◌, ℕ, zero, suc, ◌+◌, ◌-◌, ◌<◌, ◌≤◌, List, [], ◌∷◌, ◌++◌, length, drop, take, sum_by, unwrap_or, nat_lt, Bool, true, false, Option, Some, None, is_none, if◌then◌else◌, refl, sym, ap, ap₂, ◌∙◌, arith}
use Rattle.std.specs.List.{All, slice_get, slice_range}
use Rattle.std.specs.Option.{option_map}
use Rattle.std.proofs.lemmas.Bool.{cond-true, cond-false, le-ltb, lt-ltb}
use Rattle.std.proofs.lemmas.List.{drop-append-le, drop-drop, length-drop, length-take, take_at}
use Rattle.std.proofs.Math.Seq.{drop-append-add, take-add}
use Rattle.lines.specs.Layouts.{Layout}
use Rattle.store.specs.Finding.{Finds}
use Rattle.store.specs.declared.found.Found.{Found}
use Rattle.session.specs.Kept.{pars_of, text_of}
use Rattle.session.specs.Places.{IsLined}
use Rattle.session.specs.Reading.{paragraph_end, text_part, utf8_len, utf8_part}
use Rattle.session.specs.Touched.{start_of}
use Rattle.session.proofs.BorderLemmas.{chars_of, lines_of, item_read, length-text, start_of-is, sum_next}
use Rattle.session.proofs.PlaceLemmas.{count_paragraphs, text_append}

pub part_past : (kept : List Layout) (pos count : ℕ) → length (text_of kept) < pos + count → text_part kept pos count ≡ None
part_past kept pos count past = cond-true (nat_lt (length (text_of kept)) (pos + count)) None _ (lt-ltb (length (text_of kept)) (pos + count) past)

pub part_within : (kept : List Layout) (pos count : ℕ) → pos + count ≤ length (text_of kept)
    → text_part kept pos count ≡ Some (take count (slice_range (text_of kept) pos (paragraph_end kept pos)))
part_within kept pos count within = cond-false (nat_lt (length (text_of kept)) (pos + count)) None _ (le-ltb (length (text_of kept)) (pos + count) within)

pub part_read : (kept : List Layout) (pos : ℕ) (found : Found) → Finds chars_of chars_of lines_of kept pos found → (l : Layout) → Some l ≡ slice_get kept found.index → All IsLined kept
    → drop found.rest l.text ≡ slice_range (text_of kept) pos (paragraph_end kept pos)
part_read kept pos found f l read lined =
    let item : l ≡ f.item = item_read chars_of kept pos found f l read in
    let end : paragraph_end kept pos ≡ sum_by chars_of f.before + chars_of f.item =
    ap (start_of (pars_of kept)) (count_paragraphs kept pos found f l read lined _ refl) ∙ start_of-is kept (found.index + 1) ∙ sum_next chars_of kept pos found f chars_of in
    let place : length (text_of f.before) + found.rest ≡ pos = omega (arith, f.rest, length-text f.before) in
    let whole : text_of kept ≡ text_of f.before ++ (f.item.text ++ text_of f.after) = ap text_of f.place ∙ text_append f.before (f.item ∷ f.after) in
    let size : length (drop found.rest f.item.text) ≡ paragraph_end kept pos - pos = omega (arith, end, f.rest, length-drop found.rest f.item.text) in
    let rest : drop pos (text_of kept) ≡ drop found.rest f.item.text ++ text_of f.after =
    ap₂ (λ (n : ℕ) (cs : List ℕ). drop n cs) (sym place) whole ∙ drop-append-add (text_of f.before) (f.item.text ++ text_of f.after) found.rest
    ∙ drop-append-le found.rest f.item.text (text_of f.after) (omega (arith, f.within)) in
    ap (λ (x : Layout). drop found.rest x.text) item
    ∙ sym (ap (take (paragraph_end kept pos - pos)) rest ∙ take_at (drop found.rest f.item.text) (text_of f.after) (paragraph_end kept pos - pos) size)

pub none_part : (kept : List Layout) (pos count : ℕ) → is_none (text_part kept pos count) ≡ nat_lt (length (text_of kept)) (pos + count)
none_part kept pos count = go (nat_lt (length (text_of kept)) (pos + count)) (take count (slice_range (text_of kept) pos (paragraph_end kept pos)))
  where
    go : (b : Bool) (x : List ℕ) → is_none (if b then None else Some x) ≡ b
    go true x = refl
    go false x = refl

pub same_none : {A B : Type 0} (f : A → B) (o : Option A) → is_none o ≡ is_none (option_map f o)
same_none f None = refl
same_none f (Some x) = refl

-- ---- one more part of a range, after those that were read

-- a prefix of a prefix of a list is a prefix of the list
front_is : {A : Type 0} (a b : ℕ) (zs : List A) → take a (take b zs) ≡ take (length (take a (take b zs))) zs
front_is zero b zs = refl
front_is (suc a) zero zs = refl
front_is (suc a) (suc b) [] = refl
front_is (suc a) (suc b) (z ∷ zs) = ap (λ ys. z ∷ ys) (front_is a b zs)

module _ (kept : List Layout) (pos at stop : ℕ) (begun : pos ≤ at) (more : at ≤ stop) (within : stop ≤ length (text_of kept)) (part : List ℕ)
    (read : Some part ≡ text_part kept at (stop - at)) where
  part_is : part ≡ take (stop - at) (slice_range (text_of kept) at (paragraph_end kept at))
  part_is = ap (λ o. unwrap_or o part) (read ∙ part_within kept at (stop - at) (omega (arith, more, within)))

  pub part_few : length part ≤ stop - at
  part_few = omega (arith, ap length part_is, length-take (stop - at) (slice_range (text_of kept) at (paragraph_end kept at)))

  part_front : part ≡ take (length part) (drop at (text_of kept))
  part_front =
      let is = part_is in
      is ∙ front_is (stop - at) (paragraph_end kept at - at) (drop at (text_of kept)) ∙ ap (λ (cs : List ℕ). take (length cs) (drop at (text_of kept))) (sym is)

  pub part_more : slice_range (text_of kept) pos (at + length part) ≡ slice_range (text_of kept) pos at ++ part
  part_more =
      let sizes : at + length part - pos ≡ (at - pos) + length part = omega (arith, begun) in
      let place : pos + (at - pos) ≡ at = omega (arith, begun) in
      ap (λ n. take n (drop pos (text_of kept))) sizes ∙ take-add (at - pos) (length part) (drop pos (text_of kept))
      ∙ ap (λ cs. take (at - pos) (drop pos (text_of kept)) ++ cs)
      (ap (take (length part)) (drop-drop (at - pos) pos (text_of kept) ∙ ap (λ n. drop n (text_of kept)) place) ∙ sym part_front)

-- `text_part` returns a part if the range is inside the text
pub part_there : (kept : List Layout) (at count : ℕ) → at + count ≤ length (text_of kept) → None ≡ text_part kept at count → ⊥
part_there kept at count within none = let wrong = none ∙ part_within kept at count within in cc wrong

-- a range consists of the characters that were read up to a position and the remaining characters
pub all_parts : (kept : List Layout) (pos at stop : ℕ) → pos ≤ at → at ≤ stop
    → slice_range (text_of kept) pos stop ≡ slice_range (text_of kept) pos at ++ take (stop - at) (drop at (text_of kept))
all_parts kept pos at stop begun more =
    let sizes : stop - pos ≡ (at - pos) + (stop - at) = omega (arith, begun, more) in
    let place : pos + (at - pos) ≡ at = omega (arith, begun) in
    ap (λ n. take n (drop pos (text_of kept))) sizes ∙ take-add (at - pos) (stop - at) (drop pos (text_of kept))
    ∙ ap (λ cs. take (at - pos) (drop pos (text_of kept)) ++ cs)
    (ap (take (stop - at)) (drop-drop (at - pos) pos (text_of kept) ∙ ap (λ n. drop n (text_of kept)) place))

-- the UTF-8 length of a range is `None` if the range is past the end, and otherwise the number of its bytes
pub len_past : (kept : List Layout) (pos count : ℕ) → length (text_of kept) < pos + count → utf8_len kept pos count ≡ None
len_past kept pos count past = cond-true (nat_lt (length (text_of kept)) (pos + count)) None _ (lt-ltb (length (text_of kept)) (pos + count) past)

pub len_within : (kept : List Layout) (pos count : ℕ) → pos + count ≤ length (text_of kept) → utf8_len kept pos count ≡ Some (length (utf8_part kept pos count))
len_within kept pos count within = cond-false (nat_lt (length (text_of kept)) (pos + count)) None _ (le-ltb (length (text_of kept)) (pos + count) within)
